-- The Gregorian calendar, day by day: the date after a date, the date before it, and so the date of each day, onward
-- and back from 1970-01-01. Years are integers; before year 1 comes year 0.
use Rattle.std.specs.Prelude.{Bool, not, ◌&&◌, ◌||◌, cond, [], ◌∷◌, ℕ, zero, suc, ◌+◌, ◌-◌, ◌%◌, eqb, ltb, leb, ℤ, pos, negsuc, nat_abs, get_or}
use Rattle.std.proofs.Math.IntN.{suc_ℤ, pred_ℤ}

-- a year, a month from 1 on and a day from 1 on, whether or not the calendar has them
pub record Date : Type 0 where
  pub year : ℤ
  pub month : ℕ
  pub day : ℕ

abbrev pub on : ℤ → ℕ → ℕ → Date
on y m d = record { year = y; month = m; day = d }

-- k divides the year, before year 0 too
abbrev pub divides : ℕ → ℤ → Bool
divides k y = eqb (nat_abs y % k) 0

-- every fourth year is a leap year, but of the hundreds only every fourth
abbrev pub leap : ℤ → Bool
leap y = divides 4 y && (not (divides 100 y) || divides 400 y)

-- the days of the month, in a leap year or another
unfoldable pub days_in : Bool → ℕ → ℕ
days_in l m = get_or (31 ∷ cond l 29 28 ∷ 31 ∷ 30 ∷ 31 ∷ 30 ∷ 31 ∷ 31 ∷ 30 ∷ 31 ∷ 30 ∷ 31 ∷ []) (m - 1) 0

abbrev pub month_length : ℤ → ℕ → ℕ
month_length y m = days_in (leap y) m

-- the calendar has the month, and its month has the day
abbrev pub has_month : Date → Bool
has_month d = leb 1 d.month && leb d.month 12

abbrev pub has_day : Date → Bool
has_day d = leb 1 d.day && leb d.day (month_length d.year d.month)

-- the date of the day after
unfoldable pub next : Date → Date
next d =
    cond (ltb d.day (month_length d.year d.month)) (on d.year d.month (d.day + 1))
    (cond (ltb d.month 12) (on d.year (d.month + 1) 1) (on (suc_ℤ d.year) 1 1))

-- the date of the day before
unfoldable pub prev : Date → Date
prev d =
    cond (ltb 1 d.day) (on d.year d.month (d.day - 1))
    (cond (ltb 1 d.month) (on d.year (d.month - 1) (month_length d.year (d.month - 1)))
    (on (pred_ℤ d.year) 12 31))

-- Unix day 0
abbrev pub unix_epoch : Date
unix_epoch = on (pos 1970) 1 1

-- the date of a Unix day
unfoldable pub date_of : ℤ → Date
date_of (pos zero) = unix_epoch
date_of (pos (suc n)) = next (date_of (pos n))
date_of (negsuc zero) = prev unix_epoch
date_of (negsuc (suc n)) = prev (date_of (negsuc n))
