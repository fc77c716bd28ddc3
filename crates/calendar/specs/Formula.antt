-- civil.rs's formula for the Unix day of any fields, line by line, over exact integers; its `/` drops the fraction
-- (`quot_z`).
use Rattle.std.specs.Prelude.{cond, ℕ, ◌+◌, ◌-◌, ◌*◌, ◌/◌, ltb, ℤ, pos, ◌+ℤ◌, ◌-ℤ◌, ◌*ℤ◌}
use Rattle.std.proofs.Math.IntN.{pred_ℤ}
use Rattle.std.specs.Int.Signed.{non_neg, quot_z}
use Rattle.calendar.specs.Calendar.{Date}

-- the month counted from March, 0, and the year that began in that March
abbrev pub from_march : ℕ → ℕ
from_march month = cond (ltb 2 month) (month - 3) (month + 9)

abbrev pub march_year : ℤ → ℕ → ℤ
march_year year month = cond (ltb 2 month) year (pred_ℤ year)

-- the 400 years that hold a year, and the year's place in them
unfoldable pub era : ℤ → ℤ
era y = cond (non_neg y) (quot_z y (pos 400)) (quot_z (y -ℤ pos 399) (pos 400))

unfoldable pub yoe : ℤ → ℤ
yoe y = y -ℤ era y *ℤ pos 400

-- days before a month, where each five from March on have 153; a formula and not a table of twelve, since civil.rs takes
-- any month field by it, also one that no calendar has
abbrev pub month_start : ℕ → ℕ
month_start m = (153 * m + 2) / 5

unfoldable pub doy : ℕ → ℕ → ℤ
doy m d = pos (month_start m) +ℤ pos d -ℤ pos 1

unfoldable pub doe : ℤ → ℕ → ℕ → ℤ
doe y m d = yoe y *ℤ pos 365 +ℤ quot_z (yoe y) (pos 4) -ℤ quot_z (yoe y) (pos 100) +ℤ doy m d

-- the Unix day
unfoldable pub formula : ℤ → ℕ → ℕ → ℤ
formula year month day =
    era (march_year year month) *ℤ pos 146097 +ℤ doe (march_year year month) (from_march month) day -ℤ pos 719468

abbrev pub day_of : Date → ℤ
day_of d = formula d.year d.month d.day
