-- Later days have later dates.
use mathlib.Core.Path.{◌≡◌, refl, sym, ap, subst, ◌∙◌}
use mathlib.Core.Logic.{◌⊎◌, inl, inr}
use Prim.Native.Nat.{ℕ, zero, suc, ◌≤◌, ◌<◌}
use native.Mathlib.Omega.{arith}
use native.Mathlib.Decide.{dec_lt}
use lib.Dec.{T, ltb→lt, lt→ltb, le→leb}
use lib.IntN.{ℤ, pos, negsuc, suc_ℤ}
use lib.Signed.{◌<ℤ◌, lt_z, le_z, <ℤ-≤ℤ_trans}
use Rattle.calendar.specs.Calendar.{Date, next, date_of}
use Rattle.calendar.proofs.RealDates.{Real}
use Rattle.calendar.proofs.DayByDay.{after}
use Rattle.calendar.proofs.CalendarTheorems.{real_date}

-- the order of dates: by year, then by month, then by day
pub data Before (a b : Date) : Type 0 where
  by_year : a.year <ℤ b.year → Before a b
  by_month : a.year ≡ b.year → a.month < b.month → Before a b
  by_day : a.year ≡ b.year → a.month ≡ b.month → a.day < b.day → Before a b

abbrev pub NotAfter : Date → Date → Type 0
NotAfter a b = Before a b ⊎ (a ≡ b)

-- the statement
abbrev pub LaterDaysHaveLaterDates : Type 0
LaterDaysHaveLaterDates = (n m : ℕ) → n < m → Before (date_of (pos n)) (date_of (pos m))

-- its proof
weaken : (a b : ℤ) → T (lt_z a b) → T (le_z a b)
weaken (pos a) (pos b) t = le→leb a b (omega (arith, ltb→lt a b t))
weaken (pos a) (negsuc b) t = t
weaken (negsuc a) (pos b) t = tt
weaken (negsuc a) (negsuc b) t = le→leb b a (omega (arith, ltb→lt b a t))

year_after : (y : ℤ) → T (lt_z y (suc_ℤ y))
year_after (pos a) = lt→ltb a (suc a) (omega arith)
year_after (negsuc zero) = tt
year_after (negsuc (suc a)) = lt→ltb a (suc a) (omega arith)

then : {a b c : Date} → Before a b → Before b c → Before a c
then {a} {b} {c} (by_year p) (by_year q) = by_year (<ℤ-≤ℤ_trans p (record { le = weaken b.year c.year q.lt }))
then {a} (by_year p) (by_month e q) = by_year (subst (λ (y : ℤ). a.year <ℤ y) e p)
then {a} (by_year p) (by_day e f q) = by_year (subst (λ (y : ℤ). a.year <ℤ y) e p)
then {a} {b} {c} (by_month d p) (by_year q) = by_year (subst (λ (y : ℤ). y <ℤ c.year) (sym d) q)
then (by_month d p) (by_month e q) = by_month (d ∙ e) (omega arith)
then (by_month d p) (by_day e f q) = by_month (d ∙ e) (omega arith)
then {a} {b} {c} (by_day d g p) (by_year q) = by_year (subst (λ (y : ℤ). y <ℤ c.year) (sym d) q)
then (by_day d g p) (by_month e q) = by_month (d ∙ e) (omega arith)
then (by_day d g p) (by_day e f q) = by_day (d ∙ e) (g ∙ f) (omega arith)

next-later : (d : Date) → Real d → Before d (next d)
next-later d r =
    after (Before d) d.year d.month d.day r (λ h. by_day refl refl (omega arith))
    (λ h k. by_month refl (omega arith))
    (λ h k. by_year (record { lt = year_after d.year }))

pub later_dates : LaterDaysHaveLaterDates
unfolding date_of
later_dates n zero h = absurd (omega arith)
later_dates n (suc m) h = by_order (dec_lt n m) (later_dates n m)
  where
    by_order : Dec (n < m) → (n < m → Before (date_of (pos n)) (date_of (pos m)))
        → Before (date_of (pos n)) (date_of (pos (suc m)))
    by_order (yes l) earlier = then (earlier l) (next-later (date_of (pos m)) (real_date (pos m)))
    by_order (no g) earlier =
        let e : n ≡ m = omega (arith, g) in
        subst (λ (k : ℕ). Before (date_of (pos k)) (date_of (pos (suc m)))) (sym e)
        (next-later (date_of (pos m)) (real_date (pos m)))

pub no_earlier_dates : (n m : ℕ) → n ≤ m → NotAfter (date_of (pos n)) (date_of (pos m))
no_earlier_dates n m h = by_order (dec_lt n m)
  where
    by_order : Dec (n < m) → NotAfter (date_of (pos n)) (date_of (pos m))
    by_order (yes l) = inl (later_dates n m l)
    by_order (no g) =
        let e : n ≡ m = omega (arith, g) in
        inr (ap (λ (k : ℕ). date_of (pos k)) e)
