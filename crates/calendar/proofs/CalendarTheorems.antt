-- For real dates the formula is the calendar, in every year, before year 0 too.
-- The date of the day that it gives a date is the date, and the day that it gives the date of a day is the day.
use mathlib.Core.Path.{◌≡◌, refl, ap, sym, subst, ◌∙◌}
use Prim.Native.Nat.{zero, suc}
use mathlib.Core.Logic.{◌↔◌}
use mathlib.Core.Bool.{true}
use lib.Dec.{T}
use lib.IntN.{ℤ, pos, negsuc, suc_ℤ, pred_ℤ}
use Rattle.calendar.specs.Calendar.{Date, days_in, next, prev, unix_epoch, date_of}
use Rattle.calendar.specs.Formula.{day_of, era, yoe, doy, doe, formula}
use Rattle.calendar.proofs.RealDates.{Real, is_real, real, is_real_lem}
use Rattle.calendar.proofs.DayByDay.{next_real, prev_real, next-prev, prev-next}
use Rattle.calendar.proofs.DaySteps.{next-day, prev-day, day_zero}

-- the statements
abbrev pub EveryDayHasARealDate : Type 0
EveryDayHasARealDate = (z : ℤ) → Real (date_of z)

abbrev pub FormulaGivesTheDay : Type 0
FormulaGivesTheDay = (z : ℤ) → day_of (date_of z) ≡ z

abbrev pub CalendarGivesTheDate : Type 0
CalendarGivesTheDate = (d : Date) → Real d → date_of (day_of d) ≡ d

-- the test of a date tells the dates of days
abbrev pub TestTellsTheDates : Type 0
TestTellsTheDates = (d : Date) → (is_real d ≡ true) ↔ ((z : ℤ) × (date_of z ≡ d))

-- their proofs
epoch_real : Real unix_epoch
unfolding days_in
epoch_real = real unix_epoch tt

pub real_date : EveryDayHasARealDate
unfolding date_of
real_date (pos zero) = epoch_real
real_date (pos (suc n)) = next_real (date_of (pos n)) (real_date (pos n))
real_date (negsuc zero) = prev_real unix_epoch epoch_real
real_date (negsuc (suc n)) = prev_real (date_of (negsuc n)) (real_date (negsuc n))

epoch_day : day_of unix_epoch ≡ pos 0
unfolding formula era yoe doy doe
epoch_day = refl

pub day_of_date : FormulaGivesTheDay
unfolding date_of
day_of_date (pos zero) = epoch_day
day_of_date (pos (suc n)) = next-day (date_of (pos n)) (real_date (pos n)) ∙ ap suc_ℤ (day_of_date (pos n))
day_of_date (negsuc zero) = prev-day unix_epoch epoch_real ∙ ap pred_ℤ epoch_day
day_of_date (negsuc (suc n)) = prev-day (date_of (negsuc n)) (real_date (negsuc n)) ∙ ap pred_ℤ (day_of_date (negsuc n))

-- a real date is reached from 1970-01-01 by as many steps as its day says
pub reached : (z : ℤ) (d : Date) → Real d → day_of d ≡ z → date_of z ≡ d
unfolding date_of
reached (pos zero) d r h = sym (day_zero d r h)
reached (pos (suc n)) d r h =
    ap next (reached (pos n) (prev d) (prev_real d r) (prev-day d r ∙ ap pred_ℤ h)) ∙ next-prev d r
reached (negsuc zero) d r h =
    ap prev (sym (day_zero (next d) (next_real d r) (next-day d r ∙ ap suc_ℤ h))) ∙ prev-next d r
reached (negsuc (suc n)) d r h =
    ap prev (reached (negsuc n) (next d) (next_real d r) (next-day d r ∙ ap suc_ℤ h)) ∙ prev-next d r

pub date_of_day : CalendarGivesTheDate
date_of_day d r = reached (day_of d) d r refl

pub test_tells : TestTellsTheDates
test_tells d = (
  λ e. (day_of d, date_of_day d (real d (subst T (sym e) tt))),
  λ (z, is). subst (λ (x : Date). is_real x ≡ true) is (is_real_lem (real_date z)),
)
