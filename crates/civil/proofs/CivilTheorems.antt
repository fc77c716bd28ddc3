-- Counts and real fields come back as they went, the date of a count is the calendar's date of its day, and later
-- counts have no earlier dates.
use Rattle.std.specs.Prelude.{Ok, Result}
use mathlib.Core.Path.{◌≡◌, refl, sym, ap, ◌∙◌}
use mathlib.Core.Bool.{Bool, true, false, cond}
use Prim.Native.Nat.{ℕ, ◌+◌, ◌*◌, ◌/◌, ◌%◌, ◌≤◌, ◌<◌, ◌^◌}
use native.Mathlib.Omega.{arith}
use lib.Dec.{ltb}
use lib.IntN.{ℤ, pos, negsuc, ◌+ℤ◌, ◌-ℤ◌, -ℤ-+ℤ_cancel}
use Rattle.refusals.specs.declared.Refusal.{Refusal}
use Rattle.refusals.proofs.Tells.{outcome_tells}
use Rattle.refusals.specs.Outcome.{answered, refused, outcome_in}
use Rattle.counts.specs.Exact.{count_of}
use Rattle.counts.specs.Units as units
use Rattle.counts.proofs.Difference.{not_below, of_naturals}
use Rattle.counts.proofs.Fitting.{is_count}
use Rattle.calendar.specs.Calendar.{date_of}
use Rattle.calendar.specs.Formula.{era, yoe, doy, doe, formula, day_of}
use Rattle.calendar.specs.Dates.{utc_epoch_day}
use Rattle.calendar.proofs.CalendarTheorems.{day_of_date, date_of_day, real_date}
use Rattle.calendar.proofs.DateOrder.{NotAfter, no_earlier_dates}
use Rattle.civil.specs.Fields.{fields, date_in, fields_of, time_of, on_day, count_at}
use Rattle.civil.specs.declared.CivilDateTime.{CivilDateTime}
use Rattle.civil.proofs.InRange.{InRange}

-- the nanoseconds of a day
abbrev pub day_nanos : ℕ
day_nanos = units.day_seconds * units.second

-- fields that a clock shows in a day without an inserted second
pub record RealFields (c : CivilDateTime) : Type 0 where
  pub in_range : InRange c
  pub second : c.second < 60

-- ---- the statements
abbrev pub CountsComeBack : Type 0
CountsComeBack = (n : ℕ) → n < 2 ^ 64 → count_at (fields_of n) ≡ answered n

-- which fields are real is told from both sides: those of every count are, and those that are come back from their
-- count
abbrev pub FieldsOfCountsAreReal : Type 0
FieldsOfCountsAreReal = (n : ℕ) → RealFields (fields_of n)

abbrev pub RealFieldsComeBack : Type 0
RealFieldsComeBack = (c : CivilDateTime) (n : ℕ) → RealFields c → count_at c ≡ answered n → fields_of n ≡ c

abbrev pub DateOfACountIsItsDays : Type 0
DateOfACountIsItsDays = (n : ℕ) → date_in (fields_of n) ≡ date_of (pos (n / day_nanos + utc_epoch_day))

abbrev pub LaterCountsHaveNoEarlierDates : Type 0
LaterCountsHaveNoEarlierDates = (n m : ℕ) → n ≤ m → NotAfter (date_in (fields_of n)) (date_in (fields_of m))

-- the count of a date that the calendar has goes by the calendar's day
abbrev pub RealDatesGoByTheCalendar : Type 0
RealDatesGoByTheCalendar =
    (c : CivilDateTime) (z : ℤ) → date_of z ≡ date_in c → count_at c ≡ on_day (z -ℤ pos utc_epoch_day) (time_of c)

-- of the calls, by their contracts: `to_utc_nanos` answers n for what `from_utc_nanos` gives of n,
-- and `from_utc_nanos` gives back real fields for which `to_utc_nanos` answers n
abbrev pub CallsBringCountsBack : Type 0
CallsBringCountsBack =
    (n : ℕ) (c : CivilDateTime) (x : Result ℕ Refusal) → n < 2 ^ 64 → c ≡ fields_of n → outcome_in x ≡ count_at c → x ≡ Ok n

abbrev pub CallsBringFieldsBack : Type 0
CallsBringFieldsBack =
    (c d : CivilDateTime) (n : ℕ) → RealFields c → outcome_in (Ok n) ≡ count_at c → d ≡ fields_of n → d ≡ c

-- fields that no clock shows are counted all the same: 2023-02-31 is 2023-03-03, and 255 hours of 1972-01-01 are
-- 918,000 s
abbrev pub FebruaryThirtyFirst : Type 0
FebruaryThirtyFirst = count_at (fields (pos 2023) 2 31 0 0 0 0) ≡ count_at (fields (pos 2023) 3 3 0 0 0 0)

abbrev pub Hour255 : Type 0
Hour255 = count_at (fields (pos 1972) 1 1 255 0 0 0) ≡ answered (918000 * units.second)

-- ---- a count and back
seconds_of_day : (s : ℕ) → s % 86400 / 3600 * 3600 + s % 3600 / 60 * 60 + s % 60 ≡ s % 86400
seconds_of_day s = sums (s % 86400) (s % 3600) (s % 60) hours minutes
  where
    hours : s % 3600 ≡ s % 86400 % 3600
    hours = omega arith

    minutes : s % 60 ≡ s % 3600 % 60
    minutes = omega arith

    sums : (d h m : ℕ) → h ≡ d % 3600 → m ≡ h % 60 → d / 3600 * 3600 + h / 60 * 60 + m ≡ d
    sums d h m e f = omega arith

whole : (n : ℕ) → n / 1000000000 / 86400 * 86400000000000 + time_of (fields_of n) ≡ n
whole n =
    sums (n / 1000000000 / 86400) (n / 1000000000 % 86400) _ (n / 1000000000) (n % 1000000000)
    (seconds_of_day (n / 1000000000))
    (omega arith) (omega arith)
  where
    sums : (d r t s k : ℕ) → t ≡ r → d * 86400 + r ≡ s → s * 1000000000 + k ≡ n
        → d * 86400000000000 + (t * 1000000000 + k) ≡ n
    sums d r t s k e f g = omega arith

pub count_back : CountsComeBack
count_back n h =
    ap (λ (z : ℤ). on_day (z -ℤ pos utc_epoch_day) (time_of (fields_of n))) (day_of_date (pos (d + utc_epoch_day)))
    ∙ ap (λ (z : ℤ). on_day z (time_of (fields_of n)))
    (of_naturals (d + utc_epoch_day) utc_epoch_day ∙ not_below (d + utc_epoch_day)
    utc_epoch_day (omega arith) ∙ ap pos (omega arith))
    ∙ ap (λ (k : ℕ). count_of (pos k)) (whole n) ∙ is_count n h
  where
    d : ℕ
    d = n / 1000000000 / 86400

-- ---- real fields and back
record Answered (z : ℤ) (t n : ℕ) : Type 0 where
  day : ℕ
  is : z ≡ pos day
  sum : day * day_nanos + t ≡ n

answered_on : (z : ℤ) (t n : ℕ) → on_day z t ≡ answered n → Answered z t n
answered_on (pos d) t n e = record { day = d; is = refl; sum = by_size (ltb (d * day_nanos + t) (2 ^ 64)) e }
  where
    by_size : (b : Bool) → cond b (answered (d * day_nanos + t)) (refused 1) ≡ answered n → d * day_nanos + t ≡ n
    by_size true e = cc
    by_size false e = cc
answered_on (negsuc d) t n e = let z : ◌≡◌ {A = ℕ} 0 1 = cc in absurd (omega arith)

-- the seconds of a day and a time give both back
module _ (d h m s : ℕ) (few_hours : h < 24) (few_minutes : m < 60) (few_seconds : s < 60) where
  abbrev seconds : ℕ
  seconds = d * 86400 + (h * 3600 + m * 60 + s)

  back-day : seconds / 86400 ≡ d
  back-day = omega arith

  back_hour : seconds % 86400 / 3600 ≡ h
  back_hour = omega arith

  back_minute : seconds % 3600 / 60 ≡ m
  back_minute = omega arith

  back-second : seconds % 60 ≡ s
  back-second = omega arith

-- a quotient by a part of a day is below the number of those parts
pub fields_are_real : FieldsOfCountsAreReal
fields_are_real n =
    record {
      in_range = record {
        date = real_date (pos (n / 1000000000 / 86400 + utc_epoch_day));
        hour = omega arith;
        minute = omega arith;
        second = omega arith;
        nanos = omega arith;
      };
      second = omega arith;
    }

pub fields_back : RealFieldsComeBack
fields_back f n r e =
    λ i. fields (date i).year (date i).month (date i).day (hour i) (minute i) (second i) (nanos i)
  where
    a : Answered (day_of (date_in f) -ℤ pos utc_epoch_day) (time_of f) n
    a = answered_on (day_of (date_in f) -ℤ pos utc_epoch_day) (time_of f) n e

    few_hours : f.hour < 24
    few_hours = omega (arith, r.in_range.hour)

    few_minutes : f.minute < 60
    few_minutes = omega (arith, r.in_range.minute)

    few_seconds : f.second < 60
    few_seconds = omega (arith, r.second)

    time : ℕ
    time = f.hour * 3600 + f.minute * 60 + f.second

    total : n ≡ (a.day * 86400 + time) * 1000000000 + f.nanos
    total = sums a.day time f.nanos n a.sum
      where
        sums : (d t k n : ℕ) → d * 86400000000000 + (t * 1000000000 + k) ≡ n → n ≡ (d * 86400 + t) * 1000000000 + k
        sums d t k n e = omega arith

    whole-seconds : n / 1000000000 ≡ a.day * 86400 + time
    whole-seconds = quotient n (a.day * 86400 + time) f.nanos total r.in_range.nanos
      where
        quotient : (n s k : ℕ) → n ≡ s * 1000000000 + k → k < 1000000000 → n / 1000000000 ≡ s
        quotient n s k e h = omega arith

    nanos : n % 1000000000 ≡ f.nanos
    nanos = rest n (a.day * 86400 + time) f.nanos total r.in_range.nanos
      where
        rest : (n s k : ℕ) → n ≡ s * 1000000000 + k → k < 1000000000 → n % 1000000000 ≡ k
        rest n s k e h = omega arith

    hour : n / 1000000000 % 86400 / 3600 ≡ f.hour
    hour =
        ap (λ (s : ℕ). s % 86400 / 3600) whole-seconds
        ∙ back_hour a.day f.hour f.minute f.second few_hours few_minutes few_seconds

    minute : n / 1000000000 % 3600 / 60 ≡ f.minute
    minute =
        ap (λ (s : ℕ). s % 3600 / 60) whole-seconds
        ∙ back_minute a.day f.hour f.minute f.second few_hours few_minutes few_seconds

    second : n / 1000000000 % 60 ≡ f.second
    second =
        ap (λ (s : ℕ). s % 60) whole-seconds
        ∙ back-second a.day f.hour f.minute f.second few_hours few_minutes few_seconds

    date : date_of (pos (n / 1000000000 / 86400 + utc_epoch_day)) ≡ date_in f
    date =
        ap (λ (d : ℕ). date_of (pos (d + utc_epoch_day)))
        (ap (λ (s : ℕ). s / 86400) whole-seconds ∙ back-day a.day f.hour
        f.minute f.second few_hours few_minutes few_seconds)
        ∙ ap date_of (sym (sym (-ℤ-+ℤ_cancel (day_of (date_in f)) (pos utc_epoch_day))
        ∙ ap (λ (z : ℤ). z +ℤ pos utc_epoch_day) a.is))
        ∙ date_of_day (date_in f) r.in_range.date

pub date_of_count : DateOfACountIsItsDays
date_of_count n = ap (λ (d : ℕ). date_of (pos (d + utc_epoch_day))) (days n)
  where
    days : (n : ℕ) → n / 1000000000 / 86400 ≡ n / 86400000000000
    days n = omega arith

pub later-counts : LaterCountsHaveNoEarlierDates
later-counts n m h =
    no_earlier_dates (n / 1000000000 / 86400 + utc_epoch_day) (m / 1000000000 / 86400 + utc_epoch_day) (days n m h)
  where
    days : (n m : ℕ) → n ≤ m → n / 1000000000 / 86400 + 730 ≤ m / 1000000000 / 86400 + 730
    days n m h = omega arith

pub by_the_calendar : RealDatesGoByTheCalendar
by_the_calendar c z e = ap (λ (d : ℤ). on_day (d -ℤ pos utc_epoch_day) (time_of c)) (ap day_of (sym e) ∙ day_of_date z)

-- ---- the calls
pub calls_bring_counts_back : CallsBringCountsBack
calls_bring_counts_back n c x h e f = outcome_tells x (Ok n) (f ∙ ap count_at e ∙ count_back n h)

pub calls_bring_fields_back : CallsBringFieldsBack
calls_bring_fields_back c d n r e f = f ∙ fields_back c n r (sym e)

-- ---- computed
pub february_31 : FebruaryThirtyFirst
unfolding era yoe doy doe formula
february_31 = refl

pub hour_255 : Hour255
unfolding era yoe doy doe formula
hour_255 = refl
