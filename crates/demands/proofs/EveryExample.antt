-- Every example holds by computation; only dates, which are too many days from 1970, by the calendar's theorem, and
-- civil readings by lookups instead of the walk over days.
use mathlib.Core.Path.{◌≡◌, refl, sym, ap, ◌∙◌}
use mathlib.Core.Bool.{true, cond}
use Prim.Native.Nat.{ℕ, ◌*◌, ◌^◌, ◌<◌}
use native.Mathlib.Omega.{arith}
use lib.IntN.{pos}
use Rattle.refusals.specs.Outcome.{answered, refused}
use Rattle.counts.specs.Units.{second}
use Rattle.calendar.specs.Calendar.{Date, on, date_of, days_in}
use Rattle.calendar.specs.Formula.{formula, era, yoe, doy, doe}
use Rattle.calendar.proofs.RealDates.{real}
use Rattle.calendar.proofs.CalendarTheorems.{date_of_day}
use Rattle.civil.specs.Fields.{fields}
use Rattle.civil.specs.declared.CivilDateTime.{CivilDateTime}
use Rattle.tables.specs.Entries.{neighbours, on_days, in_force, lookup, last_or, join_refusal}
use Rattle.tables.specs.Slots.{paired}
use Rattle.builtin.specs.Builtin.{builtin, events, threshold_of, entries_from}
use Rattle.builtin.proofs.Regular.{builtin_on_days}
use Rattle.readings.specs.Readings.{gps_to_civil, civil_to_gps, same_fields}
use Rattle.readings.proofs.ByLookup as by_lookup
use Rattle.readings.proofs.ReadBack.{read_exactly}
use Rattle.demands.specs.Examples.{from, Every, ◌also◌, none_left, examples}

last-day : date_of (pos 214_233) ≡ on (pos 2556) 7 20
unfolding formula era yoe doy doe days_in
last-day = date_of_day (on (pos 2556) 7 20) (real (on (pos 2556) 7 20) tt)

-- the fields at a time of day
abbrev pub at : ℕ → ℕ → ℕ → ℕ → Date → CivilDateTime
at h m s n d = fields d.year d.month d.day h m s n

-- civil readings
june_30 : date_of (pos 4_198) ≡ on (pos 1981) 6 30
unfolding formula era yoe doy doe days_in
june_30 = date_of_day (on (pos 1981) 6 30) (real (on (pos 1981) 6 30) tt)

july_first : date_of (pos 4_199) ≡ on (pos 1981) 7 1
unfolding formula era yoe doy doe days_in
july_first = date_of_day (on (pos 1981) 7 1) (real (on (pos 1981) 7 1) tt)

gps_day_0 : date_of (pos 3_657) ≡ on (pos 1980) 1 6
unfolding formula era yoe doy doe days_in
gps_day_0 = date_of_day (on (pos 1980) 1 6) (real (on (pos 1980) 1 6) tt)

june_60 : gps_to_civil builtin 46_828_800_999_999_999 ≡ answered (fields (pos 1981) 6 30 23 59 60 999_999_999)
unfolding builtin events threshold_of entries_from formula era yoe doy doe in_force lookup
june_60 =
    sym (by_lookup.reads builtin builtin_on_days 46_828_800_999_999_999)
    ∙ ap (λ (d : Date). answered (at 23 59 60 999_999_999 d)) june_30

july_1 : gps_to_civil builtin (46_828_801 * second) ≡ answered (fields (pos 1981) 7 1 0 0 0 0)
unfolding builtin events threshold_of entries_from formula era yoe doy doe in_force lookup
july_1 =
    sym (by_lookup.reads builtin builtin_on_days (46_828_801 * second))
    ∙ ap (λ (d : Date). answered (at 0 0 0 0 d)) july_first

last_of_2016 : date_of (pos 17_166) ≡ on (pos 2016) 12 31
unfolding formula era yoe doy doe days_in
last_of_2016 = date_of_day (on (pos 2016) 12 31) (real (on (pos 2016) 12 31) tt)

december_60 : gps_to_civil builtin (1_167_264_017 * second) ≡ answered (fields (pos 2016) 12 31 23 59 60 0)
unfolding builtin events threshold_of entries_from formula era yoe doy doe in_force lookup
december_60 =
    sym (by_lookup.reads builtin builtin_on_days (1_167_264_017 * second))
    ∙ ap (λ (d : Date). answered (at 23 59 60 0 d)) last_of_2016

read_back : (c : CivilDateTime) (g : ℕ) → g < 2 ^ 64 → gps_to_civil builtin g ≡ answered c → civil_to_gps builtin c ≡ answered g
read_back c g fits e = (read_exactly builtin builtin_on_days c g).1 (fits, e)

-- the lenient count of that second is the midnight of 30 June
a_day_early : civil_to_gps builtin (fields (pos 1981) 6 29 23 59 60 0) ≡ refused 14
unfolding builtin events threshold_of entries_from formula era yoe doy doe days_in in_force lookup
a_day_early =
    let c = fields (pos 1981) 6 29 23 59 60 0 in
    rw builtin_on_days (sym (by_lookup.reads-back builtin builtin_on_days c)
    ∙ ap (λ (d : Date). cond (same_fields (at 0 0 0 0 d) c) (answered (46_742_400 * second)) (refused 14)) june_30)

on_the_second_day : on_days (from 0 (86_420 * second)) ≡ true
unfolding neighbours
on_the_second_day = refl

first_day_60 : gps_to_civil (from 0 (86_420 * second)) (86_400 * second) ≡ answered (fields (pos 1980) 1 6 23 59 60 0)
unfolding neighbours in_force lookup
first_day_60 =
    sym (by_lookup.reads (from 0 (86_420 * second)) on_the_second_day (86_400 * second))
    ∙ ap (λ (d : Date). answered (at 23 59 60 0 d)) gps_day_0

pub every_example : (week : ℕ) → Every (examples week)
unfolding builtin events threshold_of entries_from formula era yoe doy doe days_in neighbours in_force lookup last_or join_refusal paired
every_example week =
    refl also refl also refl also refl also refl also refl also refl also refl also refl also refl also refl also refl also
    refl also refl also refl also refl also refl also refl also refl also refl also refl also refl also refl also refl also
    refl also refl also refl also refl also refl also refl also refl also refl also refl also refl also refl also refl also
    refl also refl also refl also refl also refl also refl also refl also refl also refl also refl also refl also
    ap (at 23 34 33 709_551_615) last-day also
    refl also refl also refl also refl also refl also refl also refl also refl also refl also
    -- lookups
    refl also refl also refl also refl also
    -- civil readings
    june_60 also july_1 also
    read_back (fields (pos 1981) 6 30 23 59 60 999_999_999) 46_828_800_999_999_999 (omega arith) june_60 also
    read_back (fields (pos 1981) 7 1 0 0 0 0) (46_828_801 * second) (omega arith) july_1 also
    ap (at 23 59 60 0) last_of_2016 also december_60 also
    a_day_early also refl also first_day_60 also refl also refl also
    -- fields that do not exist
    refl also refl also refl also refl also refl also refl also refl also refl also refl also refl also refl also none_left
