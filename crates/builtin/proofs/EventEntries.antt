-- The table's rule for a threshold is UTC − E + offset, because 315,964,800 s are E and the two years before 1972.
use mathlib.Core.Path.{◌≡◌, refl, sym, ap, ◌∙◌}
use mathlib.Core.Bool.{Bool, true, false, cond}
use mathlib.Core.List.{List, [], ◌∷◌, map}
use Prim.Native.Nat.{ℕ, suc, ◌+◌, ◌*◌, ◌^◌}
use native.Mathlib.Omega.{arith}
use lib.Dec.{ltb}
use lib.IntN.{ℤ, pos, negsuc, sub_ℕ, ◌+ℤ◌, ◌-ℤ◌, ◌*ℤ◌, -ℤ-+ℤ_cancel}
use Rattle.refusals.proofs.Steps.{goes_on, stops}
use Rattle.refusals.specs.Outcome.{Outcome, answered, refused, then}
use Rattle.counts.specs.Units.{second, day_seconds}
use Rattle.counts.specs.Exact.{count_of}
use Rattle.counts.proofs.Difference.{not_below, below, same, of_naturals}
use Rattle.calendar.specs.Calendar.{Date, date_of}
use Rattle.calendar.specs.Formula.{day_of, formula, era, yoe, doy, doe}
use Rattle.calendar.specs.Dates.{utc_epoch_day}
use Rattle.calendar.proofs.Sums.{sum, times}
use Rattle.civil.specs.Fields.{on_day, count_at}
use Rattle.civil.proofs.CivilTheorems.{by_the_calendar}
use Rattle.tables.specs.Entries.{Entry}
use Rattle.conversions.specs.Conversions.{E, in_nanos}
use Rattle.builtin.specs.Builtin.{gps_epoch_unix, events, threshold_of, entries_from}
use Rattle.builtin.specs.Events.{midnight, event_threshold, entry_of_event}

-- ---- the statements
-- where a day's midnight has a UTC count, the threshold is UTC − E + offset
abbrev pub ThresholdIsByUtc : Type 0
ThresholdIsByUtc =
    (d : Date) (n : ℤ) (utc : ℕ) → count_at (midnight d) ≡ answered utc → threshold_of d n ≡ pos utc -ℤ pos E +ℤ in_nanos n

-- for a date that the calendar has, the UTC count is that of the calendar's day
abbrev pub EventsGoByTheCalendar : Type 0
EventsGoByTheCalendar =
    (d : Date) (z n : ℤ) → date_of z ≡ d
    → event_threshold d n ≡ then (on_day (z -ℤ pos utc_epoch_day) 0) (λ utc. count_of (pos utc -ℤ pos E +ℤ in_nanos n))

-- the call's answers for a list of events, with offsets from n on
abbrev pub answers_from : ℕ → List Date → List (Outcome Entry)
answers_from n [] = []
answers_from n (d ∷ ds) = entry_of_event d (pos n) ∷ answers_from (n + 1) ds

-- for each of the eighteen events it is the entry of the built-in table
abbrev pub EventsOfTheTable : Type 0
EventsOfTheTable = answers_from 20 events ≡ map answered (entries_from 20 events)

-- ---- the two rules agree
-- the Unix second of a day from 1972-01-01 on, and its UTC count
abbrev unix : ℕ → ℕ
unix k = (k + utc_epoch_day) * day_seconds

abbrev utc_of : ℕ → ℕ
utc_of k = k * (day_seconds * second)

-- k days from 1972-01-01 on, with an offset of a − b
of_difference : (k a b : ℕ)
    → (pos (unix k) -ℤ pos gps_epoch_unix +ℤ sub_ℕ a b) *ℤ pos second
    ≡ pos (utc_of k) -ℤ pos E +ℤ sub_ℕ a b *ℤ pos second
of_difference k a b =
    ap (λ (z : ℤ). (z +ℤ sub_ℕ a b) *ℤ pos second) (of_naturals (unix k) gps_epoch_unix)
    ∙ ap (λ (z : ℤ). z *ℤ pos second) (sum (unix k) gps_epoch_unix a b)
    ∙ times (unix k + a) (gps_epoch_unix + b) second
    ∙ same ((unix k + a) * second) ((gps_epoch_unix + b) * second) (utc_of k + a * second) (E + b * second) (omega arith)
    ∙ sym ((λ i. of_naturals (utc_of k) E i +ℤ times a b second i) ∙ sum (utc_of k) E (a * second) (b * second))

of-offset : (k : ℕ) (n : ℤ)
    → (pos (unix k) -ℤ pos gps_epoch_unix +ℤ n) *ℤ pos second ≡ pos (utc_of k) -ℤ pos E +ℤ in_nanos n
of-offset k (pos a) =
    let is : sub_ℕ a 0 ≡ pos a = not_below a 0 (omega arith) ∙ ap pos (omega arith) in
    rw is at (of_difference k a 0)
of-offset k (negsuc a) =
    let is : sub_ℕ 0 (suc a) ≡ negsuc a = below 0 (suc a) (omega arith) ∙ ap negsuc (omega arith) in
    rw is at (of_difference k 0 (suc a))

by_day : (x z n : ℤ) (utc : ℕ) → x -ℤ pos utc_epoch_day ≡ z → on_day z 0 ≡ answered utc
    → (x *ℤ pos day_seconds -ℤ pos gps_epoch_unix +ℤ n) *ℤ pos second ≡ pos utc -ℤ pos E +ℤ in_nanos n
by_day x (pos k) n utc e h =
    let day : x ≡ pos (k + utc_epoch_day) =
    sym (-ℤ-+ℤ_cancel x (pos utc_epoch_day)) ∙ ap (λ (y : ℤ). y +ℤ pos utc_epoch_day) e in
    ap (λ (y : ℤ). (y *ℤ pos day_seconds -ℤ pos gps_epoch_unix +ℤ n) *ℤ pos second) day
    ∙ of-offset k n
    ∙ ap (λ (u : ℕ). pos u -ℤ pos E +ℤ in_nanos n) (by_size (ltb (utc_of k + 0) (2 ^ 64)) h)
  where
    by_size : (b : Bool) → cond b (answered (utc_of k + 0)) (refused 1) ≡ answered utc → utc_of k ≡ utc
    by_size true f = let g : utc_of k + 0 ≡ utc = cc in omega arith
    by_size false f = let g : ◌≡◌ {A = ℕ} 0 1 = cc in absurd (omega arith)
by_day x (negsuc k) n utc e h = let g : ◌≡◌ {A = ℕ} 0 1 = cc in absurd (omega arith)

pub by_utc_lem : ThresholdIsByUtc
unfolding threshold_of
by_utc_lem d n utc h = by_day (day_of d) (day_of d -ℤ pos utc_epoch_day) n utc refl h

-- ---- for real dates
pub by_calendar : EventsGoByTheCalendar
by_calendar d z n e =
    either (count_at (midnight d)) refl ∙ ap (λ (o : Outcome ℕ). then o read) (by_the_calendar (midnight d) z e)
  where
    read : ℕ → Outcome ℕ
    read utc = count_of (pos utc -ℤ pos E +ℤ in_nanos n)

    either : (o : Outcome ℕ) → count_at (midnight d) ≡ o → event_threshold d n ≡ then (count_at (midnight d)) read
    either (answered utc) h =
        goes_on (λ (u : ℕ). count_of (threshold_of d n)) h ∙ ap count_of (by_utc_lem d n utc h) ∙ sym (goes_on read h)
    either (refused k) h = stops (λ (u : ℕ). count_of (threshold_of d n)) h ∙ sym (stops read h)

-- ---- the built-in table
pub of_the_table : EventsOfTheTable
unfolding events threshold_of entries_from formula era yoe doy doe
of_the_table = refl
