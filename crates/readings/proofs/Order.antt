-- Civil readings rise with GPS counts, so that no two counts have one reading: from the walk over days and the order
-- of dates and of times of day. And fields that are the same one by one are the same.
use mathlib.Core.Path.{◌≡◌, refl, sym, ◌∙◌}
use mathlib.Core.Bool.{Bool, true, false, cond, false≢true}
use mathlib.Core.List.{List, [], ◌∷◌}
use mathlib.Core.Logic.{inl, inr, ◌↔◌}
use Prim.Native.Nat.{ℕ, ◌+◌, ◌*◌, ◌/◌, ◌%◌, ◌≤◌, ◌<◌}
use native.Mathlib.Omega.{arith}
use native.Mathlib.Decide.{dec_lt}
use borrow.Author.Tests.{lt-ltb, le-ltb, eqb-true, eq-eqb}
use lib.Dec.{ltb, eqb}
use lib.IntN.{ℤ, pos}
use Rattle.counts.specs.Units.{second}
use Rattle.scales.specs.Scales.{tai_minus_gps}
use Rattle.calendar.specs.Calendar.{date_of}
use Rattle.civil.specs.Fields.{fields}
use Rattle.civil.specs.declared.CivilDateTime.{CivilDateTime}
use Rattle.tables.specs.Entries.{Entry, day}
use Rattle.tables.proofs.Integers.{equal_true, equal_yes}
use Rattle.tables.proofs.Neighbours.{both}
use Rattle.readings.specs.Readings.{day_of_gps, gps_epoch_day, fields_in_day, reading_of, same_fields}
use Rattle.readings.specs.Order.{in_order, below, earlier}
use Rattle.readings.proofs.Walked.{Sooner, within_a_day, walk_rises}
use Rattle.readings.proofs.DatesRise.{not_above, not_itself, on_date, dates_rise, same_date}

-- ---- times of day
-- the numbers of the time of day after s seconds and k nanoseconds, and of 23:59:60 and k nanoseconds
abbrev clock : ℕ → ℕ → List ℤ
clock s k = pos (s % 86400 / 3600) ∷ pos (s % 3600 / 60) ∷ pos (s % 60) ∷ pos k ∷ []

abbrev sixty : ℕ → List ℤ
sixty k = pos 23 ∷ pos 59 ∷ pos 60 ∷ pos k ∷ []

nanos_rise : (k k' : ℕ) → k < k' → below (pos k ∷ []) (pos k' ∷ []) ≡ true
nanos_rise k k' h = not_above k k' [] [] (omega arith) (λ e. absurd (omega arith))

-- hours, minutes and seconds compare as the seconds that they are
parts_rise : (h m s h' m' s' k k' : ℕ) → m < 60 → s < 60 → m' < 60 → s' < 60
    → h * 3600 + m * 60 + s ≤ h' * 3600 + m' * 60 + s' → (h * 3600 + m * 60 + s ≡ h' * 3600 + m' * 60 + s' → k < k')
    → below (pos h ∷ pos m ∷ pos s ∷ pos k ∷ []) (pos h' ∷ pos m' ∷ pos s' ∷ pos k' ∷ []) ≡ true
parts_rise h m s h' m' s' k k' a b a' b' l rest =
    not_above h h' _ _ (omega arith)
    (λ e. not_above m m' _ _ (omega arith)
    (λ f. not_above s s' _ _ (omega arith) (λ g. nanos_rise k k' (rest (omega arith)))))

parts_of-seconds : (s : ℕ) → s < 86400 → s % 86400 / 3600 * 3600 + s % 3600 / 60 * 60 + s % 60 ≡ s
parts_of-seconds s few = omega arith

few_minutes : (s : ℕ) → s % 3600 / 60 < 60
few_minutes s = omega arith

few_seconds : (s : ℕ) → s % 60 < 60
few_seconds s = omega arith

clock_rises : (s s' k k' : ℕ) → s' < 86400 → s ≤ s' → (s ≡ s' → k < k') → below (clock s k) (clock s' k') ≡ true
clock_rises s s' k k' few l rest =
    let sum = parts_of-seconds s (omega arith) in
    let sum' = parts_of-seconds s' few in
    parts_rise (s % 86400 / 3600) (s % 3600 / 60) (s % 60) (s' % 86400 / 3600) (s' % 3600 / 60) (s' % 60) k k'
    (few_minutes s) (few_seconds s) (few_minutes s') (few_seconds s')
    (rw (sum, sum') l) (λ e. rest (sym sum ∙ e ∙ sum'))

sixty-after : (s k k' : ℕ) → below (clock s k) (sixty k') ≡ true
sixty-after s k k' =
    not_above (s % 86400 / 3600) 23 _ _ (omega arith)
    (λ h. not_above (s % 3600 / 60) 59 _ _ (omega arith)
    (λ m. not_above (s % 60) 60 _ _ (omega arith) (λ e. absurd (omega arith))))

sixty_rises : (k k' : ℕ) → k < k' → below (sixty k) (sixty k') ≡ true
unfolding below
sixty_rises k k' h = nanos_rise k k' h

-- the numbers of the time of day after n nanoseconds
abbrev time_in : ℕ → List ℤ
time_in n = cond (ltb n day) (clock (n / second) (n % second)) (sixty (n % second))

times_rise : (n n' : ℕ) → n < n' → n' < day + second → below (time_in n) (time_in n') ≡ true
times_rise n n' l few = by_size (dec_lt n day) (dec_lt n' day)
  where
    by_size : Dec (n < day) → Dec (n' < day) → below (time_in n) (time_in n') ≡ true
    by_size (yes h) (yes h') =
        rw (lt-ltb n day h, lt-ltb n' day h')
        (clock_rises (n / second) (n' / second) _ _ (omega arith) (omega arith) (λ e. omega arith))
    by_size (yes h) (no h') =
        let late : day ≤ n' = omega (arith, h') in
        rw (lt-ltb n day h, le-ltb n' day late) (sixty-after (n / second) _ _)
    by_size (no h) d =
        let late : day ≤ n = omega (arith, h) in
        let late' : day ≤ n' = omega arith in
        rw (le-ltb n day late, le-ltb n' day late') (sixty_rises (n % second) (n' % second) (omega arith))

-- ---- readings
date_then_time : (z n : ℕ) → in_order (fields_in_day z n) ≡ on_date (date_of (pos z)) (time_in n)
date_then_time z n = by_size (dec_lt n day)
  where
    by_size : Dec (n < day) → in_order (fields_in_day z n) ≡ on_date (date_of (pos z)) (time_in n)
    by_size (yes h) = rw (lt-ltb n day h)
    by_size (no h) = let late : day ≤ n = omega (arith, h) in rw (le-ltb n day late)

pub sooner_earlier : (z n z' n' : ℕ) → Sooner (z, n) (z', n') → n' < day + second
    → earlier (fields_in_day z n) (fields_in_day z' n') ≡ true
sooner_earlier z n z' n' s few = (λ i. below (date_then_time z n i) (date_then_time z' n' i)) ∙ by_day s
  where
    by_day : Sooner (z, n) (z', n')
        → below (on_date (date_of (pos z)) (time_in n)) (on_date (date_of (pos z')) (time_in n')) ≡ true
    by_day (inl l) = dates_rise z z' (time_in n) (time_in n') l
    by_day (inr (e, l)) = rw e (same_date (date_of (pos z')) (time_in n) (time_in n') (times_rise n n' l few))

-- readings rise with counts
pub rises : (es : List Entry) (g g' : ℕ) → g < g' → earlier (reading_of es g) (reading_of es g') ≡ true
rises es g g' l =
    sooner_earlier (day_of_gps es g).0 (day_of_gps es g).1 (day_of_gps es g').0 (day_of_gps es g').1
    (walk_rises es (g + tai_minus_gps) (g' + tai_minus_gps) (g / day) (g' / day) gps_epoch_day tai_minus_gps (omega arith)
    (omega arith) (omega arith) (omega arith))
    (within_a_day es (g' + tai_minus_gps) (g' / day) gps_epoch_day tai_minus_gps (omega arith))

pub never_earlier : (c : CivilDateTime) → earlier c c ≡ false
never_earlier c = not_itself (in_order c)

pub no_two : (es : List Entry) (g g' : ℕ) → reading_of es g ≡ reading_of es g' → g ≡ g'
no_two es g g' same = by_order (dec_lt g g') (dec_lt g' g)
  where
    not_both : {b : Bool} → b ≡ true → b ≡ false → ⊥
    not_both e f = false≢true (sym f ∙ e)

    by_order : Dec (g < g') → Dec (g' < g) → g ≡ g'
    by_order (yes l) d = absurd (not_both (rises es g g' l) (rw same (never_earlier (reading_of es g'))))
    by_order (no h) (yes l) = absurd (not_both (rises es g' g l) (rw same (never_earlier (reading_of es g'))))
    by_order (no h) (no h') = omega (arith, h, h')

-- a second of 60 is an inserted one
pub sixty_only_inserted : (z n : ℕ) → n < day → (fields_in_day z n).second < 60
sixty_only_inserted z n h = rw (lt-ltb n day h) (omega arith)

-- ---- fields
itself : (c : CivilDateTime) → same_fields c c ≡ true
itself c =
    simp (
      equal_yes c.year c.year refl,
      number c.month,
      number c.day,
      number c.hour,
      number c.minute,
      number c.second,
      number c.nanos,
    )
  where
    number : (n : ℕ) → eqb n n ≡ true
    number n = eq-eqb n n refl

pub same_fields_lem : (a b : CivilDateTime) → (same_fields a b ≡ true) ↔ (a ≡ b)
same_fields_lem a b = (to, from)
  where
    to : same_fields a b ≡ true → a ≡ b
    to t =
        let h6 = both _ _ t in
        let h5 = both _ _ h6.0 in
        let h4 = both _ _ h5.0 in
        let h3 = both _ _ h4.0 in
        let h2 = both _ _ h3.0 in
        let h1 = both _ _ h2.0 in
        let year = equal_true a.year b.year h1.0 in
        let month = eqb-true a.month b.month h1.1 in
        let date = eqb-true a.day b.day h2.1 in
        let hour = eqb-true a.hour b.hour h3.1 in
        let minute = eqb-true a.minute b.minute h4.1 in
        let sec = eqb-true a.second b.second h5.1 in
        let nanos = eqb-true a.nanos b.nanos h6.1 in
        λ i. fields (year i) (month i) (date i) (hour i) (minute i) (sec i) (nanos i)

    from : a ≡ b → same_fields a b ≡ true
    from e = rw e (itself b)
