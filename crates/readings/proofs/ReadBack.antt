-- Over a list on days: a GPS count in the last second before a threshold is read as 23:59:60, any other as the fields
-- of its UTC count; fields go to a count exactly if it is read as they are, with a second of 60 and without; and by which
-- number they are refused.
use mathlib.Core.Path.{◌≡◌, refl, sym, ap, ◌∙◌}
use mathlib.Core.Logic.{◌↔◌, ◌≢◌}
use mathlib.Core.Bool.{Bool, true, false, cond}
use mathlib.Core.List.{List}
use mathlib.Core.Option as option
use Prim.Native.Nat.{ℕ, ◌+◌, ◌*◌, ◌-◌, ◌/◌, ◌%◌, ◌^◌, ◌≤◌, ◌<◌}
use native.Mathlib.Omega.{arith}
use native.Mathlib.Decide.{dec_lt, ℕ_discrete}
use borrow.Author.Tests.{lt-ltb, le-ltb, eq-eqb, ne_eqb}
use lib.Dec.{ltb}
use lib.IntN.{ℤ, pos, nat_abs, ◌-ℤ◌}
use lib.Signed.{non_neg}
use Rattle.refusals.specs.Outcome.{Outcome, answered, refused, then, changed}
use Rattle.refusals.proofs.Given.{one_answer, no_refusal}
use Rattle.counts.specs.Exact.{count_of}
use Rattle.counts.proofs.Difference.{not_below, of_naturals}
use Rattle.counts.proofs.Fitting.{is_count}
use Rattle.counts.specs.Units.{second}
use Rattle.scales.specs.Scales.{tai_minus_gps}
use Rattle.calendar.specs.Calendar.{date_of}
use Rattle.calendar.specs.Dates.{utc_epoch_day}
use Rattle.calendar.specs.Formula.{day_of}
use Rattle.calendar.proofs.CalendarTheorems.{real_date}
use Rattle.civil.specs.Fields.{fields, date_in, fields_of, time_of, on_day, count_at}
use Rattle.civil.specs.Real.{out_of_range}
use Rattle.civil.specs.declared.CivilDateTime.{CivilDateTime}
use Rattle.civil.proofs.InRange.{InRange, in_range, none_out}
use Rattle.civil.proofs.CivilTheorems.{RealFields, count_back, fields_back, fields_are_real, by_the_calendar}
use Rattle.tables.specs.Entries.{Entry, day, on_days}
use Rattle.conversions.specs.Conversions.{E, gps_to_utc, utc_to_gps}
use Rattle.conversions.proofs.LeapSeconds.{LeapSeconds, leaps}
use Rattle.conversions.proofs.OnNaturals.{tai, Reads, to_utc, from_gps, before-E, not_before_E, from-E}
use Rattle.readings.specs.Readings.{day_of_gps, reading_of, gps_to_civil, same_fields, utc_to_later, read_so}
use Rattle.readings.specs.Readings.{civil_to_gps}
use Rattle.readings.proofs.LaterEntries.{counted_on_days, on_days_lem}
use Rattle.readings.proofs.Days.{DayOf, day-of}
use Rattle.readings.proofs.ByLookup.{in_the_day, is_a_count, there_too, first_read}
use Rattle.readings.proofs.FirstAndLast.{first_of_two, last_of_two, the_last}
use Rattle.readings.proofs.Order.{same_fields_lem}

-- 23:59:60 on the day before that of a UTC count, with its nanoseconds
abbrev pub before_day_of : ℕ → CivilDateTime
before_day_of u =
    let d = date_of (pos (u / second / 86400 + 729)) in fields d.year d.month d.day 23 59 60 (u % second)

-- in the first second of a day the lenient formula counts it as the midnight after it
count_of_sixty : (u : ℕ) → day ≤ u → u < 2 ^ 64 → u % day < second → count_at (before_day_of u) ≡ answered u
count_of_sixty u from fits midnight =
    by_the_calendar (before_day_of u) (pos (u / second / 86400 + 729)) refl
    ∙ ap (λ (z : ℤ). on_day z (time_of (before_day_of u)))
    (of_naturals (u / second / 86400 + 729) 730
    ∙ not_below (u / second / 86400 + 729) 730 (omega arith)
    ∙ ap pos (omega arith))
    ∙ ap (λ (n : ℕ). count_of (pos n)) (sums u (u / second / 86400) (u % second) from (omega arith) (omega arith))
    ∙ is_count u fits
  where
    sums : (u d n : ℕ) → day ≤ u → 1 ≤ d → u ≡ d * 86400000000000 + n → (d - 1) * 86400000000000 + (86400 * 1000000000 + n) ≡ u
    sums u d n from some e = omega arith

sixty_in_range : (u : ℕ) → InRange (before_day_of u)
sixty_in_range u = record {
  date = real_date (pos (u / second / 86400 + 729));
  hour = omega arith;
  minute = omega arith;
  second = omega arith;
  nanos = omega arith;
}

-- the lenient formula refuses by 1 alone
only_1 : (c : CivilDateTime) (n : ℕ) → count_at c ≡ refused n → n ≡ 1
only_1 c n =
    by_sign (non_neg (day_of (date_in c) -ℤ pos utc_epoch_day)) (nat_abs (day_of (date_in c) -ℤ pos utc_epoch_day) * day + time_of c)
  where
    by_size : (b : Bool) (m : ℕ) → cond b (answered m) (refused 1) ≡ refused n → n ≡ 1
    by_size true m e = absurd (no_refusal (answered m) refl e)
    by_size false m e = cc

    by_sign : (b : Bool) (m : ℕ) → cond b (count_of (pos m)) (refused 1) ≡ refused n → n ≡ 1
    by_sign true m e = by_size (ltb m (2 ^ 64)) m e
    by_sign false m e = cc

module _ (es : List Entry) (d : on_days es ≡ true) where
  abbrev k : ℕ → ℕ
  k = leaps es

  abbrev f : LeapSeconds es (leaps es)
  f = counted_on_days es d

  -- ---- readings
  module _ (g u : ℕ) (e : gps_to_utc es g ≡ answered u) where
    abbrev t : ℕ
    t = g + tai_minus_gps

    r : Reads es k f g u
    r = from_gps es k f g u e

    abbrev z : ℕ
    z = (day_of_gps es g).0

    abbrev into : ℕ
    into = (day_of_gps es g).1

    at : DayOf es g (day_of_gps es g).0 (day_of_gps es g).1
    at = day-of es d g

    exact : u + 730 * day ≡ z * day + into
    exact = omega (arith, at.exact, r.exact)

    pub midnight : k t < k (t + second) → u % day < second
    midnight more = omega (arith, exact, at.within, at.inserted.1 more)

    pub in_last_second : k t < k (t + second) → reading_of es g ≡ before_day_of u
    in_last_second more =
        let last = at.inserted.1 more in
        let day-before : z ≡ u / second / 86400 + 729 = omega (arith, exact, at.within) in
        let nanos : into % second ≡ u % second = omega (arith, exact) in
        rw (le-ltb into day last)
        (λ i. let date = date_of (pos (day-before i)) in fields date.year date.month date.day 23 59 60 (nanos i))

    pub elsewhere : k (t + second) ≤ k t → reading_of es g ≡ fields_of u
    elsewhere none = go (dec_lt into day)
      where
        go : Dec (into < day) → reading_of es g ≡ fields_of u
        go (yes h) = rw (lt-ltb into day h) (in_the_day z into u (omega (arith, at.from)) (omega (arith, exact)) h)
        go (no h) = absurd (omega (arith, at.inserted.0 (omega (arith, h))))

  -- what GPS to civil gives
  pub is_read : (g u : ℕ) → gps_to_utc es g ≡ answered u → gps_to_civil es g ≡ answered (reading_of es g)
  is_read g u e = rw (d, e)

  pub was_read : (g : ℕ) (c : CivilDateTime) → gps_to_civil es g ≡ answered c
      → (u : ℕ) × (gps_to_utc es g ≡ answered u) × (reading_of es g ≡ c)
  was_read g c e = go (gps_to_utc es g) refl (rw d at e)
    where
      go : (o : Outcome ℕ) → gps_to_utc es g ≡ o → changed (λ (u : ℕ). reading_of es g) o ≡ answered c
          → (u : ℕ) × (gps_to_utc es g ≡ answered u) × (reading_of es g ≡ c)
      go (answered u) q h = (u, q, cc)
      go (refused n) q h = absurd (no_refusal (refused n) h refl)

  pub not_read : (g n : ℕ) → (gps_to_civil es g ≡ refused n) ↔ (gps_to_utc es g ≡ refused n)
  not_read g n = (λ e. go (gps_to_utc es g) (rw d at e), λ e. rw (d, e))
    where
      go : (o : Outcome ℕ) → changed (λ (u : ℕ). reading_of es g) o ≡ refused n → o ≡ refused n
      go (answered u) h = absurd (no_refusal (answered (reading_of es g)) refl h)
      go (refused m) h = let same : m ≡ n = cc in ap refused same

  -- ---- back
  module _ (c : CivilDateTime) where
    -- a field out of range is refused by its number
    pub out_of_range_lem : (n : ℕ) → out_of_range c ≡ option.some n → civil_to_gps es c ≡ refused n
    out_of_range_lem n e = rw (d, e)

    pub answered_in_range : (g : ℕ) → civil_to_gps es c ≡ answered g → out_of_range c ≡ option.none
    answered_in_range g e = go (out_of_range c) refl
      where
        go : (o : option.Option ℕ) → out_of_range c ≡ o → o ≡ option.none
        go option.none q = refl
        go (option.some n) q = absurd (no_refusal (civil_to_gps es c) e (out_of_range_lem n q))

    sixty : out_of_range c ≡ option.none → c.second ≡ 60 → civil_to_gps es c ≡ read_so es c (then (count_at c) (utc_to_gps es))
    sixty r s = rw (d, r, eq-eqb c.second 60 s)

    other : out_of_range c ≡ option.none → c.second ≢ 60 → civil_to_gps es c ≡ then (count_at c) (utc_to_later es)
    other r s = rw (d, r, ne_eqb c.second 60 s)

    -- a reading goes back to its count
    reads-back : (g : ℕ) → gps_to_civil es g ≡ answered c → civil_to_gps es c ≡ answered g
    reads-back g e = let (u, q, is) = was_read g c e in go u q is (dec_lt (k (tai g)) (k (tai g + second)))
      where
        go : (u : ℕ) → gps_to_utc es g ≡ answered u → reading_of es g ≡ c → Dec (k (tai g) < k (tai g + second))
            → civil_to_gps es c ≡ answered g
        go u q is (yes h) =
            let r = from_gps es k f g u q in
            let from = not_before_E es k f g u r in
            let so : c ≡ before_day_of u = sym is ∙ in_last_second g u q h in
            let counted : count_at c ≡ answered u
            = ap count_at so ∙ count_of_sixty u (omega arith) r.utc_fits (midnight g u q h) in
            sixty (ap out_of_range so ∙ none_out (before_day_of u) (sixty_in_range u)) (ap (λ (x : CivilDateTime). x.second) so)
            ∙ rw (counted, first_of_two es d g u r h, (same_fields_lem (reading_of es g) c).1 is)
        go u q is (no h) =
            let r = from_gps es k f g u q in
            let not_more : k (tai g + second) ≤ k (tai g) = omega (arith, h) in
            let so : c ≡ fields_of u = sym is ∙ elsewhere g u q not_more in
            let seconds : c.second ≡ u / second % 60 = ap (λ (x : CivilDateTime). x.second) so in
            let counted : count_at c ≡ answered u = ap count_at so ∙ count_back u r.utc_fits in
            other (ap out_of_range so ∙ none_out (fields_of u) (fields_are_real u).in_range) (λ s. omega (arith, s))
            ∙ rw counted (last_of_two es d g u r not_more)

    -- with a second of 60: the count that is read so, or 14
    sixty-read : out_of_range c ≡ option.none → c.second ≡ 60 → (g : ℕ) → civil_to_gps es c ≡ answered g
        → (g < 2 ^ 64) × (gps_to_civil es g ≡ answered c)
    sixty-read r s g e = by_count (count_at c) refl (sym (sixty r s) ∙ e)
      where
        by_count : (o : Outcome ℕ) → count_at c ≡ o → read_so es c (then o (utc_to_gps es)) ≡ answered g
            → (g < 2 ^ 64) × (gps_to_civil es g ≡ answered c)
        by_count (refused n) q h = absurd (no_refusal _ h refl)
        by_count (answered u) q h = by_first (utc_to_gps es u) refl h
          where
            by_first : (p : Outcome ℕ) → utc_to_gps es u ≡ p → read_so es c p ≡ answered g
                → (g < 2 ^ 64) × (gps_to_civil es g ≡ answered c)
            by_first (refused n) p h = absurd (no_refusal _ h refl)
            by_first (answered g₀) p h = by_test (same_fields (reading_of es g₀) c) refl h
              where
                by_test : (t : Bool) → same_fields (reading_of es g₀) c ≡ t → cond t (answered g₀) (refused 14) ≡ answered g
                    → (g < 2 ^ 64) × (gps_to_civil es g ≡ answered c)
                by_test false t h = absurd (no_refusal _ h refl)
                by_test true t h =
                    let same : g₀ ≡ g = cc in
                    let r = first_read es d u g₀ (is_a_count c u q) p in (
                      omega (arith, r.tai_fits),
                      ap (gps_to_civil es) (sym same) ∙ is_read g₀ u (to_utc es k f g₀ u r)
                          ∙ ap answered ((same_fields_lem (reading_of es g₀) c).0 t),
                    )

    pub sixty_or_14 : out_of_range c ≡ option.none → c.second ≡ 60 → ((g : ℕ) → civil_to_gps es c ≡ answered g → ⊥)
        → civil_to_gps es c ≡ refused 14
    sixty_or_14 r s none = sixty r s ∙ go (then (count_at c) (utc_to_gps es)) (λ g e. none g (sixty r s ∙ e))
      where
        go : (o : Outcome ℕ) → ((g : ℕ) → read_so es c o ≡ answered g → ⊥) → read_so es c o ≡ refused 14
        go (refused n) none = refl
        go (answered g) none = by_test (same_fields (reading_of es g) c) (none g)
          where
            by_test : (t : Bool) → (cond t (answered g) (refused 14) ≡ answered g → ⊥)
                → cond t (answered g) (refused 14) ≡ refused 14
            by_test true no_answer = absurd (no_answer refl)
            by_test false no_answer = refl

    -- with another: the last count that has their UTC count
    pub record LastOfCount (g : ℕ) : Type 0 where
      pub utc : ℕ
      pub is : count_at c ≡ answered utc
      pub fits : g < 2 ^ 64
      pub has : gps_to_utc es g ≡ answered utc
      pub last : (g' : ℕ) → gps_to_utc es g' ≡ answered utc → g' ≤ g

    pub other_last : c.second ≢ 60 → (g : ℕ) → civil_to_gps es c ≡ answered g → LastOfCount g
    other_last s g e = by_count (count_at c) refl (sym (other (answered_in_range g e) s) ∙ e)
      where
        by_count : (o : Outcome ℕ) → count_at c ≡ o → then o (utc_to_later es) ≡ answered g → LastOfCount g
        by_count (refused n) q h = absurd (no_refusal _ h refl)
        by_count (answered u) q h = by_first (utc_to_gps es u) refl
          where
            by_first : (p : Outcome ℕ) → utc_to_gps es u ≡ p → LastOfCount g
            by_first (refused m) p =
                let stops : utc_to_later es u ≡ refused m = rw p in absurd (no_refusal (utc_to_later es u) h stops)
            by_first (answered g₀) p =
                let l = the_last es d u g₀ (is_a_count c u q) p in
                let same : l.count ≡ g = one_answer (utc_to_later es u) l.is h in
                record {
                  utc = u;
                  is = q;
                  fits = omega (arith, l.reads.tai_fits);
                  has = ap (gps_to_utc es) (sym same) ∙ to_utc es k f l.count u l.reads;
                  last = λ g' x. omega (arith, l.last g' (from_gps es k f g' u x));
                }

    -- which is read as they are: they exist, and the count is not in the last second before a threshold, or the one a
    -- second later would have their UTC count too
    other_read : c.second ≢ 60 → (g : ℕ) → civil_to_gps es c ≡ answered g → (g < 2 ^ 64) × (gps_to_civil es g ≡ answered c)
    other_read s g e = (l.fits, is_read g l.utc l.has ∙ ap answered (by_more (dec_lt (k (tai g)) (k (tai g + second)))))
      where
        l : LastOfCount g
        l = other_last s g e

        exist : RealFields c
        exist =
            let r = in_range c (answered_in_range g e) in
            record { in_range = r; second = omega (arith, r.second, s) }

        by_more : Dec (k (tai g) < k (tai g + second)) → reading_of es g ≡ c
        by_more (yes h) =
            let r = there_too es k f (on_days_lem es d) g l.utc (from_gps es k f g l.utc l.has) h in
            absurd (omega (arith, l.last (g + second) (to_utc es k f (g + second) l.utc r)))
        by_more (no h) = elsewhere g l.utc l.has (omega (arith, h)) ∙ fields_back c l.utc exist l.is

    -- and 1 where no count has it
    pub other_or_1 : out_of_range c ≡ option.none → c.second ≢ 60 → ((g : ℕ) → civil_to_gps es c ≡ answered g → ⊥)
        → civil_to_gps es c ≡ refused 1
    other_or_1 r s none = other r s ∙ by_count (count_at c) refl
      where
        by_count : (o : Outcome ℕ) → count_at c ≡ o → then o (utc_to_later es) ≡ refused 1
        by_count (refused n) q = ap refused (only_1 c n q)
        by_count (answered u) q = by_time (dec_lt u E)
          where
            by_time : Dec (u < E) → utc_to_later es u ≡ refused 1
            by_time (yes h) = rw (before-E es k f u h)
            by_time (no h) =
                let fits = is_a_count c u q in
                let l = the_last es d u _ fits (from-E es k f u (omega (arith, h)) fits) in
                absurd (none l.count (other r s ∙ rw q l.is))

    -- fields go to a count exactly if it is read as they are
    pub read_exactly : (g : ℕ) → (civil_to_gps es c ≡ answered g) ↔ ((g < 2 ^ 64) × (gps_to_civil es g ≡ answered c))
    read_exactly g = (λ e. by_second (ℕ_discrete c.second 60) e, λ (fits, e). reads-back g e)
      where
        by_second : Dec (c.second ≡ 60) → civil_to_gps es c ≡ answered g → (g < 2 ^ 64) × (gps_to_civil es g ≡ answered c)
        by_second (yes s) e = sixty-read (answered_in_range g e) s g e
        by_second (no s) e = other_read s g e
