-- Over a list on days: the first and the last of the counts that have a UTC count. The last is found by one lookup, a
-- second before the first count of the UTC count a second on.
use mathlib.Core.Path.{◌≡◌, refl, sym, ap, ◌∙◌}
use mathlib.Core.Bool.{true}
use mathlib.Core.List.{List}
use Prim.Native.Nat.{ℕ, ◌+◌, ◌*◌, ◌-◌, ◌^◌, ◌≤◌, ◌<◌}
use native.Mathlib.Omega.{arith}
use native.Mathlib.Decide.{dec_le, dec_lt}
use Rattle.refusals.specs.Outcome.{Outcome, answered, refused, then}
use Rattle.refusals.proofs.Given.{one_answer, no_refusal}
use Rattle.refusals.proofs.Steps.{goes_on}
use Rattle.counts.specs.Exact.{count_of, up, down}
use Rattle.counts.proofs.Difference.{not_below, below, of_naturals}
use Rattle.counts.proofs.Fitting.{is_count, no_count_lem}
use Rattle.counts.specs.Units.{second}
use Rattle.tables.specs.Entries.{Entry, on_days}
use Rattle.conversions.specs.Conversions.{E, utc_to_gps}
use Rattle.conversions.proofs.LeapSeconds.{LeapSeconds, leaps}
use Rattle.conversions.proofs.OnNaturals.{tai, Reads, before-E, not_before_E, from-E, comes_back, apart, a, b}
use Rattle.readings.specs.Readings.{utc_to_later}
use Rattle.readings.proofs.LaterEntries.{counted_on_days}
use Rattle.readings.proofs.ByLookup.{later_is}

module _ (es : List Entry) (d : on_days es ≡ true) where
  abbrev k : ℕ → ℕ
  k = leaps es

  abbrev f : LeapSeconds es (leaps es)
  f = counted_on_days es d

  -- a count in the last second is the first that has its UTC count
  pub first_of_two : (g u : ℕ) → Reads es k f g u → k (tai g) < k (tai g + second) → utc_to_gps es u ≡ answered g
  first_of_two g u r more =
      let from = not_before_E es k f g u r in
      from-E es k f u from r.utc_fits ∙ ap answered (is from (dec_le (k (tai g)) (k (a es k f u))))
    where
      is : E ≤ u → Dec (k (tai g) ≤ k (a es k f u)) → u - E + k (b es k f u) * second ≡ g
      is from (yes h) =
          let rise = f.rises (a es k f u) (tai g) (omega (arith, r.exact)) in
          let there : k (b es k f u) ≡ k (tai g) = ap k (omega (arith, r.exact)) in
          omega (arith, r.exact)
      is from (no h) =
          let few = f.few (tai g) in
          let one = f.one_in_a_day (a es k f u) (tai g) (omega (arith, r.exact)) in
          let rise = f.rises (b es k f u) (tai g) (omega (arith, r.exact, h)) in
          let next = f.one_in_a_day (b es k f u) (tai g + second) (omega (arith, r.exact, h)) in
          omega (arith, r.exact)

  has_first : (g u : ℕ) → Reads es k f g u → (g₀ : ℕ) × (utc_to_gps es u ≡ answered g₀)
  has_first g u r = (u - E + k (b es k f u) * second, from-E es k f u (not_before_E es k f g u r) r.utc_fits)

  -- an answer that is the last count with a UTC count
  pub record Last (u : ℕ) (o : Outcome ℕ) : Type 0 where
    pub count : ℕ
    pub is : o ≡ answered count
    pub reads : Reads es k f count u
    pub last : (g : ℕ) → Reads es k f g u → g ≤ count

  pub the_last : (u g₀ : ℕ) → u < 2 ^ 64 → utc_to_gps es u ≡ answered g₀ → Last u (utc_to_later es u)
  the_last u g₀ fits e =
      let l = later_is es d u g₀ fits e in
      record { count = l.count; is = rw e (ap answered l.is); reads = l.reads; last = l.last }

  -- a count outside the last second is the last that has its UTC count
  pub last_of_two : (g u : ℕ) → Reads es k f g u → k (tai g + second) ≤ k (tai g) → utc_to_later es u ≡ answered g
  last_of_two g u r none =
      let (g₀, e) = has_first g u r in
      let l = the_last u g₀ r.utc_fits e in
      l.is ∙ ap answered (is l (dec_lt g l.count))
    where
      is : (l : Last u (utc_to_later es u)) → Dec (g < l.count) → l.count ≡ g
      is l (yes h) =
          let (on, more) = apart es k f g l.count u r l.reads h in
          let same : k (tai l.count) ≡ k (tai g + second) = ap k (omega arith) in
          absurd (omega (arith, none))
      is l (no h) = omega (arith, h, l.last g r)

  -- so the last one is a second before the first that has the UTC count a second on: were there two of those, the first
  -- of them would be in the last second before a threshold
  down_a_second : (n : ℕ) → second ≤ n → n < 2 ^ 64 → down second n ≡ answered (n - second)
  down_a_second n from fits =
      ap count_of (of_naturals n second ∙ not_below n second from) ∙ is_count (n - second) (omega arith)

  a_second_on : (u : ℕ) → u + second < 2 ^ 64 → then (utc_to_gps es (u + second)) (down second) ≡ utc_to_later es u
  a_second_on u fits = by_time (dec_lt (u + second) E) (dec_lt u E)
    where
      by_time : Dec (u + second < E) → Dec (u < E) → then (utc_to_gps es (u + second)) (down second) ≡ utc_to_later es u
      by_time (yes h) early = rw (before-E es k f (u + second) h, before-E es k f u (omega arith))
      by_time (no h) (yes early) =
          let g = u + second - E + k (b es k f (u + second)) * second in
          let from : E ≤ u + second = omega (arith, h) in
          let at_first : k (a es k f (u + second)) ≡ 0 = f.none_on_the_first_day (a es k f (u + second)) (omega arith) in
          let there : k (b es k f (u + second)) ≡ 0 = f.none_on_the_first_day (b es k f (u + second)) (omega arith) in
          goes_on (down second) (from-E es k f (u + second) from fits)
          ∙ ap count_of (of_naturals g second ∙ below g second (omega arith))
          ∙ sym (rw (before-E es k f u early))
      by_time (no h) (no late) =
          let g = u + second - E + k (b es k f (u + second)) * second in
          let e = from-E es k f (u + second) (omega (arith, h)) fits in
          let r = comes_back es k f (u + second) g fits e in
          let from : second ≤ g = omega (arith, late) in
          let on : tai (g - second) + second ≡ tai g = omega arith in
          goes_on (down second) e ∙ down_a_second g from (omega (arith, r.tai_fits))
          ∙ sym (by_more g e r from on (dec_lt (k (tai (g - second))) (k (tai g))))
        where
          by_more : (g : ℕ) → utc_to_gps es (u + second) ≡ answered g → Reads es k f g (u + second) → second ≤ g
              → tai (g - second) + second ≡ tai g → Dec (k (tai (g - second)) < k (tai g))
              → utc_to_later es u ≡ answered (g - second)
          by_more g e r from on (yes more) =
              let one = f.one_in_a_day (tai (g - second)) (tai g) (omega arith) in
              let too : Reads es k f (g - second) (u + second) = record {
                tai_fits = omega (arith, r.tai_fits);
                utc_fits = fits;
                exact = omega (arith, r.exact);
              } in
              let same = one_answer (utc_to_gps es (u + second)) e (first_of_two (g - second) (u + second) too (rw on more)) in
              absurd (omega (arith, from))
          by_more g e r from on (no none) =
              let rise = f.rises (tai (g - second)) (tai g) (omega arith) in
              let same : k (tai (g - second)) ≡ k (tai g) = omega (arith, none) in
              let before : Reads es k f (g - second) u = record {
                tai_fits = omega (arith, r.tai_fits);
                utc_fits = omega arith;
                exact = omega (arith, r.exact);
              } in
              last_of_two (g - second) u before (rw on (omega arith))

  pub by_next : (o : Outcome ℕ) (x : ℕ) → then o (up second) ≡ answered x
      → then (then (then o (up second)) (utc_to_gps es)) (down second) ≡ then o (utc_to_later es)
  by_next (refused n) x e = absurd (no_refusal _ e refl)
  by_next (answered u) x e = by_size (dec_lt (u + second) (2 ^ 64))
    where
      by_size : Dec (u + second < 2 ^ 64) → then (then (up second u) (utc_to_gps es)) (down second) ≡ utc_to_later es u
      by_size (yes h) =
          ap (λ (o : Outcome ℕ). then (then o (utc_to_gps es)) (down second)) (is_count (u + second) h) ∙ a_second_on u h
      by_size (no h) = absurd (no_refusal (up second u) e (no_count_lem (u + second) (omega (arith, h))))
