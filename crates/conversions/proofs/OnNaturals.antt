-- The two conversions over a regular list, on naturals: no exact integers are left from here on.
use mathlib.Core.Path.{◌≡◌, refl, sym, ap, ◌∙◌}
use mathlib.Core.List.{List}
use Prim.Native.Nat.{ℕ, ◌+◌, ◌*◌, ◌-◌, ◌^◌, ◌≤◌, ◌<◌}
use native.Mathlib.Omega.{arith}
use native.Mathlib.Decide.{dec_le, dec_lt}
use lib.IntN.{pos, sub_ℕ, ◌+ℤ◌, ◌-ℤ◌}
use Rattle.refusals.specs.Outcome.{Outcome, answered, refused, then}
use Rattle.refusals.proofs.Given.{one_answer, no_refusal}
use Rattle.refusals.proofs.Steps.{goes_on, stops, then_answered}
use Rattle.counts.specs.Exact.{count_of}
use Rattle.counts.specs.Units.{second}
use Rattle.counts.proofs.Difference.{not_below, below, of_naturals, plus}
use Rattle.counts.proofs.Fitting.{is_count, no_count_lem}
use Rattle.scales.specs.Scales.{tai_minus_gps}
use Rattle.tables.specs.Entries.{Entry, offset_at, day}
use Rattle.conversions.specs.Conversions.{E, count_or, utc_at_offset, gps_at_offset, first_reading, second_reading, gps_to_utc}
use Rattle.conversions.specs.Conversions.{utc_to_gps}
use Rattle.conversions.proofs.SinceEpoch.{since_E, since, before}
use Rattle.conversions.proofs.LeapSeconds.{LeapSeconds, in_force_lem}

-- a step from k answers only if k is a count
pub went_on : (k : ℕ) (next : ℕ → Outcome ℕ) {u : ℕ} → then (count_of (pos k)) next ≡ answered u
    → (k < 2 ^ 64) × (next k ≡ answered u)
went_on k next {u} e = go (dec_lt k (2 ^ 64))
  where
    go : Dec (k < 2 ^ 64) → (k < 2 ^ 64) × (next k ≡ answered u)
    go (yes h) = (h, sym (goes_on next (is_count k h)) ∙ e)
    go (no h) = absurd (no_refusal _ e (stops next (no_count_lem k (omega (arith, h)))))

abbrev pub tai : ℕ → ℕ
tai g = g + tai_minus_gps

less_19 : (n : ℕ) → pos (19 + n) -ℤ pos 19 ≡ pos n
less_19 n = of_naturals (19 + n) 19 ∙ not_below (19 + n) 19 (omega arith) ∙ ap pos (omega arith)

-- the two steps by an offset of 19 and n
utc_at_offset_lem : (g n : ℕ) → n ≤ 63 → utc_at_offset (pos (19 + n)) g ≡ count_of (pos (g + E - n * second))
utc_at_offset_lem g n l =
    rw (less_19 n, of_naturals g (n * second))
    (ap count_of (plus g (n * second) E ∙ not_below (g + E) (n * second) (omega arith)))

gps_at_offset_lem : (u n : ℕ) → gps_at_offset (pos (19 + n)) u ≡ count_of (sub_ℕ (u + n * second) E)
gps_at_offset_lem u n = rw (less_19 n) (ap count_of (since_E u (n * second)))

module _ (es : List Entry) (k : ℕ → ℕ) (f : LeapSeconds es k) where
  -- GPS to UTC: the UTC count is the GPS count and E, less the leap seconds at the TAI reading
  pub record Reads (g u : ℕ) : Type 0 where
    pub tai_fits : tai g < 2 ^ 64
    pub utc_fits : u < 2 ^ 64
    pub exact : u + k (tai g) * second ≡ g + E

  abbrev utc : ℕ → ℕ
  utc g = g + E - k (tai g) * second

  at-reading : (g : ℕ) → utc_at_offset (offset_at es (tai g)) g ≡ count_of (pos (utc g))
  at-reading g = rw (in_force_lem f (tai g)) (utc_at_offset_lem g (k (tai g)) (f.few (tai g)))

  pub to_utc : (g u : ℕ) → Reads g u → gps_to_utc es g ≡ answered u
  to_utc g u r =
      let is : utc g ≡ u = omega (arith, r.exact) in
      goes_on (λ t. utc_at_offset (offset_at es t) g) (is_count (tai g) r.tai_fits)
      ∙ at-reading g ∙ ap (λ (n : ℕ). count_of (pos n)) is ∙ is_count u r.utc_fits

  pub from_gps : (g u : ℕ) → gps_to_utc es g ≡ answered u → Reads g u
  from_gps g u e =
      let (tai_fits, at-tai) = went_on (tai g) (λ t. utc_at_offset (offset_at es t) g) e in
      let (utc_fits, same) = went_on (utc g) answered (then_answered _ ∙ sym (at-reading g) ∙ at-tai) in
      let is : utc g ≡ u = cc in
      record { tai_fits = tai_fits; utc_fits = omega arith; exact = omega (arith, f.few (tai g)) }

  -- UTC to GPS, by its two readings
  by_readings : (u a b : ℕ) → first_reading u ≡ a → second_reading u (pos (19 + k a)) a ≡ b
      → utc_to_gps es u ≡ count_of (sub_ℕ (u + k b * second) E)
  by_readings u a b ea eb = rw (ea, in_force_lem f a, eb, in_force_lem f b) (gps_at_offset_lem u (k b))

  -- before E both readings are on the first day
  first-day : (d u j : ℕ) → d < day → u + j < E + day → count_or d (pos u -ℤ pos E +ℤ pos j) < day
  first-day d u j l m = go (dec_lt (u + j) E)
    where
      go : Dec (u + j < E) → count_or d (pos u -ℤ pos E +ℤ pos j) < day
      go (yes h) = rw (before d u j h) l
      go (no h) = rw (since d u j (omega (arith, h)) (omega arith)) (omega (arith, h))

  pub before-E : (u : ℕ) → u < E → utc_to_gps es u ≡ refused 1
  before-E u l =
      let a = first_reading u in
      let b = second_reading u (pos (19 + k a)) a in
      let a_low : a < day = first-day 0 u (19 * second) (omega arith) (omega arith) in
      let b_low : b < day = first-day a u ((19 + k a) * second) a_low (omega (arith, f.few a)) in
      let none = f.none_on_the_first_day b b_low in
      by_readings u a b refl refl ∙ ap count_of (below (u + k b * second) E (omega arith))

  -- from E on they are a and b
  abbrev pub a : ℕ → ℕ
  a u = tai (u - E)

  abbrev pub b : ℕ → ℕ
  b u = a u + k (a u) * second

  pub from-E : (u : ℕ) → E ≤ u → u < 2 ^ 64 → utc_to_gps es u ≡ answered (u - E + k (b u) * second)
  from-E u l m =
      let few_a = f.few (a u) in
      let few_b = f.few (b u) in
      by_readings u (a u) (b u)
      (since 0 u (19 * second) (omega arith) (omega arith) ∙ omega arith)
      (since (a u) u ((19 + k (a u)) * second) (omega arith) (omega arith) ∙ omega arith)
      ∙ ap count_of (not_below (u + k (b u) * second) E (omega arith))
      ∙ is_count (u + k (b u) * second - E) (omega arith)
      ∙ ap answered (omega arith)

  -- an answer of the way back is read as the UTC count: a third lookup would find what the second found
  pub comes_back : (u g : ℕ) → u < 2 ^ 64 → utc_to_gps es u ≡ answered g → Reads g u
  comes_back u g m e = go (dec_le E u)
    where
      back : ℕ
      back = u - E + k (b u) * second

      settled : Dec (k (b u) ≤ k (a u)) → k (b u) ≤ 63 → k (a u) ≤ k (b u) → k (tai back) ≡ k (b u)
      settled (yes h) few up = ap k (omega arith)
      settled (no h) few up =
          omega (arith, h, f.rises (b u) (tai back) (omega arith), f.one_in_a_day (a u) (tai back) (omega arith))

      go : Dec (E ≤ u) → Reads g u
      go (no h) = absurd (no_refusal (utc_to_gps es u) e (before-E u (omega (arith, h))))
      go (yes h) =
          let is : back ≡ g = one_answer (utc_to_gps es u) (from-E u h m) e in
          let few = f.few (b u) in
          let same = settled (dec_le (k (b u)) (k (a u))) few (f.rises (a u) (b u) (omega arith)) in
          let there : k (tai g) ≡ k (b u) = ap (λ (x : ℕ). k (tai x)) (sym is) ∙ same in
          record { tai_fits = omega arith; utc_fits = m; exact = omega arith }

  -- no count is read as a UTC count before E
  pub not_before_E : (g u : ℕ) → Reads g u → E ≤ u
  not_before_E g u r = go (dec_lt (tai g) day)
    where
      go : Dec (tai g < day) → E ≤ u
      go (yes h) = omega (arith, r.exact, f.none_on_the_first_day (tai g) h)
      go (no h) = omega (arith, r.exact, f.few (tai g), h)

  -- two that are read as one UTC count: the later one is a second and a leap second on
  pub apart : (g₁ g₂ u : ℕ) → Reads g₁ u → Reads g₂ u → g₁ < g₂ → (g₂ ≡ g₁ + second) × (k (tai g₁) < k (tai g₂))
  apart g₁ g₂ u r₁ r₂ l =
      let few = f.few (tai g₂) in
      let one = f.one_in_a_day (tai g₁) (tai g₂) (omega (arith, r₁.exact, r₂.exact)) in
      (omega (arith, r₁.exact, r₂.exact), omega (arith, r₁.exact, r₂.exact))
