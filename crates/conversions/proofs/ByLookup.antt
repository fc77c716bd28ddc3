-- The parts that a store calls make up the conversions between GPS and UTC: each lookup is made at the reading that the
-- rule names.
use mathlib.Core.Path.{◌≡◌, refl, ap, ◌∙◌}
use mathlib.Core.Bool.{Bool, true, false, cond}
use mathlib.Core.List.{List}
use Prim.Native.Nat.{ℕ, ◌+◌, ◌^◌}
use lib.Dec.{ltb}
use lib.IntN.{ℤ, pos, ◌+ℤ◌}
use Rattle.refusals.specs.Outcome.{Outcome, answered, refused, value_in, then}
use Rattle.counts.specs.Exact.{count_of, up}
use Rattle.scales.specs.Scales.{tai_minus_gps}
use Rattle.tables.specs.Entries.{Entry, lookup, offset_at}
use Rattle.tables.specs.declared.Lookup.{Lookup}
use Rattle.tables.proofs.Checked.{eight_first, told-valid, told-answer}
use Rattle.conversions.specs.Conversions.{E, in_range, utc_at_offset, gps_to_utc, utc_to_gps}
use Rattle.conversions.specs.ByLookup.{utc_from_lookup, first_for, last_for, gps_from_lookup}
use Rattle.conversions.proofs.Shifts.{tai_less}

module _ (es : List Entry) where
  -- one lookup, at the TAI reading
  pub by_reading : (gps : Outcome ℕ)
      → utc_from_lookup (then gps (up tai_minus_gps)) (lookup es (value_in 0 (then gps (up tai_minus_gps))))
      ≡ then gps (gps_to_utc es)
  by_reading (refused k) = refl
  by_reading (answered g) = go (ltb (g + tai_minus_gps) (2 ^ 64))
    where
      go : (fits : Bool) → let tai = cond fits (answered (g + tai_minus_gps)) (refused 1) in
          utc_from_lookup tai (lookup es (value_in 0 tai)) ≡ then tai (λ t. utc_at_offset (offset_at es t) g)
      go true =
          let n = offset_at es (g + tai_minus_gps) in
          ap (λ (z : ℤ). in_range n (count_of (z +ℤ pos E))) (tai_less g n)
      go false = refl

  -- two lookups, the second at the last reading
  pub by_last_reading : (utc : Outcome ℕ)
      → gps_from_lookup (lookup es (last_for utc (lookup es (first_for utc)) (first_for utc))) utc ≡ then utc (utc_to_gps es)
  by_last_reading (answered u) = refl
  by_last_reading (refused k) = refl

-- in a store that is valid or not, and then refuses with 8 first
module _ (v : Bool) (es : List Entry) where
  pub utc_from_store : (gps : Outcome ℕ) {tai : Outcome ℕ} {reading : ℕ} {found : Outcome Lookup}
      → tai ≡ then gps (up tai_minus_gps) → reading ≡ value_in 0 tai
      → found ≡ cond v (answered (lookup es reading)) (refused 8)
      → then found (utc_from_lookup tai) ≡ cond v (then gps (gps_to_utc es)) (refused 8)
  utc_from_store gps {tai} t r f =
      ap (λ (o : Outcome Lookup). then o (utc_from_lookup tai)) f
      ∙ eight_first (utc_from_lookup tai) v (answered (lookup es _))
      ∙ ap (λ (o : Outcome ℕ). cond v o (refused 8))
      (ap (λ (x : ℕ). utc_from_lookup tai (lookup es x)) r
      ∙ ap (λ (o : Outcome ℕ). utc_from_lookup o (lookup es (value_in 0 o))) t ∙ by_reading es gps)

  pub gps_from_store : (utc : Outcome ℕ) {a b : ℕ} {first found : Lookup} → a ≡ first_for utc
      → answered first ≡ cond v (answered (lookup es a)) (refused 8)
      → b ≡ last_for utc first a → found ≡ lookup es b
      → gps_from_lookup found utc ≡ cond v (then utc (utc_to_gps es)) (refused 8)
  gps_from_store utc {a} {b} {first} fa f fb l =
      let is : first ≡ lookup es a = told-answer (lookup es a) v f in
      let valid : v ≡ true = told-valid (lookup es a) v f in
      rw valid
      (ap (λ (x : Lookup). gps_from_lookup x utc) (l ∙ ap (lookup es) (fb ∙ ap (λ (x : Lookup). last_for utc x a) is))
      ∙ ap (λ (x : ℕ). gps_from_lookup (lookup es (last_for utc (lookup es x) x)) utc) fa
      ∙ by_last_reading es utc)
