-- Whether a table is stale matters only where there is an answer, so a reading may be named by the count that was given,
-- and a step after a conversion keeps what was told.
use mathlib.Core.Path.{◌≡◌, refl, ap, ◌∙◌}
use mathlib.Core.Bool.{Bool, true, false, cond}
use mathlib.Core.List.{List}
use Prim.Native.Nat.{ℕ, ◌+◌, ◌^◌}
use lib.Dec.{ltb}
use lib.IntN.{ℤ}
use Rattle.refusals.specs.Outcome.{Outcome, answered, refused, value_in, then, changed}
use Rattle.counts.specs.Exact.{up}
use Rattle.scales.specs.Scales.{tai_minus_gps}
use Rattle.tables.specs.Entries.{Entry, lookup, offset_at}
use Rattle.tables.specs.Expiry.{stale_at, dated}
use Rattle.tables.specs.declared.Lookup.{Lookup}
use Rattle.tables.proofs.Checked.{told-answer}
use Rattle.tables.proofs.Stale.{answer-kept, answer-dated}
use Rattle.conversions.specs.Conversions.{utc_at_offset, gps_to_utc, second_reading, last_reading, utc_to_gps}
use Rattle.conversions.specs.ByLookup.{first_for, last_for, then_dated, changed_dated}

-- what is refused is not stale, whatever the reading
pub no_answer : {A : Type 0} (v : Bool) (k : ℕ) (p q : Bool)
    → dated {A = A} p (cond v (refused k) (refused 8)) ≡ dated q (cond v (refused k) (refused 8))
no_answer true k p q = refl
no_answer false k p q = refl

-- a fixed difference is added first: where that gives no count there is no answer
module _ {A : Type 0} (x : ℕ) (v : Bool) (reading : ℕ → ℕ) (next : ℕ → Outcome A) where
  pub added-first : (d n : ℕ)
      → dated (stale_at x (reading (value_in 0 (up d n)))) (cond v (then (up d n) next) (refused 8))
      ≡ dated (stale_at x (reading (n + d))) (cond v (then (up d n) next) (refused 8))
  added-first d n = go (ltb (n + d) (2 ^ 64))
    where
      go : (fits : Bool) → let o = cond fits (answered (n + d)) (refused 1) in
          dated (stale_at x (reading (value_in 0 o))) (cond v (then o next) (refused 8))
          ≡ dated (stale_at x (reading (n + d))) (cond v (then o next) (refused 8))
      go true = refl
      go false = no_answer v 1 _ _

-- the TAI reading of a GPS count
pub at_gps : (x : ℕ) (v : Bool) (es : List Entry) (gps : Outcome ℕ)
    → dated (stale_at x (value_in 0 (then gps (up tai_minus_gps)))) (cond v (then gps (gps_to_utc es)) (refused 8))
    ≡ dated (stale_at x (value_in 0 gps + tai_minus_gps)) (cond v (then gps (gps_to_utc es)) (refused 8))
at_gps x v es (answered g) = added-first x v (λ t. t) (λ t. utc_at_offset (offset_at es t) g) tai_minus_gps g
at_gps x v es (refused k) = no_answer v k _ _

-- the reading that UTC to GPS looks up last, by what the first lookup told
pub at-utc : (x : ℕ) (v : Bool) (es : List Entry) (utc : Outcome ℕ) {a b : ℕ} {first : Lookup} → a ≡ first_for utc
    → answered first ≡ cond v (answered (lookup es a)) (refused 8) → b ≡ last_for utc first a
    → dated (stale_at x b) (cond v (then utc (utc_to_gps es)) (refused 8))
    ≡ dated (stale_at x (last_reading es (value_in 0 utc))) (cond v (then utc (utc_to_gps es)) (refused 8))
at-utc x v es (answered u) {a} fa f fb =
    let is = told-answer (lookup es a) v f in
    ap (λ (t : ℕ). dated (stale_at x t) (cond v (utc_to_gps es u) (refused 8)))
    (fb ∙ ap (λ (l : Lookup). second_reading u l.offset a) is
    ∙ ap (λ (t : ℕ). second_reading u (offset_at es t) t) fa)
at-utc x v es (refused k) fa f fb = no_answer v k _ _

-- the same of an outcome
module _ (x : ℕ) (v : Bool) (reading : ℕ → ℕ) (next : ℕ → Outcome ℕ) (d : ℕ) where
  pub sum_first : (count : Outcome ℕ) {sum : Outcome ℕ} → sum ≡ then count (up d)
      → dated (stale_at x (reading (value_in 0 sum))) (cond v (then sum next) (refused 8))
      ≡ dated (stale_at x (reading (value_in 0 count + d))) (cond v (then count (λ n. then (up d n) next)) (refused 8))
  sum_first count is =
      ap (λ (o : Outcome ℕ). dated (stale_at x (reading (value_in 0 o))) (cond v (then o next) (refused 8))) is ∙ go count
    where
      go : (count : Outcome ℕ) → let sum = then count (up d) in
          dated (stale_at x (reading (value_in 0 sum))) (cond v (then sum next) (refused 8))
          ≡ dated (stale_at x (reading (value_in 0 count + d))) (cond v (then count (λ n. then (up d n) next)) (refused 8))
      go (answered n) = added-first x v reading next d n
      go (refused k) = no_answer v k _ _

-- what was told, in parts
module _ {A : Type 0} (s : Bool) (o : Outcome A) {x : Outcome A × Bool} (is : x ≡ dated s o) where
  pub answer_is : x.0 ≡ o
  answer_is = (λ i. (is i).0) ∙ answer-kept s o

  pub stale_is : {a : A} → o ≡ answered a → x.1 ≡ s
  stale_is e = (λ i. (is i).1) ∙ answer-dated e

-- a step after
module _ (s v : Bool) (o : Outcome ℕ) {x : Outcome ℕ × Bool} (is : x ≡ dated s (cond v o (refused 8))) where
  pub then-dated : (next : ℕ → Outcome ℕ) → then_dated x next ≡ dated s (cond v (then o next) (refused 8))
  then-dated next = ap (λ (y : Outcome ℕ × Bool). then_dated y next) is ∙ go v o
    where
      go : (v : Bool) (o : Outcome ℕ)
          → then_dated (dated s (cond v o (refused 8))) next ≡ dated s (cond v (then o next) (refused 8))
      go true (answered a) = refl
      go true (refused k) = refl
      go false o = refl

  pub changed-dated : (f : ℕ → ℤ) → changed_dated f x ≡ dated s (cond v (changed f o) (refused 8))
  changed-dated f = ap (changed_dated f) is ∙ go v o
    where
      go : (v : Bool) (o : Outcome ℕ)
          → changed_dated f (dated s (cond v o (refused 8))) ≡ dated s (cond v (changed f o) (refused 8))
      go true (answered a) = refl
      go true (refused k) = refl
      go false o = refl
