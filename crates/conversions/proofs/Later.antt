-- UTC to a scale that begins where the GPS count is d: by the GPS count that a store finds, or, before d, by the later
-- one.
use mathlib.Core.Path.{◌≡◌, refl, sym, ap, ◌∙◌}
use mathlib.Core.Bool.{Bool, true, false, cond}
use mathlib.Core.List.{List}
use Prim.Native.Nat.{ℕ, ◌+◌, ◌≤◌, ◌<◌}
use borrow.Author.Tests.{le-leb, lt-leb}
use Rattle.refusals.specs.Outcome.{Outcome, answered, refused, value_in, then}
use Rattle.refusals.proofs.Given.{no_refusal}
use Rattle.refusals.proofs.Steps.{then-then}
use Rattle.counts.specs.Exact.{up, down}
use Rattle.counts.specs.Units.{second}
use Rattle.scales.specs.Scales.{tai_minus_gps}
use Rattle.tables.specs.Entries.{Entry}
use Rattle.conversions.specs.Conversions.{gps_to_utc, last_reading, utc_to_gps}
use Rattle.conversions.specs.Shifted.{same_answer, later_of, shifted_to_utc, utc_to_shifted, shifted_reading}

-- a refusal is no answer's same
pub no_same : (o : Outcome ℕ) {k : ℕ} {p : Outcome ℕ} → p ≡ refused k → same_answer o p ≡ false
no_same (answered m) e = rw e
no_same (refused j) e = refl

-- in a store that is valid or not, and then refuses with 8 first
module _ (d : ℕ) (v : Bool) (es : List Entry) (utc : Outcome ℕ) where
  abbrev found : Outcome ℕ
  found = cond v (then utc (utc_to_gps es)) (refused 8)

  abbrev due : Outcome ℕ
  due = cond v (then utc (utc_to_shifted d es)) (refused 8)

  module _ {gps : Outcome ℕ} (is : gps ≡ found) where
    pub refused_too : {k : ℕ} → gps ≡ refused k → refused k ≡ due
    refused_too {k} e = go v utc (sym is ∙ e)
      where
        go : (v : Bool) (utc : Outcome ℕ) → cond v (then utc (utc_to_gps es)) (refused 8) ≡ refused k
            → refused k ≡ cond v (then utc (utc_to_shifted d es)) (refused 8)
        go false utc p = sym p
        go true (refused j) p = sym p
        go true (answered u) p = rw p

    module _ {g : ℕ} (e : gps ≡ answered g) where
      pub there_valid : v ≡ true
      there_valid = go v (sym is ∙ e)
        where
          go : (v : Bool) → cond v (then utc (utc_to_gps es)) (refused 8) ≡ answered g → v ≡ true
          go true p = refl
          go false p = cc

      pub from_epoch_on : d ≤ g → down d g ≡ due
      from_epoch_on l = go v utc (sym is ∙ e)
        where
          go : (v : Bool) (utc : Outcome ℕ) → cond v (then utc (utc_to_gps es)) (refused 8) ≡ answered g
              → down d g ≡ cond v (then utc (utc_to_shifted d es)) (refused 8)
          go false utc p = absurd (no_refusal (refused 8) p refl)
          go true (refused j) p = absurd (no_refusal (refused j) p refl)
          go true (answered u) p = rw (p, le-leb d g l)

      pub before_epoch : g < d → then (later_of es g) (down d) ≡ due
      before_epoch l = go v utc (sym is ∙ e)
        where
          go : (v : Bool) (utc : Outcome ℕ) → cond v (then utc (utc_to_gps es)) (refused 8) ≡ answered g
              → then (later_of es g) (down d) ≡ cond v (then utc (utc_to_shifted d es)) (refused 8)
          go false utc p = absurd (no_refusal (refused 8) p refl)
          go true (refused j) p = absurd (no_refusal (refused j) p refl)
          go true (answered u) p = rw (p, lt-leb d g l)

      -- and the reading that is looked up last
      pub reads_first : d ≤ g → last_reading es (value_in 0 utc) ≡ shifted_reading d es (value_in 0 utc)
      reads_first l = go v utc (sym is ∙ e)
        where
          go : (v : Bool) (utc : Outcome ℕ) → cond v (then utc (utc_to_gps es)) (refused 8) ≡ answered g
              → last_reading es (value_in 0 utc) ≡ shifted_reading d es (value_in 0 utc)
          go false utc p = absurd (no_refusal (refused 8) p refl)
          go true (refused j) p = absurd (no_refusal (refused j) p refl)
          go true (answered u) p = rw (p, le-leb d g l)

      pub reads-later : g < d → g + second + tai_minus_gps ≡ shifted_reading d es (value_in 0 utc)
      reads-later l = go v utc (sym is ∙ e)
        where
          go : (v : Bool) (utc : Outcome ℕ) → cond v (then utc (utc_to_gps es)) (refused 8) ≡ answered g
              → g + second + tai_minus_gps ≡ shifted_reading d es (value_in 0 utc)
          go false utc p = absurd (no_refusal (refused 8) p refl)
          go true (refused j) p = absurd (no_refusal (refused j) p refl)
          go true (answered u) p = rw (p, lt-leb d g l)

-- the other way, the difference is added first
pub to_utc : (d : ℕ) (v : Bool) (es : List Entry) (count : Outcome ℕ) {gps : Outcome ℕ} → gps ≡ then count (up d)
    → cond v (then gps (gps_to_utc es)) (refused 8) ≡ cond v (then count (shifted_to_utc d es)) (refused 8)
to_utc d v es count is =
    ap (λ (o : Outcome ℕ). cond v o (refused 8))
    (ap (λ (o : Outcome ℕ). then o (gps_to_utc es)) is ∙ then-then count (up d) (gps_to_utc es))
