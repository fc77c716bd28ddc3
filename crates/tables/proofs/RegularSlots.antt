-- Valid slots are regular exactly if the first is (0, 19) and each later one is a day on.
use mathlib.Core.Path.{◌≡◌, refl, sym, ap, ◌∙◌}
use mathlib.Core.Bool.{Bool, true, false, ◌&&◌}
use mathlib.Core.List.{List, [], ◌∷◌}
use Prim.Native.Nat.{ℕ, zero, suc, ◌≤◌, ◌<◌}
use native.Mathlib.Omega.{arith}
use borrow.Author.Tests.{le-leb, eq-eqb, ne_eqb}
use lib.Dec.{eqb}
use lib.ListN.{length}
use lib.IntN.{ℤ, pos}
use Rattle.tables.specs.Entries.{Entry, threshold, offset, equal, neighbours, a_day_on, valid, begins, regular}
use Rattle.tables.specs.Slots.{paired, slot_at, slots}
use Rattle.tables.proofs.FirstSlots.{slots_length}
use Rattle.tables.proofs.Integers.{equal_yes, equal_no}

first-begins : (xs : List ℕ) (zs : List ℤ) (n : ℕ) → 0 < n → n ≤ length xs → n ≤ length zs
    → begins (slots xs zs n)
    ≡ (eqb (threshold (slot_at xs zs 0)) 0 && equal (offset (slot_at xs zs 0)) (pos 19))
unfolding paired
first-begins [] zs n l h h' = absurd (omega arith)
first-begins (x ∷ xs) [] n l h h' = absurd (omega arith)
first-begins (x ∷ xs) (z ∷ zs) zero l h h' = absurd (omega arith)
first-begins (x ∷ xs) (z ∷ zs) (suc n) l h h' = refl

pub no_slot : (xs : List ℕ) (zs : List ℤ) → regular (slots xs zs 0) ≡ false
unfolding neighbours paired
no_slot xs zs = refl

module _ (xs : List ℕ) (zs : List ℤ) (n : ℕ) (l : 0 < n) (few : n ≤ 64) (h : n ≤ length xs) (h' : n ≤ length zs)
    (v : valid (slots xs zs n) ≡ true) (first : Entry) (is : first ≡ slot_at xs zs 0) where
  tests : regular (slots xs zs n)
      ≡ (eqb (threshold first) 0 && equal (offset first) (pos 19) && neighbours a_day_on (slots xs zs n))
  tests =
      rw (is, le-leb (length (slots xs zs n)) 64 (omega (arith, slots_length xs zs n h h')), v)
      (ap (λ (b : Bool). b && neighbours a_day_on (slots xs zs n)) (first-begins xs zs n l h h'))

  pub not_at_0 : (threshold first ≡ 0 → ⊥) → false ≡ regular (slots xs zs n)
  not_at_0 k = sym (rw (ne_eqb (threshold first) 0 k) at tests)

  module _ (z : threshold first ≡ 0) where
    pub not_19 : (offset first ≡ pos 19 → ⊥) → false ≡ regular (slots xs zs n)
    not_19 k = sym (rw (eq-eqb (threshold first) 0 z, equal_no (offset first) (pos 19) k) at tests)

    pub by_days : offset first ≡ pos 19 → {b : Bool} → b ≡ neighbours a_day_on (slots xs zs n)
        → b ≡ regular (slots xs zs n)
    by_days o d = d ∙ sym (rw (eq-eqb (threshold first) 0 z, equal_yes (offset first) (pos 19) o) at tests)
