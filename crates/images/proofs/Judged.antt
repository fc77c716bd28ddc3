-- What a lookup in an image answers, 8 first, by what a pass over its slots has found.
use mathlib.Core.Path.{◌≡◌, refl, sym, ap, ◌∙◌}
use mathlib.Core.Bool.{true, false, cond}
use mathlib.Core.List.{List, []}
use Prim.Native.Nat.{ℕ, zero, suc, ◌-◌, ◌≤◌, ◌<◌}
use native.Mathlib.Omega.{arith}
use borrow.Author.Tests.{ne_eqb}
use lib.Dec.{eqb}
use lib.ListN.{length}
use lib.IntN.{ℤ}
use Rattle.refusals.specs.Outcome.{Outcome, answered, refused}
use Rattle.tables.specs.Entries.{Entry, follows, valid, lookup}
use Rattle.tables.specs.Search.{AtOrBelow, slot_told}
use Rattle.tables.specs.Slots.{slot_at, slots}
use Rattle.tables.specs.declared.Lookup.{Lookup}
use Rattle.tables.proofs.InForce.{lookup_is}
use Rattle.tables.proofs.Scanned.{invalid_at}
use Rattle.images.specs.Image.{table_in, by_image}
use Rattle.images.proofs.Held.{by_entries, held, refuses, answers}
use Rattle.images.proofs.InSlots.{table_sized}

-- what is told of a place among n slots is what a lookup tells, where the entry there is in force
pub told_is : (xs : List ℕ) (zs : List ℤ) (n : ℕ) → n ≤ length xs → n ≤ length zs → (t k : ℕ) {place : ℕ}
    → AtOrBelow xs n t k → place ≡ k - 1
    → cond (eqb n 0) (lookup [] 0) (slot_told xs zs n place) ≡ lookup (slots xs zs n) t
unfolding lookup
told_is xs zs zero h h' t k p e = refl
told_is xs zs (suc n) h h' t k p e =
    rw (ne_eqb (suc n) 0 (λ z. absurd (omega arith)))
    (ap (slot_told xs zs (suc n)) e ∙ sym (lookup_is xs zs (suc n) h h' t k (omega arith) p))

module _ (b : List ℕ) where
  abbrev pub thresholds : List ℕ
  thresholds = (table_in b).thresholds

  abbrev pub slot : ℕ → Entry
  slot i = slot_at (table_in b).thresholds (table_in b).offsets i

  abbrev pub first_slots : ℕ → List Entry
  first_slots n = slots (table_in b).thresholds (table_in b).offsets n

  -- what is told of a place among n slots
  abbrev pub told_at : ℕ → ℕ → Lookup
  told_at n place = cond (eqb n 0) (lookup [] 0) (slot_told (table_in b).thresholds (table_in b).offsets n place)

  -- the bytes of an image, with a table that says it has n entries, at most 64
  pub record Opened (n : ℕ) : Type 0 where
    pub size : length b ≡ 784
    pub len : n ≡ (table_in b).len
    pub few : n ≤ 64

  abbrev pub answer : ℕ → Outcome Lookup
  answer tai = by_image b (λ es. answered (lookup es tai))

module _ {b : List ℕ} {n : ℕ} (o : Opened b n) (tai : ℕ) where
  few : (table_in b).len ≤ 64
  few = omega arith

  -- a slot that does not follow the one before
  pub not_valid : (i : ℕ) → 1 ≤ i → i < n → follows (slot b (i - 1)) (slot b i) ≡ false → refused 8 ≡ answer b tai
  not_valid i s l f =
      let h = table_sized b in
      refuses b _ (by_entries b o.size few)
      (invalid_at _ _ i (table_in b).len s (omega arith) (omega arith) (omega arith) f)

  -- the first i slots are all n and valid, and the entry in force is at a place
  pub tells : {i place : ℕ} {found : Lookup} (k : ℕ) → i ≡ n → valid (first_slots b i) ≡ true
      → AtOrBelow (thresholds b) i tai k → place ≡ k - 1 → found ≡ told_at b n place
      → answered found ≡ answer b tai
  tells k e z p q f =
      let h = table_sized b in
      let all = e ∙ o.len in
      answers (held b (by_entries b o.size few) (rw all at z))
      (f ∙ rw o.len (told_is _ _ _ (omega arith) (omega arith) tai k (rw all at p) q))
