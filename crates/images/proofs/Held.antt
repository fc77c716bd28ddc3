-- What the test of an image gives to a call: its 8, or bytes of an image's size that hold a valid table.
use mathlib.Core.Path.{◌≡◌, refl, sym, ap, ◌∙◌}
use mathlib.Core.Bool.{Bool, true, false, cond, ◌&&◌}
use mathlib.Core.List.{List}
use Prim.Native.Nat.{ℕ, ◌≤◌}
use borrow.Author.Tests.{eqb-true, eq-eqb, le-leb}
use lib.ListN.{length}
use Rattle.refusals.specs.Outcome.{Outcome, answered, refused}
use Rattle.tables.specs.Entries.{valid}
use Rattle.tables.specs.Slots.{entries_of, valid_table}
use Rattle.tables.proofs.Checked.{Checked, checked, told-valid}
use Rattle.tables.proofs.Neighbours.{both}
use Rattle.images.specs.Image.{sized, table_in, by_image}
use Rattle.images.proofs.InSlots.{table_sized}

module _ (b : List ℕ) where
  abbrev pub holds : Bool
  holds = sized b && valid_table (table_in b)

  -- with an image's size and at most 64 slots, the test is that of the entries
  pub by_entries : length b ≡ 784 → (table_in b).len ≤ 64 → valid (entries_of (table_in b)) ≡ holds
  by_entries s f = rw (eq-eqb (length b) 784 s, le-leb (table_in b).len 64 f)

  pub record Held : Type 0 where
    pub passes : holds ≡ true
    pub size : length b ≡ 784
    pub table : Checked (table_in b)

  pub held : {v : Bool} → v ≡ holds → v ≡ true → Held
  held e t =
      let passes = sym e ∙ t in
      let s = table_sized b in
      let h = both (sized b) (valid_table (table_in b)) passes in
      record {
        passes = passes;
        size = eqb-true (length b) 784 h.0;
        table = checked (table_in b) s.thresholds s.offsets h.1;
      }

  pub valid_image : length b ≡ 784 → valid_table (table_in b) ≡ true → Held
  valid_image s v = held refl (rw (eq-eqb (length b) 784 s) v)

  -- the size and the table are one test
  module _ {A : Type 0} (o : Outcome A) where
    pub one_test : by_image b (λ es. o) ≡ cond holds o (refused 8)
    one_test = by_size (sized b) (valid_table (table_in b))
      where
        by_size : (s v : Bool) → cond s (cond v o (refused 8)) (refused 8) ≡ cond (s && v) o (refused 8)
        by_size true v = refl
        by_size false v = refl

    pub refuses : {v : Bool} → v ≡ holds → v ≡ false → refused 8 ≡ by_image b (λ es. o)
    refuses e t = sym (one_test ∙ rw (sym e ∙ t))

  -- a lookup that answers tells that there is a valid table
  pub told_held : {A : Type 0} (a : A) {x : A} → answered x ≡ by_image b (λ es. answered a) → Held
  told_held a e = held refl (told-valid a holds (e ∙ one_test (answered a)))

-- a reader of a table that is held answers by its slots
module _ {b : List ℕ} (h : Held b) where
  pub answers : {A : Type 0} {x y : A} → x ≡ y → answered x ≡ by_image b (λ es. answered y)
  answers {x} {y} e = ap answered e ∙ sym (one_test b (answered y) ∙ rw h.passes)
