-- What a call answers by the table in an image: the 8 of the lookup that tests it, or what it answers by a table that is
-- held.
use mathlib.Core.Path.{◌≡◌, sym, ap, ◌∙◌}
use mathlib.Core.Bool.{Bool, false}
use mathlib.Core.List.{List}
use Prim.Native.Nat.{ℕ}
use Rattle.refusals.specs.Outcome.{Outcome, answered, refused}
use Rattle.tables.specs.Entries.{Entry}
use Rattle.tables.specs.Expiry.{dated}
use Rattle.tables.specs.declared.Lookup.{Lookup}
use Rattle.tables.proofs.Checked.{told-answer, told_refusal}
use Rattle.images.specs.Image.{by_image, dated_by_image}
use Rattle.images.proofs.Held.{Held, holds, one_test}
use Rattle.images.proofs.Dated.{es, stale_in, in_one}

pub looked_up : (b : List ℕ) (l : Lookup) {found : Lookup} → answered found ≡ by_image b (λ es. answered l) → found ≡ l
looked_up b l e = told-answer l (holds b) (e ∙ one_test b (answered l))

module _ {A : Type 0} (b : List ℕ) (tai : List Entry → ℕ) (answer : List Entry → Outcome A) where
  pub not_told : (l : Lookup) {k : ℕ} → refused k ≡ by_image b (λ es. answered l)
      → (refused k, false) ≡ dated_by_image b tai answer
  not_told l e =
      ap (dated (stale_in b (tai (es b)))) (told_refusal l (holds b) (answer (es b)) (e ∙ one_test b (answered l)))
      ∙ sym (in_one b tai answer)

  pub by_held : Held b → {x : Outcome A × Bool} → x ≡ dated (stale_in b (tai (es b))) (answer (es b))
      → x ≡ dated_by_image b tai answer
  by_held h e = e ∙ sym (in_one b tai answer ∙ rw h.passes)
