-- What is read off the pass over a list is what is asked of the list.
use mathlib.Core.Path.{◌≡◌, refl, ap, ◌∙◌}
use mathlib.Core.Bool.{Bool, true, false}
use mathlib.Core.List.{List}
use Prim.Native.Nat.{ℕ}
use lib.Dec.{eqb}
use lib.ListN.{length}
use Rattle.refusals.specs.Outcome.{answered}
use Rattle.tables.specs.Answers.{taken_in}
use Rattle.tables.specs.Entries.{Entry, offset, valid, offset_at, current_offset, last_update, checking}
use Rattle.tables.specs.declared.Lookup.{Lookup}
use Rattle.lent.specs.Lists.{of_valid_list}
use Rattle.lent.specs.Pass.{Seen, seen_in, begun, passed, check_at, of_taken, update_at}
use Rattle.lent.specs.declared.inner.Pass.{Pass}
use Rattle.lent.proofs.Passing.{Said, counted, checks, last-offset, last-event, in_force_lem}

module _ (t : ℕ) (ys : List Entry) (p : Pass) (said : Said t ys p) where
  pub check_read : check_at p.count (taken_in p.answer) ≡ checking ys
  check_read = ap (λ (s : Seen). check_at s.count s.refusal) said.0 ∙ checks t ys

  -- 8 where an entry is refused is 8 where the list is not valid, and what is read off a valid list is b
  read_off : {A : Type 0} (f : Seen → A) (b : A) → (valid ys ≡ true → f (passed (begun t) ys) ≡ b)
      → of_taken p.answer (answered (f (seen_in p))) ≡ of_valid_list ys (answered b)
  read_off f b same = by_test (valid ys) refl
    where
      by_test : (v : Bool) → valid ys ≡ v → of_taken p.answer (answered (f (seen_in p))) ≡ of_valid_list ys (answered b)
      by_test true v = rw (said.1, v) (ap answered (ap f said.0 ∙ same v))
      by_test false v = rw (said.1, v)

  pub length_read : of_taken p.answer (answered p.count) ≡ of_valid_list ys (answered (length ys))
  length_read = read_off (λ s. s.count) _ (λ v. counted t ys)

  pub emptiness_read : of_taken p.answer (answered (eqb p.count 0)) ≡ of_valid_list ys (answered (eqb (length ys) 0))
  emptiness_read = read_off (λ s. eqb s.count 0) _ (λ v. ap (λ (n : ℕ). eqb n 0) (counted t ys))

  pub update_read : of_taken p.answer (answered (update_at p.count p.last))
      ≡ of_valid_list ys (answered (last_update ys))
  update_read = read_off (λ s. update_at s.count s.last) _ (λ v. last-event t ys)

  pub current_read : of_taken p.answer (answered (offset p.last)) ≡ of_valid_list ys (answered (current_offset ys))
  current_read = read_off (λ s. offset s.last) _ (λ v. last-offset t ys)

  pub in_force_read : of_taken p.answer (answered p.found.offset) ≡ of_valid_list ys (answered (offset_at ys t))
  in_force_read = read_off (λ s. s.found.offset) _ (λ v. ap (λ (l : Lookup). l.offset) (in_force_lem t ys v))
