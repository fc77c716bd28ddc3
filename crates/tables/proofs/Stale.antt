-- When a table is stale, and what that leaves of an answer: the answer itself, always.
use mathlib.Core.Path.{◌≡◌, refl}
use mathlib.Core.Bool.{Bool, true, false}
use Prim.Native.Nat.{ℕ, ◌≤◌}
use native.Mathlib.Omega.{arith}
use borrow.Author.Tests.{leb-true, le-leb}
use lib.Dec.{leb, eqb}
use mathlib.Core.Bool.{not}
use Rattle.refusals.specs.Outcome.{Outcome, answered, refused}
use Rattle.tables.specs.Slots.{no_expiry}
use Rattle.tables.specs.Expiry.{stale_at, dated}
use Rattle.tables.proofs.Neighbours.{both}

module _ {A : Type 0} where
  -- the answer is what it was
  pub answer-kept : (stale : Bool) (o : Outcome A) → (dated stale o).0 ≡ o
  answer-kept stale (answered a) = refl
  answer-kept stale (refused k) = refl

  pub never : (o : Outcome A) → dated false o ≡ (o, false)
  never (answered a) = refl
  never (refused k) = refl

  -- only where there is an answer does it matter whether the table is stale
  pub where_answered : (o : Outcome A) {p q : Bool} → ((a : A) → o ≡ answered a → p ≡ q) → dated p o ≡ dated q o
  where_answered (answered a) same = λ i. (answered a, same a refl i)
  where_answered (refused k) same = refl

  -- yes is said of an answer
  pub said_of_answer : {stale : Bool} (o : Outcome A) → (dated stale o).1 ≡ true → stale ≡ true
  said_of_answer (answered a) y = y
  said_of_answer (refused k) y = cc

  pub answer-dated : {stale : Bool} {o : Outcome A} {a : A} → o ≡ answered a → (dated stale o).1 ≡ stale
  answer-dated e = rw e

-- a table without an expiry is never stale
pub no_expiry_lem : (tai : ℕ) → stale_at no_expiry tai ≡ false
no_expiry_lem tai = refl

-- a table that is stale at a reading is stale at every later one
pub stays_stale : (x tai later : ℕ) → tai ≤ later → stale_at x tai ≡ true → stale_at x later ≡ true
stays_stale x tai later l y =
    let h = both (not (eqb x no_expiry)) (leb x tai) y in
    let past : x ≤ later = omega (arith, leb-true x tai h.1) in
    rw (h.0, le-leb x later past)
