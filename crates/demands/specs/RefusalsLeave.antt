-- Demand 1: a refusal gives zeros, and leaves the table as it was. proofs/Demand1 has it of each call.
-- A contract is read as the checker reads it: a statement of the lifetimes, the arguments, the answer, and what the
-- arguments are at the end. What a call writes is read through its references, named by their place among the
-- arguments.
use Rattle.std.specs.Prelude.{◌≡◌, ◌≢◌, List, [], ℕ}
use Rattle.tables.specs.Slots.{table_of}
use Rattle.tables.specs.declared.LeapTable.{LeapTable}

module _ {Lifetimes : Type 0} {Arguments Answer End : Lifetimes → Type 0}
    (Contract : (κ : Lifetimes) → Arguments κ → Answer κ → End κ → Type 0)
    (number : (κ : Lifetimes) → Answer κ → ℕ) where
  -- where the contract allows a refusal, so the number is not 0, what is left is what is due
  abbrev pub RefusalLeaves : {Left : Type 0} → ((κ : Lifetimes) → Answer κ → End κ → Left)
      → ((κ : Lifetimes) → Arguments κ → Left) → Type 0
  RefusalLeaves left due =
      (κ : Lifetimes) (a : Arguments κ) (r : Answer κ) (e : End κ)
      → Contract κ a r e → number κ r ≢ 0 → left κ r e ≡ due κ a

  -- an extension leaves the table that came: its length, all 64 slots and its expiry
  abbrev pub TableKept : ((κ : Lifetimes) → Answer κ → End κ → LeapTable)
      → ((κ : Lifetimes) → Arguments κ → LeapTable) → Type 0
  TableKept left came = RefusalLeaves left came

  -- a building gives the table with no entry
  abbrev pub TableEmpty : ((κ : Lifetimes) → Answer κ → End κ → LeapTable) → Type 0
  TableEmpty left = RefusalLeaves left (λ κ a. table_of [])

-- a host's call returns the number
module _ {Lifetimes : Type 0} {Arguments End : Lifetimes → Type 0}
    (Contract : (κ : Lifetimes) → Arguments κ → ℕ → End κ → Type 0) where
  -- what the call has written is zeros
  abbrev pub ZerosOnRefusal : {Left : Type 0} → Left → ((κ : Lifetimes) → End κ → Left) → Type 0
  ZerosOnRefusal zeros left = RefusalLeaves Contract (λ κ k. k) (λ κ k e. left κ e) (λ κ a. zeros)

  -- an image has the bytes that came
  abbrev pub BytesKept : ((κ : Lifetimes) → Arguments κ → List ℕ) → ((κ : Lifetimes) → End κ → List ℕ) → Type 0
  BytesKept came left = RefusalLeaves Contract (λ κ k. k) (λ κ k e. left κ e) came
