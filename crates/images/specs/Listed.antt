-- A list of entries as bytes: 12 each, 8 of the threshold and 4 of the offset, low byte first.
use Rattle.std.specs.Prelude.{Bool, cond, List, [], ◌∷◌, ℕ, zero, suc, ◌/◌, ◌%◌, eqb, length, take, drop}
use Rattle.std.specs.Int.{w32}
use Rattle.std.proofs.Common.{to_z}
use Rattle.refusals.specs.Outcome.{Outcome, refused}
use Rattle.words.specs.Words.{number_in}
use Rattle.tables.specs.Entries.{Entry, entry, checking}
use Rattle.lent.specs.Lists.{of_valid_list}

-- the bytes are a whole number of entries
abbrev pub whole : List ℕ → Bool
whole b = eqb (length b % 12) 0

-- the first entry of a list in bytes; the offset is the number whose two's complement its 4 bytes are
abbrev pub first_in : List ℕ → Entry
first_in b = entry (number_in (take 8 b)) (to_z w32 (number_in (take 4 (drop 8 b))))

-- the first n entries
unfoldable pub entries_from : ℕ → List ℕ → List Entry
entries_from zero bs = []
entries_from (suc n) bs = first_in bs ∷ entries_from n (drop 12 bs)

-- all whole entries in a list of bytes
abbrev pub entries_in : List ℕ → List Entry
entries_in b = entries_from (length b / 12) b

-- checking a list: 8 where the bytes are no list
abbrev pub list_checked : List ℕ → ℕ
list_checked b = cond (whole b) (checking (entries_in b)) 8

-- a call with a list: 8 where the bytes are no list, and where the list is not valid
abbrev pub of_listed : {A : Type 0} → List ℕ → (List Entry → Outcome A) → Outcome A
of_listed b answer = cond (whole b) (of_valid_list (entries_in b) (answer (entries_in b))) (refused 8)
