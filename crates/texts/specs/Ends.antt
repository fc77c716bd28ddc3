-- The search for a line end. Only the contracts of functions in `inner` cite these definitions: what they come to for the
-- lines of a text is in proofs/FirstLine.antt.
use Rattle.std.specs.Prelude.{◌≡◌, ℕ, suc, ◌+◌, ◌≤◌, Bool, true, cond, not, ◌&&◌, List, [], ◌∷◌, eqb, length, drop}

-- no byte ends a line
abbrev pub has_no_end : List ℕ → Bool
has_no_end [] = true
has_no_end (b ∷ bs) = not (eqb b 10) && has_no_end bs

-- how many bytes stand before the first byte 10
abbrev pub until_end : List ℕ → ℕ
until_end [] = 0
until_end (b ∷ bs) = cond (eqb b 10) 0 (suc (until_end bs))

-- no byte from `at` to i is a byte 10
abbrev pub NoEndBetween : List ℕ → ℕ → ℕ → Type 0
NoEndBetween s at i = (at + until_end (drop at s) ≡ i + until_end (drop i s)) × (i ≤ length s)
