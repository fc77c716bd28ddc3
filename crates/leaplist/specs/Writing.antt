-- A text written at a place of a slice. Only contracts of private functions cite it.
use Rattle.std.specs.Prelude.{◌≡◌, List, ℕ, ◌+◌, length}
use Rattle.std.proofs.lemmas.List.Edits.{sets}

-- and where it ends is told
abbrev pub PutsAt : ℕ → List ℕ → List ℕ → List ℕ → ℕ → Type 0
PutsAt at text out out' end = (end ≡ at + length text) × (out' ≡ sets out at text)
