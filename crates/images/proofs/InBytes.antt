-- A list in bytes, an entry at a time: what the pass has before it, and the entry at a place.
use mathlib.Core.Path.{◌≡◌, refl}
use mathlib.Core.List.{List}
use Prim.Native.Nat.{ℕ, zero, suc, ◌+◌, ◌-◌, ◌*◌, ◌<◌}
use native.Mathlib.Omega.{arith}
use lib.ListN.{get_or, drop}
use lib.Seq.{drop-drop}
use Rattle.lent.specs.Pass.{Seen, after, passed}
use Rattle.lent.proofs.Passing.{no_entry}
use Rattle.images.specs.Listed.{first_in, entries_from}
use Rattle.images.proofs.Fields.{strides}

-- one entry on
pub turn : (s : Seen) (n i : ℕ) (b : List ℕ) → i < n
    → passed (after s (first_in (drop (12 * i) b))) (entries_from (n - (i + 1)) (drop (12 * (i + 1)) b))
    ≡ passed s (entries_from (n - i) (drop (12 * i) b))
unfolding passed entries_from
turn s n i b l =
    let more : n - i ≡ suc (n - (i + 1)) = omega arith in
    let on : 12 * (i + 1) ≡ 12 * i + 12 = omega arith in
    rw (more, on, ← drop-drop 12 (12 * i) b)

-- no entry is left
pub ended : (s : Seen) (b : List ℕ) → passed s (entries_from 0 b) ≡ s
unfolding passed entries_from
ended s b = refl

pub listed : (n i : ℕ) (b : List ℕ) → i < n → get_or (entries_from n b) i no_entry ≡ first_in (drop (12 * i) b)
unfolding entries_from
listed zero i b l = absurd (omega arith)
listed (suc n) zero b l = refl
listed (suc n) (suc i) b l = rw (← strides 12 i b) (listed n i (drop 12 b) (omega arith))
