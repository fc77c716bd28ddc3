-- A block cut into pieces: what two of them come to, and what one without a line end leaves begun.
use mathlib.Core.Path.{◌≡◌, refl, sym, ap}
use mathlib.Core.Bool.{true, false, cond}
use mathlib.Core.List.{List, [], ◌∷◌, ◌++◌, append-nil, append_assoc}
use Prim.Native.Nat.{ℕ, ◌≤◌}
use native.Mathlib.Decide.{dec_le}
use native.Mathlib.Omega.{arith}
use borrow.Author.Tests.{lt-ltb, le-ltb}
use lib.Dec.{eqb, ltb}
use lib.ListN.{length, take, length-append}
use lib.Seq.{take_all, take-append-le, length-take-le}
use Rattle.texts.specs.Ends.{has_no_end}
use Rattle.texts.proofs.LineEnds.{no_end}
use Rattle.lines.specs.Pieces.{grown, begun_after, written}

-- ---- a piece and then another is both of them at once
pub begun_joins : (c a b : List ℕ) → begun_after c (a ++ b) ≡ begun_after (begun_after c a) b
begun_joins c [] b = refl
begun_joins c (x ∷ a) b = begun_joins (grown c x) a b

pub written_joins : (f : List ℕ → List ℕ) (c a b : List ℕ)
    → written f c (a ++ b) ≡ written f c a ++ written f (begun_after c a) b
written_joins f c [] b = refl
written_joins f c (x ∷ a) b = rw (append_assoc, written_joins f (grown c x) a b)

-- ---- of the line that is begun the first 128 bytes are kept
pub clipped : (u : List ℕ) (b : ℕ) → eqb b 10 ≡ false → grown (take 128 u) b ≡ take 128 (u ++ (b ∷ []))
clipped u b e = by_length (dec_le 128 (length u))
  where
    by_length : Dec (128 ≤ length u) → grown (take 128 u) b ≡ take 128 (u ++ (b ∷ []))
    by_length (yes h) =
        let full : length (take 128 u) ≡ 128 = length-take-le 128 u h in
        rw (e, le-ltb (length (take 128 u)) 128 (omega arith)) (sym (take-append-le 128 u (b ∷ []) h))
    by_length (no h) =
        let whole : take 128 u ≡ u = take_all 128 u (omega (arith, h)) in
        let room : length (u ++ (b ∷ [])) ≤ 128 = omega (arith, h, length-append u (b ∷ [])) in
        rw (whole, e, lt-ltb (length u) 128 (omega (arith, h))) (sym (take_all 128 (u ++ (b ∷ [])) room))

pub free_begun : (p u : List ℕ) → has_no_end p ≡ true → begun_after (take 128 u) p ≡ take 128 (u ++ p)
free_begun [] u e = ap (take 128) (sym (append-nil u))
free_begun (b ∷ p) u e =
    rw (clipped u b (no_end b p e).0) (rw append_assoc at (free_begun p (u ++ (b ∷ [])) (no_end b p e).1))

pub free_writes : (f : List ℕ → List ℕ) (p c : List ℕ) → has_no_end p ≡ true → written f c p ≡ []
free_writes f [] c e = refl
free_writes f (b ∷ p) c e =
    rw (no_end b p e).0 (free_writes f p (cond (ltb (length c) 128) (c ++ (b ∷ [])) c) (no_end b p e).1)
