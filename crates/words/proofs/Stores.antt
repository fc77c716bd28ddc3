-- Runs of stores into a list.
use mathlib.Core.Path.{◌≡◌, refl, sym, ap, ◌∙◌}
use mathlib.Core.List.{List, [], ◌∷◌, ◌++◌, append_assoc}
use Prim.Native.Nat.{ℕ, suc, ◌+◌, ◌<◌, ◌≤◌}
use native.Mathlib.Nat.{add-zero}
use native.Mathlib.Omega.{arith}
use lib.ListN.{length, set}
use borrow.Rule.Slice.PartMut.{put_mid}
use lib.Seq.{sets, set_comm, drop-drop}
use Rattle.std.proofs.lemmas.List.Edits.{sets-eq}

-- two runs, the second from where the first ends, are one
pub sets_sets : (vs ws l : List ℕ) (i : ℕ) → sets (sets l i vs) (i + length vs) ws ≡ sets l i (vs ++ ws)
sets_sets [] ws l i = rw add-zero
sets_sets (v ∷ vs) ws l i =
    ap (λ (k : ℕ). sets (sets (set l i v) (suc i) vs) k ws) (omega arith) ∙ sets_sets vs ws (set l i v) (suc i)

-- a run and then another, from where the first ends
pub joined : {x y : List ℕ} (out : List ℕ) (at p : ℕ) (vs ws : List ℕ) → x ≡ sets out at vs → p ≡ at + length vs
    → y ≡ sets x p ws → y ≡ sets out at (vs ++ ws)
joined out at p vs ws e place f =
    f ∙ ap (λ (l : List ℕ). sets l p ws) e ∙ ap (λ (k : ℕ). sets (sets out at vs) k ws) place ∙ sets_sets vs ws out at

-- a store before a run
set_before : (vs l : List ℕ) (p q d : ℕ) → p < q → set (sets l q vs) p d ≡ sets (set l p d) q vs
set_before [] l p q d h = refl
set_before (v ∷ vs) l p q d h =
    set_before vs (set l q v) p (suc q) d (omega arith)
    ∙ ap (λ (k : List ℕ). sets k (suc q) vs) (set_comm l q p v d (λ e. omega arith))

-- runs that do not meet, in either order
pub sets_apart : (ws vs l : List ℕ) (p q : ℕ) → p + length ws ≤ q → sets (sets l q vs) p ws ≡ sets (sets l p ws) q vs
sets_apart [] vs l p q h = refl
sets_apart (w ∷ ws) vs l p q h =
    ap (λ (k : List ℕ). sets k (suc p) ws) (set_before vs l p q w (omega arith))
    ∙ sets_apart ws vs (set l p w) (suc p) q (omega arith)

-- a run before a run
pub sets_before : (ws vs l : List ℕ) (p q : ℕ) → q ≡ p + length ws → sets (sets l q vs) p ws ≡ sets l p (ws ++ vs)
sets_before ws vs l p q e = sets_apart ws vs l p q (omega arith) ∙ joined l p q ws vs refl e refl

-- a part of a list put back
pub part_put : (l vs : List ℕ) (at k : ℕ) → length vs ≡ k → at + k ≤ length l → put_mid at k l vs ≡ sets l at vs
part_put l vs at k e h = sym (sets-eq vs l at (omega arith) ∙ rw (append_assoc, e, drop-drop))
