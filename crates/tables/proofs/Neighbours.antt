-- Entries and the ones before them: the first refusal of a list, and what a valid list is at each place.
use mathlib.Core.Path.{◌≡◌, refl, sym}
use mathlib.Core.Bool.{Bool, true, false, cond, ◌&&◌, and-eq-true_iff}
use mathlib.Core.List.{List, [], ◌∷◌}
use Prim.Native.Nat.{ℕ, zero, suc, ◌<◌}
use native.Mathlib.Omega.{arith}
use native.Mathlib.Decide.{dec_lt}
use borrow.Author.Tests.{lt-leb, lt-ltb, leb-false, ltb-true, eqb-true}
use lib.Dec.{ltb, leb, eqb, eqb-suc-zero}
use lib.ListN.{length, get_or}
use lib.IntN.{pos, ◌+ℤ◌}
use mir.Syntax.{w32}
use mir.Val.{SFits}
use Rattle.tables.specs.Entries.{Entry, threshold, offset, equal, neighbours, follows, valid, step_refusal}
use Rattle.tables.specs.Entries.{first_refusal}
use Rattle.tables.proofs.Integers.{equal_no, equal_true, none_above}

pub both : (a b : Bool) → (a && b) ≡ true → (a ≡ true) × (b ≡ true)
both a b = (and-eq-true_iff a b).0

-- two tests of which each holds where the other does
pub same_test : (a b : Bool) → (a ≡ true → b ≡ true) → (b ≡ true → a ≡ true) → a ≡ b
same_test true b is if = sym (is refl)
same_test false true is if = if refl
same_test false false is if = refl

-- the number that judges a step, by its three tests
not_refused : (late largest more : Bool) → ◌≡◌ {A = ℕ} (cond late 3 (cond largest 7 (cond more 0 4))) 0
    → (late ≡ false) × (more ≡ true)
not_refused true largest more z = absurd (omega arith)
not_refused false true more z = absurd (omega arith)
not_refused false false true z = (refl, refl)
not_refused false false false z = absurd (omega arith)

-- a step that is refused by nothing follows
pub zero_follows : (p e : Entry) → step_refusal p e ≡ 0 → follows p e ≡ true
zero_follows p e z =
    let largest = equal (offset p) (pos 2_147_483_647) in
    let h = not_refused (leb (threshold e) (threshold p)) largest (equal (offset e) (offset p +ℤ pos 1)) z in
    rw (lt-ltb _ _ (leb-false _ _ h.0), h.1)

-- and one that follows is refused by nothing, among 32-bit offsets
pub step_follows : (p e : Entry) → SFits w32 (offset e) → eqb (step_refusal p e) 0 ≡ follows p e
step_follows p e f = same_test _ _ (λ z. zero_follows p e (eqb-true _ 0 z)) if
  where
    if : follows p e ≡ true → eqb (step_refusal p e) 0 ≡ true
    if v =
        let h = both (ltb (threshold p) (threshold e)) (equal (offset e) (offset p +ℤ pos 1)) v in
        simp (
          lt-leb (threshold e) (threshold p) (ltb-true _ _ h.0),
          equal_no (offset p) (pos 2_147_483_647) (λ l. none_above (offset p) (offset e) f l (equal_true _ _ h.1)),
          h.1,
        )

-- a list of which no entry is refused is valid
pub passes_valid : (es : List Entry) → first_refusal es ≡ 0 → valid es ≡ true
unfolding neighbours first_refusal
passes_valid [] z = refl
passes_valid (p ∷ []) z = refl
passes_valid (p ∷ e ∷ es) z =
    let h = both_zero (step_refusal p e) z in
    rw (zero_follows p e h.0) (passes_valid (e ∷ es) h.1)
  where
    both_zero : (k : ℕ) {j : ℕ} → cond (eqb k 0) j k ≡ 0 → (k ≡ 0) × (j ≡ 0)
    both_zero zero z = (refl, z)
    both_zero (suc k) z = let c : suc k ≡ 0 = rw (eqb-suc-zero k) at z in absurd (omega arith)

-- the test of neighbours, turned into the fact at each place
pub at_each : (test : Entry → Entry → Bool) (es : List Entry) (d : Entry) → neighbours test es ≡ true
    → (k : ℕ) → suc k < length es → test (get_or es k d) (get_or es (suc k) d) ≡ true
unfolding neighbours
at_each test [] d v k l = absurd (omega arith)
at_each test (p ∷ []) d v k l = absurd (omega arith)
at_each test (p ∷ e ∷ es) d v zero l = (both (test p e) (neighbours test (e ∷ es)) v).0
at_each test (p ∷ e ∷ es) d v (suc k) l =
    at_each test (e ∷ es) d (both (test p e) (neighbours test (e ∷ es)) v).1 k (omega arith)

-- and the facts at all places, turned into the test
pub every_place : (test : Entry → Entry → Bool) (es : List Entry) (d : Entry)
    → ((k : ℕ) → suc k < length es → test (get_or es k d) (get_or es (suc k) d) ≡ true) → neighbours test es ≡ true
unfolding neighbours
every_place test [] d each = refl
every_place test (p ∷ []) d each = refl
every_place test (p ∷ e ∷ es) d each =
    rw (each 0 (omega arith)) (every_place test (e ∷ es) d (λ k l. each (suc k) (omega arith)))

-- thresholds of a valid list rise
pub thresholds_rise : (es : List Entry) (d : Entry) → valid es ≡ true → (i j : ℕ) → i < j → j < length es
    → threshold (get_or es i d) < threshold (get_or es j d)
thresholds_rise es d v i zero l l' = absurd (omega arith)
thresholds_rise es d v i (suc j) l l' = go (dec_lt i j) (thresholds_rise es d v i j)
  where
    step : threshold (get_or es j d) < threshold (get_or es (suc j) d)
    step = ltb-true _ _ (both _ _ (at_each follows es d v j l')).0

    go : Dec (i < j) → (i < j → j < length es → threshold (get_or es i d) < threshold (get_or es j d))
        → threshold (get_or es i d) < threshold (get_or es (suc j) d)
    go (yes q) before = omega (arith, before q (omega arith), step)
    go (no q) before = let e : i ≡ j = omega (arith, q) in rw e step
