-- The leading bytes that pass a test: how many they are, what they are, and what comes after them.
use mathlib.Core.Path.{◌≡◌, refl, ap, ◌∙◌}
use mathlib.Core.Bool.{Bool, true, false, cond, true≢false}
use mathlib.Core.List.{List, [], ◌∷◌}
use Prim.Native.Nat.{ℕ, suc, ◌+◌, ◌-◌, ◌≤◌, ◌<◌}
use native.Mathlib.Omega.{arith}
use borrow.Author.Tests.{eqb-true}
use lib.Dec.{eqb}
use lib.ListN.{length, get_or, take, drop, length-drop}
use lib.Seq.{take_all}
use Rattle.std.specs.List.{prefix_len}
use Rattle.texts.specs.Ends.{until_end, NoEndBetween}
use Rattle.published.specs.LeapSecondsList.{take_while, drop_while, begins}

-- the first i bytes pass a test, the next one does not, and they are in one line
abbrev pub Passed : (ℕ → Bool) → List ℕ → ℕ → Type 0
Passed test s i = (drop i s ≡ drop_while test s) × NoEndBetween s 0 i

-- the text from a place on, as the code takes it
pub is_rest : (s : List ℕ) (at : ℕ) → take (length s - at) (drop at s) ≡ drop at s
is_rest s at = take_all (length s - at) (drop at s) (omega (arith, length-drop at s))

module _ (test : ℕ → Bool) where
  pub one_more : (b : ℕ) (s : List ℕ) → test b ≡ true → prefix_len test (b ∷ s) ≡ suc (prefix_len test s)
  one_more b s e = let n : 1 + prefix_len test s ≡ suc (prefix_len test s) = omega arith in rw (e, n)

  pub take_leading : (s : List ℕ) → take (prefix_len test s) s ≡ take_while test s
  unfolding take_while
  take_leading [] = refl
  take_leading (b ∷ s) = by_byte (test b) refl (take_leading s)
    where
      by_byte : (t : Bool) → test b ≡ t → take (prefix_len test s) s ≡ take_while test s
          → take (prefix_len test (b ∷ s)) (b ∷ s) ≡ cond (test b) (b ∷ take_while test s) []
      by_byte true e rest = rw (one_more b s e, e) (ap (λ xs. b ∷ xs) rest)
      by_byte false e rest = rw e

  pub drop_leading : (s : List ℕ) → drop (prefix_len test s) s ≡ drop_while test s
  unfolding drop_while
  drop_leading [] = refl
  drop_leading (b ∷ s) = by_byte (test b) refl (drop_leading s)
    where
      by_byte : (t : Bool) → test b ≡ t → drop (prefix_len test s) s ≡ drop_while test s
          → drop (prefix_len test (b ∷ s)) (b ∷ s) ≡ cond (test b) (drop_while test s) (b ∷ s)
      by_byte true e rest = rw (one_more b s e, e) rest
      by_byte false e rest = rw e

  pub leading_within : (s : List ℕ) → prefix_len test s ≤ length s
  leading_within [] = omega arith
  leading_within (b ∷ s) = by_byte (test b) refl (leading_within s)
    where
      by_byte : (t : Bool) → test b ≡ t → prefix_len test s ≤ length s → prefix_len test (b ∷ s) ≤ length (b ∷ s)
      by_byte true e rest = rw (one_more b s e) (omega (arith, rest))
      by_byte false e rest = rw e (omega arith)

  -- there is one exactly if the first byte passes
  pub none_leads : (s : List ℕ) → prefix_len test s ≡ 0 → begins false test s ≡ false
  none_leads [] z = refl
  none_leads (b ∷ s) z = by_byte (test b) refl
    where
      by_byte : (t : Bool) → test b ≡ t → test b ≡ false
      by_byte true e = absurd (omega (arith, z, one_more b s e))
      by_byte false e = e

  pub one_leads : (s : List ℕ) → (prefix_len test s ≡ 0 → ⊥) → begins false test s ≡ true
  one_leads [] n = absurd (n refl)
  one_leads (b ∷ s) n = by_byte (test b) refl
    where
      by_byte : (t : Bool) → test b ≡ t → test b ≡ true
      by_byte true e = e
      by_byte false e = absurd (n (rw e))

  -- the byte after them
  pub first_here : (s : List ℕ) → 0 < length s → test (get_or s 0 0) ≡ false → take_while test s ≡ []
  unfolding take_while
  first_here [] l e = absurd (omega arith)
  first_here (b ∷ s) l e = rw e

  pub stays_here : (s : List ℕ) → 0 < length s → test (get_or s 0 0) ≡ false → drop_while test s ≡ s
  unfolding drop_while
  stays_here [] l e = absurd (omega arith)
  stays_here (b ∷ s) l e = rw e

  -- by a test that a line end does not pass they are in one line
  module _ (in_line : test 10 ≡ false) where
    no_end : (b : ℕ) → test b ≡ true → eqb b 10 ≡ false
    no_end b e = by_byte (eqb b 10) refl
      where
        by_byte : (t : Bool) → eqb b 10 ≡ t → eqb b 10 ≡ false
        by_byte true f = absurd (true≢false (rw e at (ap test (eqb-true b 10 f) ∙ in_line)))
        by_byte false f = f

    until_leading : (s : List ℕ) → until_end s ≡ prefix_len test s + until_end (drop (prefix_len test s) s)
    until_leading [] = refl
    until_leading (b ∷ s) = by_byte (test b) refl (until_leading s)
      where
        by_byte : (t : Bool) → test b ≡ t → until_end s ≡ prefix_len test s + until_end (drop (prefix_len test s) s)
            → until_end (b ∷ s) ≡ prefix_len test (b ∷ s) + until_end (drop (prefix_len test (b ∷ s)) (b ∷ s))
        by_byte true e rest = rw (one_more b s e, no_end b e) (omega (arith, rest))
        by_byte false e rest = rw e (omega arith)

    pub passed_all : (s : List ℕ) (i : ℕ) → i ≡ prefix_len test s → Passed test s i
    passed_all s i is = rw is (drop_leading s, (omega (arith, until_leading s), leading_within s))
