-- What an entry and those after it leave as it was: every lookup below its threshold. In a list it is one more leap
-- second from there on, until the next entry.
use mathlib.Core.Path.{◌≡◌, refl, ap, ◌∙◌}
use mathlib.Core.Bool.{Bool, true, false, cond}
use mathlib.Core.List.{List, [], ◌∷◌, ◌++◌}
use Prim.Native.Nat.{ℕ, suc, ◌+◌, ◌-◌, ◌≤◌, ◌<◌}
use native.Mathlib.Omega.{arith}
use borrow.Author.Tests.{lt-leb}
use lib.Dec.{leb}
use lib.ListN.{length}
use lib.IntN.{pos}
use Rattle.tables.specs.Entries.{Entry, threshold, offset, day, last_or, telling, in_force, lookup, offset_at}
use Rattle.tables.proofs.Reached.{Chain, reached}

-- below the threshold of e, whatever follows
in_force_below : (p : Entry) (ps : List Entry) (e : Entry) (rest : List Entry) (t k : ℕ) → t < threshold e
    → (in_force t k p (ps ++ e ∷ rest)).offset ≡ (in_force t k p ps).offset
unfolding in_force
in_force_below p [] e rest t k l = rw (lt-leb (threshold e) t l)
in_force_below p (f ∷ fs) e rest t k l = go (leb (threshold f) t) (in_force_below f fs e rest t (k + 1) l)
  where
    go : (b : Bool) → (in_force t (k + 1) f (fs ++ e ∷ rest)).offset ≡ (in_force t (k + 1) f fs).offset
        → (cond b (in_force t (k + 1) f (fs ++ e ∷ rest)) (telling k p (f ∷ fs ++ e ∷ rest))).offset
        ≡ (cond b (in_force t (k + 1) f fs) (telling k p (f ∷ fs))).offset
    go true h = h
    go false h = refl

pub offset-below : (es : List Entry) (e : Entry) (rest : List Entry) (t : ℕ) → 0 < length es → t < threshold e
    → offset_at (es ++ e ∷ rest) t ≡ offset_at es t
unfolding lookup
offset-below [] e rest t some l = absurd (omega arith)
offset-below (p ∷ ps) e rest t some l = in_force_below p ps e rest t 0 l

-- ---- regular lists
pub reached-joined : (es fs : List Entry) (t : ℕ) → reached (es ++ fs) t ≡ reached es t + reached fs t
unfolding reached
reached-joined [] fs t = omega arith
reached-joined (e ∷ es) fs t = omega (arith, reached-joined es fs t)

-- the last of a chain
pub last-offset : (p : Entry) (es : List Entry) (n : ℕ) → Chain p es → offset p ≡ pos n
    → offset (last_or p es) ≡ pos (n + length es)
unfolding last_or
last-offset p [] n c o = o ∙ ap pos (omega arith)
last-offset p (e ∷ es) n c o =
    last-offset e es (suc n) c.2 (c.1 ∙ rw o (ap pos (omega arith))) ∙ ap pos (omega arith)

-- an entry within a chain
pub record Within (p : Entry) (es : List Entry) (e : Entry) (rest : List Entry) : Type 0 where
  pub after_first : threshold p + day ≤ threshold e
  pub all-before : reached es (threshold e) ≡ length es
  pub offset_is : (n : ℕ) → offset p ≡ pos n → offset e ≡ pos (n + length es + 1)
  pub goes_on : Chain e rest

pub within : (p : Entry) (es : List Entry) (e : Entry) (rest : List Entry) → Chain p (es ++ e ∷ rest) → Within p es e rest
unfolding reached
within p [] e rest c = record {
  after_first = c.0;
  all-before = refl;
  offset_is = λ n o. c.1 ∙ rw o (ap pos (omega arith));
  goes_on = c.2;
}
within p (f ∷ fs) e rest c =
    let w = within f fs e rest c.2 in
    record {
      after_first = omega (arith, c.0, w.after_first);
      all-before = omega (arith, w.after_first, w.all-before);
      offset_is = λ n o. w.offset_is (suc n) (c.1 ∙ rw o (ap pos (omega arith))) ∙ ap pos (omega arith);
      goes_on = w.goes_on;
    }

-- one more leap second from its threshold on, until the next entry
pub one_more : (es : List Entry) (e : Entry) (rest : List Entry) (t : ℕ) → reached rest t ≡ 0
    → reached (es ++ e ∷ rest) t ≡ reached es t + (1 - (threshold e - t))
unfolding reached
one_more es e rest t none = omega (arith, reached-joined es (e ∷ rest) t)
