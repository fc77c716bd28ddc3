-- The pass over a list, one entry on and as a whole: it counts the entries, keeps the last one and the one in force,
-- and finds the first refusal.
use Rattle.std.specs.Prelude.{Option, Some}
use mathlib.Core.Path.{◌≡◌, refl, sym, ap, ◌∙◌}
use mathlib.Core.Bool.{Bool, true, false, cond, ◌&&◌}
use mathlib.Core.List.{List, [], ◌∷◌}
use Prim.Native.Nat.{ℕ, zero, suc, ◌+◌, ◌≤◌, ◌<◌}
use native.Mathlib.Omega.{arith}
use native.Mathlib.Numerals.{add-one}
use native.Mathlib.Decide.{dec_lt}
use borrow.Author.Tests.{ne_eqb, le-leb, lt-leb, ltb-true}
use lib.Dec.{eqb, leb, ltb}
use lib.ListN.{length, get_or, drop, drop_of_length-le}
use lib.Seq.{drop-cons}
use lib.IntN.{pos, ◌+ℤ◌}
use mir.Syntax.{w32}
use mir.Val.{SFits}
use Rattle.tables.specs.Answers.{taken_in}
use Rattle.tables.specs.Entries.{Entry, threshold, offset, entry, equal, neighbours, follows, valid, telling, in_force}
use Rattle.tables.specs.Entries.{lookup, last_or, current_offset, last_update, step_refusal, first_refusal, checking}
use Rattle.tables.specs.declared.Lookup.{Lookup}
use Rattle.tables.proofs.Neighbours.{both, step_follows}
use Rattle.lent.specs.declared.inner.Pass.{Pass}
use Rattle.lent.specs.Pass.{Seen, seen_in, begun, after, passed, judged, check_at, update_at, or_first, before_threshold, nearer}

-- what the contract of the pass says, at a reading and a list
abbrev pub Said : ℕ → List Entry → Pass → Type 0
Said t ys p = (seen_in p ≡ passed (begun t) ys) × (eqb (taken_in p.answer) 0 ≡ valid ys)

abbrev pub no_entry : Entry
no_entry = entry 0 (pos 0)

-- ---- one entry on
positive : (k : ℕ) → eqb (suc k) 0 ≡ false
positive k = ne_eqb (suc k) 0 (λ e. absurd (omega arith))

pub counts-on : (s : Seen) (e : Entry) → (after s e).count ≡ s.count + 1
counts-on s e = refl

module _ (ys : List Entry) (s : Seen) (i : ℕ) where
  pub one_on : i < length ys → passed s (drop i ys) ≡ passed (after s (get_or ys i no_entry)) (drop (i + 1) ys)
  unfolding passed
  one_on l =
      ap (passed s) (drop-cons ys i no_entry l)
      ∙ ap (λ (k : ℕ). passed (after s (get_or ys i no_entry)) (drop k ys)) (sym (add-one i))

  pub at-end : length ys ≤ i → passed s (drop i ys) ≡ s
  unfolding passed
  at-end l = ap (passed s) (drop_of_length-le ys l)

-- ---- as a whole
abbrev seen : ℕ → ℕ → Entry → Lookup → ℕ → Seen
seen t n p f r = record { tai = t; count = n; last = p; found = f; refusal = r }

unrefused : (r : ℕ) → cond (eqb r 0) 0 r ≡ r
unrefused zero = refl
unrefused (suc r) = rw (positive r)

-- a refusal stays; where there is none, the next entry is judged first
judged-first : (r : ℕ) (p e : Entry) (es : List Entry)
    → cond (eqb (judged r p e) 0) (first_refusal (e ∷ es)) (judged r p e) ≡ cond (eqb r 0) (first_refusal (p ∷ e ∷ es)) r
unfolding first_refusal
judged-first zero p e es = refl
judged-first (suc r) p e es = rw (positive r, positive r)

-- what the rest of a pass tells, after an entry at place k
unfoldable found_on : ℕ → ℕ → Lookup → List Entry → Lookup
found_on t k found [] = found
found_on t k found (e ∷ es) = found_on t (suc k) (nearer t (suc k) found e) es

from_second_on : (t k : ℕ) (p : Entry) (f : Lookup) (r : ℕ) (es : List Entry)
    → passed (seen t (suc k) p f r) es
    ≡ seen t (suc k + length es) (last_or p es) (found_on t k f es) (cond (eqb r 0) (first_refusal (p ∷ es)) r)
unfolding passed last_or found_on first_refusal
from_second_on t k p f r [] = let n : suc k + 0 ≡ suc k = omega arith in rw (unrefused r, n)
from_second_on t k p f r (e ∷ es) =
    let n : suc k + 1 ≡ suc (suc k) = omega arith in
    let m : suc (suc k) + length es ≡ suc k + suc (length es) = omega arith in
    rw (positive k, n, ← m, ← judged-first r p e es)
    (rw (positive k) at (from_second_on t (suc k) e (nearer t (suc k) f e) (judged r p e) es))

module _ (t : ℕ) where
  whole : (e : Entry) (es : List Entry)
      → passed (begun t) (e ∷ es)
      ≡ seen t (length (e ∷ es)) (last_or e es) (found_on t 0 (telling 0 e []) es) (first_refusal (e ∷ es))
  unfolding passed
  whole e es = let n : 1 + length es ≡ length (e ∷ es) = omega arith in rw (← n) (from_second_on t 0 e (telling 0 e []) 0 es)

  pub counted : (es : List Entry) → (passed (begun t) es).count ≡ length es
  unfolding passed
  counted [] = refl
  counted (e ∷ es) = ap (λ (s : Seen). s.count) (whole e es)

  pub first_found : (es : List Entry) → (passed (begun t) es).refusal ≡ first_refusal es
  unfolding passed first_refusal
  first_found [] = refl
  first_found (e ∷ es) = ap (λ (s : Seen). s.refusal) (whole e es)

  pub checks : (es : List Entry) → check_at (passed (begun t) es).count (passed (begun t) es).refusal ≡ checking es
  unfolding passed checking
  checks [] = refl
  checks (e ∷ es) = rw (counted (e ∷ es), positive (length es)) (first_found (e ∷ es))

  pub last-offset : (es : List Entry) → offset (passed (begun t) es).last ≡ current_offset es
  unfolding passed current_offset
  last-offset [] = refl
  last-offset (e ∷ es) = ap (λ (s : Seen). offset s.last) (whole e es)

  pub last-event : (es : List Entry) → update_at (passed (begun t) es).count (passed (begun t) es).last ≡ last_update es
  unfolding passed last_update last_or
  last-event [] = refl
  last-event (e ∷ []) = refl
  last-event (e ∷ f ∷ fs) =
      let more : 1 < length (e ∷ f ∷ fs) = omega arith in
      rw (whole e (f ∷ fs), lt-leb (length (e ∷ f ∷ fs)) 1 more)

  -- at a reading below an entry of a valid list, no later one changes what is told
  none-nearer : (k x : ℕ) (p : Entry) (f : Lookup) (es : List Entry) → valid (p ∷ es) ≡ true → t < threshold p
      → f.next ≡ Some x → found_on t k f es ≡ f
  unfolding neighbours found_on
  none-nearer k x p f [] v l n = refl
  none-nearer k x p f (e ∷ es) v l n =
      let h = both (follows p e) (valid (e ∷ es)) v in
      let rises = (both (ltb (threshold p) (threshold e)) (equal (offset e) (offset p +ℤ pos 1)) h.0).0 in
      let up = ltb-true (threshold p) (threshold e) rises in
      let a : t < threshold e = omega arith in
      let same : before_threshold f (threshold e) ≡ f = ap (λ (y : Option ℕ). record { offset = f.offset; place = f.place; next = or_first y (threshold e) }) n ∙ ap (λ (y : Option ℕ). record { offset = f.offset; place = f.place; next = y }) (sym n) in
      rw (positive k, lt-leb (threshold e) t a, same) (none-nearer (suc k) x e f es h.1 a n)

  -- after an entry that is told, with nothing after it yet
  from_told : (k : ℕ) (p : Entry) (es : List Entry) → valid (p ∷ es) ≡ true → found_on t k (telling k p []) es ≡ in_force t k p es
  unfolding neighbours found_on in_force
  from_told k p [] v = refl
  from_told k p (e ∷ es) v = by_order (dec_lt t (threshold e)) (from_told (k + 1) e es (both (follows p e) (valid (e ∷ es)) v).1)
    where
      by_order : Dec (t < threshold e) → found_on t (k + 1) (telling (k + 1) e []) es ≡ in_force t (k + 1) e es
          → found_on t (suc k) (nearer t (suc k) (telling k p []) e) es
          ≡ cond (leb (threshold e) t) (in_force t (k + 1) e es) (telling k p (e ∷ es))
      by_order (yes l) r =
          rw (positive k, lt-leb (threshold e) t l)
          (none-nearer (suc k) (threshold e) e (telling k p (e ∷ [])) es (both (follows p e) (valid (e ∷ es)) v).1 l refl)
      by_order (no l) r =
          let n : suc k ≡ k + 1 = omega arith in
          rw (positive k, le-leb (threshold e) t (omega (arith, l)), n) r

  pub in_force_lem : (es : List Entry) → valid es ≡ true → (passed (begun t) es).found ≡ lookup es t
  unfolding passed lookup
  in_force_lem [] v = refl
  in_force_lem (e ∷ es) v = ap (λ (s : Seen). s.found) (whole e es) ∙ from_told 0 e es v

-- ---- among 32-bit offsets no entry is refused exactly if the list is valid
both_none : (k m : ℕ) (b c : Bool) → eqb k 0 ≡ b → eqb m 0 ≡ c → eqb (cond (eqb k 0) m k) 0 ≡ (b && c)
both_none zero m b c h h' = rw (← h, ← h')
both_none (suc k) m b c h h' = rw (← h, positive k, positive k)

pub none_refused : (es : List Entry) → ((k : ℕ) → k < length es → SFits w32 (offset (get_or es k no_entry)))
    → eqb (first_refusal es) 0 ≡ valid es
unfolding first_refusal neighbours
none_refused [] fits = refl
none_refused (p ∷ []) fits = refl
none_refused (p ∷ e ∷ es) fits =
    both_none (step_refusal p e) (first_refusal (e ∷ es)) (follows p e) (valid (e ∷ es))
    (step_follows p e (fits 1 (omega arith)))
    (none_refused (e ∷ es) (λ k l. fits (suc k) (omega arith)))
