-- The offset in force over a regular list is 19 and the number of later thresholds passed; the laws of that number, by
-- induction on the list.
use Rattle.std.specs.Prelude.{None, Some}
use mathlib.Core.Path.{◌≡◌, refl, ap, ◌∙◌}
use mathlib.Core.Bool.{true, cond, ◌&&◌}
use mathlib.Core.List.{List, [], ◌∷◌, Memᴰ}
use Prim.Native.Nat.{ℕ, suc, ◌+◌, ◌-◌, ◌≤◌, ◌<◌}
use native.Mathlib.Omega.{arith}
use native.Mathlib.Decide.{dec_le, dec_lt}
use borrow.Author.Tests.{le-leb, lt-leb, leb-true, eqb-true}
use lib.Dec.{leb, ltb, eqb}
use lib.ListN.{length, drop}
use lib.IntN.{pos, ◌+ℤ◌}
use Rattle.tables.specs.Entries.{Entry, threshold, offset, equal, neighbours, follows, a_day_on, day}
use Rattle.tables.specs.Entries.{valid, begins, regular, first_threshold, telling, in_force}
use Rattle.tables.specs.declared.Lookup.{Lookup}
use Rattle.tables.proofs.Integers.{equal_true}
use Rattle.tables.proofs.Neighbours.{both}

-- the entries after p: each a day or more after the one before, its offset one more
abbrev pub Chain : Entry → List Entry → Type 0
Chain p [] = Unit {0}
Chain p (e ∷ es) = (threshold p + day ≤ threshold e) × (offset e ≡ offset p +ℤ pos 1) × Chain e es

pub chain : (p : Entry) (es : List Entry) → neighbours follows (p ∷ es) ≡ true → neighbours a_day_on (p ∷ es) ≡ true
    → Chain p es
unfolding neighbours
chain p [] f d = tt
chain p (e ∷ es) f d =
    let f2 = both (follows p e) (neighbours follows (e ∷ es)) f in
    let d2 = both (a_day_on p e) (neighbours a_day_on (e ∷ es)) d in
    let more = (both (ltb (threshold p) (threshold e)) (equal (offset e) (offset p +ℤ pos 1)) f2.0).1 in
    (leb-true (threshold p + day) (threshold e) d2.0, equal_true _ _ more, chain e es f2.1 d2.1)

-- a regular list is (0, 19) and a chain of at most 63 later entries
pub record Regular (es : List Entry) : Type 0 where
  pub first : Entry
  pub begins_with : es ≡ first ∷ drop 1 es
  pub at_0 : threshold first ≡ 0
  pub is_19 : offset first ≡ pos 19
  pub later : Chain first (drop 1 es)
  pub few : length (drop 1 es) ≤ 63

pub of-regular : (es : List Entry) → regular es ≡ true → Regular es
unfolding neighbours
of-regular [] r = let z : ◌≡◌ {A = ℕ} 0 1 = cc in absurd (omega arith)
of-regular (e ∷ es) r =
    let all = e ∷ es in
    let (three, days_apart) = both (leb (length all) 64 && valid all && begins all) (neighbours a_day_on all) r in
    let (two, first) = both (leb (length all) 64 && valid all) (begins all) three in
    let (at_most_64, is_valid) = both (leb (length all) 64) (valid all) two in
    let (at_0, is_19) = both (eqb (threshold e) 0) (equal (offset e) (pos 19)) first in
    let at_most = leb-true (length all) 64 at_most_64 in
    record {
      first = e;
      begins_with = refl;
      at_0 = eqb-true (threshold e) 0 at_0;
      is_19 = equal_true _ _ is_19;
      later = chain e es is_valid days_apart;
      few = omega arith;
    }

-- how many thresholds are at most t: `1 - (x - t)` is 1 if x ≤ t, and else 0
unfoldable pub reached : List Entry → ℕ → ℕ
reached [] t = 0
reached (e ∷ es) t = 1 - (threshold e - t) + reached es t

pub few : (es : List Entry) (t : ℕ) → reached es t ≤ length es
unfolding reached
few [] t = omega arith
few (e ∷ es) t = omega (arith, few es t)

pub rises : (es : List Entry) (t t' : ℕ) → t ≤ t' → reached es t ≤ reached es t'
unfolding reached
rises [] t t' l = omega arith
rises (e ∷ es) t t' l = omega (arith, rises es t t' l)

-- within a day of the entry before them none is passed
pub none_within_a_day : (p : Entry) (es : List Entry) (t : ℕ) → Chain p es → t < threshold p + day → reached es t ≡ 0
unfolding reached
none_within_a_day p [] t c l = refl
none_within_a_day p (e ∷ es) t c l = omega (arith, none_within_a_day e es t c.2 (omega arith))

-- within a day at most one is passed
pub one_in_a_day : (p : Entry) (es : List Entry) (t t' : ℕ) → Chain p es → t' < t + day
    → reached es t' ≤ suc (reached es t)
unfolding reached
one_in_a_day p [] t t' c l = omega arith
one_in_a_day p (e ∷ es) t t' c l = go (dec_lt t (threshold e)) (one_in_a_day e es t t' c.2 l)
  where
    go : Dec (t < threshold e) → reached es t' ≤ suc (reached es t) → reached (e ∷ es) t' ≤ suc (reached (e ∷ es) t)
    go (yes h) r = omega (arith, none_within_a_day e es t' c.2 (omega arith))
    go (no h) r = omega (arith, h)

-- an entry whose threshold is passed after t and by t'
pub record Between (es : List Entry) (t t' : ℕ) : Type 0 where
  pub entry : Entry
  pub among : Memᴰ entry es
  pub after : t < threshold entry
  pub by : threshold entry ≤ t'

pub more_by_an_entry : (es : List Entry) (t t' : ℕ) → reached es t < reached es t' → Between es t t'
unfolding reached
more_by_an_entry [] t t' m = absurd (none m)
  where
    none : 0 < 0 → ⊥
    none l = omega arith
more_by_an_entry (e ∷ es) t t' m = go (dec_lt t (threshold e)) (dec_le (threshold e) t') (more_by_an_entry es t t')
  where
    further : Between es t t' → Between (e ∷ es) t t'
    further b = record { entry = b.entry; among = Memᴰ.tail b.among; after = b.after; by = b.by }

    go : Dec (t < threshold e) → Dec (threshold e ≤ t') → (reached es t < reached es t' → Between es t t')
        → Between (e ∷ es) t t'
    go (yes h) (yes h') r = record { entry = e; among = Memᴰ.head refl; after = h; by = h' }
    go (yes h) (no h') r = further (r (omega (arith, h')))
    go (no h) d r = further (r (omega (arith, h)))

pub an_entry_more : (es : List Entry) (t t' : ℕ) → Between es t t' → reached es t < reached es t'
unfolding reached
an_entry_more es t t' b = go es b.among
  where
    go : (es : List Entry) → Memᴰ b.entry es → reached es t < reached es t'
    go [] x' = elim x' [ ]
    go (e ∷ es) (Memᴰ.head q) = omega (arith, ap threshold q, b.after, b.by, rises es t t' (omega (arith, b.after, b.by)))
    go (e ∷ es) (Memᴰ.tail m) = omega (arith, b.after, b.by, go es m)

-- what a lookup tells by numbers, before the entries es
abbrev pub told : ℕ → ℕ → List Entry → Lookup
told n k es = record { offset = pos n; place = Some k; next = first_threshold es }

-- what is in force from place k on, where p is: the entry as many places on as thresholds are passed
pub by_number : (p : Entry) (es : List Entry) (t k n : ℕ) → Chain p es → offset p ≡ pos n
    → in_force t k p es ≡ told (n + reached es t) (k + reached es t) (drop (reached es t) es)
unfolding in_force reached
by_number p [] t k n c o =
    let same : n ≡ n + 0 = omega arith in
    let here : k ≡ k + 0 = omega arith in
    λ i. record { offset = (o ∙ ap pos same) i; place = Some (here i); next = None }
by_number p (e ∷ es) t k n c o =
    go (dec_le (threshold e) t) (by_number e es t (k + 1) (suc n) c.2 (c.1 ∙ rw o (ap pos (omega arith))))
  where
    all : ℕ → Lookup
    all m = told (n + m) (k + m) (drop m (e ∷ es))

    go : Dec (threshold e ≤ t) → in_force t (k + 1) e es ≡ told (suc n + reached es t) (k + 1 + reached es t) (drop (reached es t) es)
        → cond (leb (threshold e) t) (in_force t (k + 1) e es) (telling k p (e ∷ es)) ≡ all (reached (e ∷ es) t)
    go (yes h) r =
        let one : suc (reached es t) ≡ 1 - (threshold e - t) + reached es t = omega (arith, h) in
        let same : suc n + reached es t ≡ n + suc (reached es t) = omega arith in
        let here : k + 1 + reached es t ≡ k + suc (reached es t) = omega arith in
        rw (le-leb (threshold e) t h)
        (r ∙ (λ i. told (same i) (here i) (drop (reached es t) es)) ∙ ap all one)
    go (no h) r =
        let a : t < threshold e = omega (arith, h) in
        let none = none_within_a_day e es t c.2 (omega arith) in
        let zero_on : 0 ≡ 1 - (threshold e - t) + reached es t = omega (arith, h, none) in
        let same : n ≡ n + 0 = omega arith in
        let here : k ≡ k + 0 = omega arith in
        rw (lt-leb (threshold e) t a)
        ((λ i. record { offset = (o ∙ ap pos same) i; place = Some (here i); next = Some (threshold e) }) ∙ ap all zero_on)
