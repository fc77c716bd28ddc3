-- What the last entry says of the next one, and of the table.
use mathlib.Core.Path.{◌≡◌, refl, sym, ap, subst, ◌∙◌}
use mathlib.Core.Bool.{true}
use mathlib.Core.List.{List, [], ◌∷◌, ◌++◌}
use mathlib.Core.Option.{Option, none, some}
use Prim.Native.Nat.{ℕ, suc, ◌-◌, ◌≤◌, ◌<◌, min}
use native.Mathlib.Omega.{arith}
use borrow.Author.Tests.{le-leb, lt-leb}
use lib.ListN.{length, get_or, get_elem?}
use lib.IntN.{ℤ, pos}
use Rattle.tables.specs.Entries.{Entry, threshold, offset, entry, neighbours, follows, valid, last_or}
use Rattle.tables.specs.Entries.{current_offset, last_update, step_refusal, join_refusal}
use Rattle.tables.specs.Slots.{paired, slot_at, slots}
use Rattle.std.specs.Prelude.{Some, None, Ok, MatchOption}
use Rattle.std.specs.Prelude as maybe
use Rattle.refusals.specs.Outcome.{Outcome, answered}
use Rattle.tables.specs.Answers.{entry_in, update_in}
use Rattle.scales.specs.declared.tai.Tai.{Tai}
use Rattle.tables.specs.declared.LeapEntry.{LeapEntry}
use Rattle.tables.proofs.FirstSlots.{paired_length, slots_length, slot_is, one_more, some_at, there, whole}
use Rattle.tables.proofs.Neighbours.{both}

last_is : (e d : Entry) (es : List Entry) → last_or e es ≡ get_or (e ∷ es) (length es) d
unfolding last_or
last_is e d [] = refl
last_is e d (f ∷ fs) = last_is f d fs

pub empty_takes : (e : Entry) → join_refusal [] e ≡ 0
unfolding join_refusal
empty_takes e = refl

pub nothing_yet : (es : List Entry) (e : Entry) → length es ≡ 0 → join_refusal es e ≡ 0
nothing_yet [] e h = empty_takes e
nothing_yet (p ∷ ps) e h = absurd (omega (arith, h))

pub none_current : current_offset [] ≡ pos 19
unfolding current_offset
none_current = refl

pub no_update : (es : List Entry) → length es ≤ 1 → last_update es ≡ none
unfolding last_update
no_update [] h = refl
no_update (e ∷ []) h = refl
no_update (e ∷ f ∷ fs) h = absurd (omega arith)

last_told : (p : Entry) (ps : List Entry) → get_elem? (p ∷ ps) (length (p ∷ ps) - 1) ≡ some (last_or p ps)
last_told p ps =
    let d = entry 0 (pos 0) in
    let n : length (p ∷ ps) - 1 ≡ length ps = omega arith in
    rw n (some_at (p ∷ ps) (length ps) d (omega arith) ∙ ap some (sym (last_is p d ps)))

-- what the last entry of a list tells, where it has one
module _ (last : Entry) where
  abbrev pub IsLast : List Entry → Type 0
  IsLast es = ◌≡◌ {A = Outcome (Option Entry)} (answered (some last)) (answered (get_elem? es (length es - 1)))

  last_is_it : (p : Entry) (ps : List Entry) → IsLast (p ∷ ps) → last_or p ps ≡ last
  last_is_it p ps h = let s : some (last_or p ps) ≡ some last = cc (last_told p ps, h) in cc

  pub full : (es : List Entry) (e : Entry) → IsLast es → 64 ≤ length es → join_refusal es e ≡ 5
  unfolding join_refusal
  full [] e h l = absurd (omega arith)
  full (p ∷ ps) e h l = rw (le-leb 64 (length (p ∷ ps)) l)

  pub by_last : (es : List Entry) (e : Entry) → IsLast es → length es < 64 → join_refusal es e ≡ step_refusal last e
  unfolding join_refusal
  by_last [] e h l = cc
  by_last (p ∷ ps) e h l = rw (lt-leb 64 (length (p ∷ ps)) l, last_is_it p ps h)

  pub current_is : (es : List Entry) → IsLast es → current_offset es ≡ offset last
  unfolding current_offset
  current_is [] h = cc
  current_is (p ∷ ps) h = rw (last_is_it p ps h)

  pub update_is : (es : List Entry) → IsLast es → 1 < length es → last_update es ≡ some (threshold last)
  unfolding last_update last_or
  update_is [] h l = absurd (omega arith)
  update_is (p ∷ []) h l = absurd (omega arith)
  update_is (p ∷ q ∷ qs) h l = rw (last_is_it p (q ∷ qs) h)

-- the last of thresholds and offsets side by side
pub last_of_two : (xs : List ℕ) (zs : List ℤ) (n : ℕ) → n ≡ min (length xs) (length zs) → 0 < n
    → IsLast (slot_at xs zs (n - 1)) (paired xs zs)
last_of_two xs zs n h l =
    let all : slots xs zs n ≡ paired xs zs = rw h (whole xs zs) in
    let size : length (paired xs zs) ≡ n = paired_length xs zs ∙ sym h in
    let here = rw all at (there xs zs n (omega (arith, h)) (omega (arith, h)) (n - 1) (omega (arith, l))) in
    rw size (ap answered (sym here))

abbrev pub HasNone : List Entry → Type 0
HasNone es = ◌≡◌ {A = Outcome (Option Entry)} (answered none) (answered (get_elem? es (length es - 1)))

pub without_last : (es : List Entry) → HasNone es → es ≡ []
without_last [] h = refl
without_last (p ∷ ps) h = cc (last_told p ps)

abbrev pub tai : ℕ → Tai
tai n = record { 0 = n }

-- the same, by a last entry that there may be
module _ (o : maybe.Option LeapEntry) (es : List Entry)
    (is : entry_in (Ok o) ≡ answered (get_elem? es (length es - 1))) where
  pub current_told : (r : ℤ) → MatchOption o (r ≡ pos 19) (λ e. r ≡ offset e) → r ≡ current_offset es
  current_told r m = go o is m
    where
      go : (o : maybe.Option LeapEntry) → entry_in (Ok o) ≡ answered (get_elem? es (length es - 1))
          → MatchOption o (r ≡ pos 19) (λ e. r ≡ offset e) → r ≡ current_offset es
      go (Some last) is m = m ∙ sym (current_is last es is)
      go None is m = m ∙ sym (ap current_offset (without_last es is) ∙ none_current)

  pub update_told : 1 < length es → (r : maybe.Option Tai) → MatchOption o (r ≡ None) (λ e. r ≡ Some (tai (threshold e)))
      → update_in (Ok r) ≡ answered (last_update es)
  update_told l r m = go o is m
    where
      go : (o : maybe.Option LeapEntry) → entry_in (Ok o) ≡ answered (get_elem? es (length es - 1))
          → MatchOption o (r ≡ None) (λ e. r ≡ Some (tai (threshold e))) → update_in (Ok r) ≡ answered (last_update es)
      go (Some last) is m =
          ap (λ (x : maybe.Option Tai). update_in (Ok x)) m ∙ ap answered (sym (update_is last es is l))
      go None is m = absurd (omega (arith, l, ap length (without_last es is)))

-- an entry that follows the last one leaves a list valid
pub valid-joined : (p : Entry) (ps : List Entry) (e : Entry) → valid (p ∷ ps) ≡ true → follows (last_or p ps) e ≡ true
    → valid (p ∷ ps ++ e ∷ []) ≡ true
unfolding neighbours last_or
valid-joined p [] e v f = rw f
valid-joined p (q ∷ qs) e v f =
    let b = both (follows p q) (valid (q ∷ qs)) v in
    rw b.0 (valid-joined q qs e b.1 f)

-- the first n slots
module _ (xs : List ℕ) (zs : List ℤ) (n : ℕ) (h : n ≤ length xs) (h' : n ≤ length zs) where
  abbrev d : Entry
  d = entry 0 (pos 0)

  -- what holds of each list and its last entry
  of-last : (P : List Entry → Entry → Type 0) → 0 < n
      → ((p : Entry) (ps : List Entry) → length (p ∷ ps) ≡ n → P (p ∷ ps) (last_or p ps))
      → P (slots xs zs n) (slot_at xs zs (n - 1))
  of-last P l holds =
      go (slots xs zs n) (slots_length xs zs n h h') (slot_is xs zs n (n - 1) d (omega arith) h h')
    where
      go : (es : List Entry) → length es ≡ n → get_or es (n - 1) d ≡ slot_at xs zs (n - 1)
          → P es (slot_at xs zs (n - 1))
      go [] s q = absurd (omega arith)
      go (p ∷ ps) s q =
          let k : length ps ≡ n - 1 = omega arith in
          subst (P (p ∷ ps)) (last_is p d ps ∙ ap (λ (i : ℕ). get_or (p ∷ ps) i d) k ∙ q) (holds p ps s)

  pub one_more_valid : 0 < n → n < length xs → n < length zs → valid (slots xs zs n) ≡ true
      → follows (slot_at xs zs (n - 1)) (slot_at xs zs n) ≡ true → valid (slots xs zs (suc n)) ≡ true
  one_more_valid p l l' =
      let e = slot_at xs zs n in
      rw (one_more xs zs n l l')
      (of-last (λ es q. valid es ≡ true → follows q e ≡ true → valid (es ++ e ∷ []) ≡ true) p
      (λ q qs s. valid-joined q qs e))

  pub full_slots : (e : Entry) → 64 ≤ n → join_refusal (slots xs zs n) e ≡ 5
  unfolding join_refusal
  full_slots e l =
      of-last (λ es p. join_refusal es e ≡ 5) (omega arith) (λ p ps s. rw (le-leb 64 (length (p ∷ ps)) (omega arith)))

  pub current_slot : 0 < n → current_offset (slots xs zs n) ≡ get_or zs (n - 1) (pos 0)
  unfolding current_offset
  current_slot p = of-last (λ es q. current_offset es ≡ offset q) p (λ q qs s. refl)

  pub update_slot : 1 < n → last_update (slots xs zs n) ≡ some (get_or xs (n - 1) 0)
  unfolding last_update last_or
  update_slot l = of-last (λ es p. last_update es ≡ some (threshold p)) (omega arith) go
    where
      go : (p : Entry) (ps : List Entry) → length (p ∷ ps) ≡ n → last_update (p ∷ ps) ≡ some (threshold (last_or p ps))
      go p [] s = absurd (omega arith)
      go p (q ∷ qs) s = refl

  pub no_update_slot : n ≤ 1 → last_update (slots xs zs n) ≡ none
  no_update_slot l = no_update (slots xs zs n) (omega (arith, slots_length xs zs n h h'))
