-- The tests of lists hold exactly where the facts that they test do: each test of neighbours is a fact at each place.
use mathlib.Core.Path.{◌≡◌, refl, sym, ap, ◌∙◌}
use mathlib.Core.Logic.{◌↔◌}
use mathlib.Core.Bool.{Bool, true, false, ◌&&◌}
use mathlib.Core.List.{List, [], ◌∷◌}
use mathlib.Core.Option.{some, none}
use Prim.Native.Nat.{ℕ, suc, ◌+◌, ◌%◌, ◌≤◌, ◌<◌}
use native.Mathlib.Omega.{arith}
use native.Mathlib.Decide.{dec_lt}
use borrow.Author.Tests.{leb-true, eqb-true, eq-eqb, ltb-true, le-leb, lt-ltb}
use lib.Dec.{leb, ltb, eqb}
use lib.ListN.{length, get_or, get_elem?}
use lib.IntN.{pos, nat_abs, ◌+ℤ◌, ◌-ℤ◌, ◌*ℤ◌}
use Rattle.tables.specs.Entries.{Entry, threshold, offset, entry, equal, neighbours, follows, a_day_on, valid}
use Rattle.tables.specs.Entries.{begins, regular, begins_a_day, on_days}
use Rattle.tables.proofs.Integers.{equal_true, equal_yes}
use Rattle.tables.proofs.FirstSlots.{some_at, none-at}
use Rattle.tables.proofs.Neighbours.{both, at_each}

-- at each place except the last, the entry and the next one
abbrev pub AtEach : (Entry → Entry → Type 0) → List Entry → Type 0
AtEach Fact es = (k : ℕ) (p e : Entry) → get_elem? es k ≡ some p → get_elem? es (suc k) ≡ some e → Fact p e

-- thresholds rise strictly, and offsets by exactly 1
pub record Valid (es : List Entry) : Type 0 where
  pub rises : AtEach (λ p e. threshold p < threshold e) es
  pub by_one : AtEach (λ p e. offset e ≡ offset p +ℤ pos 1) es

-- valid, at most 64 entries, begins (0, 19), and each later threshold is at least 86,400 s above the one before
pub record Regular (es : List Entry) : Type 0 where
  pub valid : Valid es
  pub few : length es ≤ 64
  pub begins : get_elem? es 0 ≡ some (entry 0 (pos 19))
  pub a_day_on_lem : AtEach (λ p e. threshold p + 86_400_000_000_000 ≤ threshold e) es

abbrev pub ValidTested : Type 0
ValidTested = (es : List Entry) → (valid es ≡ true) ↔ Valid es

abbrev pub RegularTested : Type 0
RegularTested = (es : List Entry) → (regular es ≡ true) ↔ Regular es

-- regular, and each later threshold less its offset in seconds is a whole number of days of 86,400 s
abbrev pub OnDaysTested : Type 0
OnDaysTested =
    (es : List Entry) → (on_days es ≡ true)
    ↔ (Regular es
    × AtEach (λ p e. nat_abs (pos (threshold e) -ℤ offset e *ℤ pos 1_000_000_000) % 86_400_000_000_000 ≡ 0) es)

-- the entry at a place, where there is one
module _ (es : List Entry) (k : ℕ) (e d : Entry) (h : get_elem? es k ≡ some e) where
  pub in_range : k < length es
  in_range = go (dec_lt k (length es))
    where
      go : Dec (k < length es) → k < length es
      go (yes l) = l
      go (no n) = let z : none ≡ some e = sym (none-at es k (omega (arith, n))) ∙ h in let c : ◌≡◌ {A = ℕ} 0 1 = cc in omega arith

  pub at_place : get_or es k d ≡ e
  at_place = let s : some (get_or es k d) ≡ some e = sym (some_at es k d in_range) ∙ h in cc

module _ (test : Entry → Entry → Bool) where
  passes : (es : List Entry) → neighbours test es ≡ true → AtEach (λ p e. test p e ≡ true) es
  passes es v k p e h h' =
      let d = entry 0 (pos 0) in
      rw (at_place es k p d h, at_place es (suc k) e d h') at (at_each test es d v k (in_range es (suc k) e d h'))

  every : (es : List Entry) → AtEach (λ p e. test p e ≡ true) es → neighbours test es ≡ true
  unfolding neighbours
  every [] a = refl
  every (p ∷ []) a = refl
  every (p ∷ e ∷ es) a = rw (a 0 p e refl refl) (every (e ∷ es) (λ k q f h h'. a (suc k) q f h h'))

pub valid_tested : ValidTested
valid_tested es = (is, if)
  where
    is : valid es ≡ true → Valid es
    is v =
        let tests : AtEach (λ p e. (ltb (threshold p) (threshold e) ≡ true) ×
        (equal (offset e) (offset p +ℤ pos 1) ≡ true)) es =
        λ k p e h h'. both _ _ (passes follows es v k p e h h') in
        record {
          rises = λ k p e h h'. ltb-true _ _ (tests k p e h h').0;
          by_one = λ k p e h h'. equal_true _ _ (tests k p e h h').1;
        }

    if : Valid es → valid es ≡ true
    if v = every follows es (λ k p e h h'. rw (lt-ltb _ _ (v.rises k p e h h'), equal_yes _ _ (v.by_one k p e h h')))

begins_is : (es : List Entry) → begins es ≡ true → get_elem? es 0 ≡ some (entry 0 (pos 19))
begins_is [] b = cc
begins_is (e ∷ es) b =
    let h = both (eqb (threshold e) 0) (equal (offset e) (pos 19)) b in
    let t = eqb-true (threshold e) 0 h.0 in
    let n = equal_true (offset e) (pos 19) h.1 in
    ap some (ap (λ (x : ℕ). entry x (offset e)) t ∙ ap (entry 0) n)

begins_if : (es : List Entry) → get_elem? es 0 ≡ some (entry 0 (pos 19)) → begins es ≡ true
begins_if [] h = let c : ◌≡◌ {A = ℕ} 0 1 = cc in absurd (omega arith)
begins_if (e ∷ es) h = let first : e ≡ entry 0 (pos 19) = cc in rw first

pub regular_tested : RegularTested
regular_tested es = (is, if)
  where
    is : regular es ≡ true → Regular es
    is r =
        let a = both (leb (length es) 64 && valid es && begins es) (neighbours a_day_on es) r in
        let b = both (leb (length es) 64 && valid es) (begins es) a.0 in
        let c = both (leb (length es) 64) (valid es) b.0 in
        record {
          valid = (valid_tested es).0 c.1;
          few = leb-true (length es) 64 c.0;
          begins = begins_is es b.1;
          a_day_on_lem = λ k p e h h'. leb-true _ _ (passes a_day_on es a.1 k p e h h');
        }

    if : Regular es → regular es ≡ true
    if r =
        let days : neighbours a_day_on es ≡ true = every a_day_on es (λ k p e h h'. le-leb _ _ (r.a_day_on_lem k p e h h')) in
        rw (le-leb (length es) 64 r.few, (valid_tested es).1 r.valid, begins_if es r.begins, days)

pub on_days_tested : OnDaysTested
on_days_tested es = (
  λ h.
      let (is_regular, days) = both (regular es) (neighbours (λ p e. begins_a_day e) es) h in
      ((regular_tested es).0 is_regular, λ k p e h h'. eqb-true _ 0 (passes (λ p e. begins_a_day e) es days k p e h h')),
  λ (r, days).
      let all = every (λ p e. begins_a_day e) es (λ k p e h h'. eq-eqb _ 0 (days k p e h h')) in
      rw ((regular_tested es).1 r, all),
)

-- three thresholds, the second a day after the first, and the third at t
abbrev three : ℕ → List Entry
three t = entry 0 (pos 19) ∷ entry 86_400_000_000_000 (pos 20) ∷ entry t (pos 21) ∷ []

pub a_day_apart : regular (three 172_800_000_000_000) ≡ true
unfolding neighbours
a_day_apart = refl

pub a_nanosecond_less : regular (three 172_799_999_999_999) ≡ false
unfolding neighbours
a_nanosecond_less = refl
