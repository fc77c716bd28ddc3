-- A pass over the slots of a valid table that begins (0, 19): those before slot i are a day or more apart and begin a
-- day, so that the slots that are left pass both tests exactly if all do.
use mathlib.Core.Path.{◌≡◌, refl, sym, ap, ◌∙◌}
use mathlib.Core.Bool.{Bool, true, false, ◌&&◌, false≢true}
use mathlib.Core.List.{List, [], ◌∷◌}
use Prim.Native.Nat.{ℕ, ◌+◌, ◌*◌, ◌-◌, ◌%◌, ◌≤◌, ◌<◌}
use native.Mathlib.Omega.{arith}
use borrow.Author.Tests.{leb-true, eq-eqb, ne_eqb}
use lib.Dec.{leb, ltb, eqb}
use lib.ListN.{length, get_or, drop}
use lib.IntN.{ℤ, pos, ◌+ℤ◌}
use Rattle.counts.specs.Units.{second}
use Rattle.tables.specs.Entries.{Entry, threshold, offset, equal, day, neighbours, follows, a_day_on, begins_a_day}
use Rattle.tables.specs.Entries.{valid, regular, on_days}
use Rattle.tables.specs.Slots.{slot_at, slots}
use Rattle.tables.proofs.Integers.{equal_true}
use Rattle.tables.proofs.Neighbours.{both}
use Rattle.tables.proofs.OnDays.{begins_when}
use Rattle.tables.proofs.RegularSlots as first
use Rattle.tables.proofs.Scanned.{invalid_at, passes_on, fails_here, all-passed}

-- ---- both tests of an entry at once
abbrev pub apart_and_on : Entry → Entry → Bool
apart_and_on p e = a_day_on p e && begins_a_day e

abbrev on : Entry → Entry → Bool
on p e = begins_a_day e

in_turn : (a b c d : Bool) → ((a && b) && (c && d)) ≡ ((a && c) && (b && d))
in_turn true true c d = refl
in_turn true false true d = refl
in_turn true false false d = refl
in_turn false b c d = refl

two_tests : (es : List Entry) → neighbours apart_and_on es ≡ (neighbours a_day_on es && neighbours on es)
unfolding neighbours
two_tests [] = refl
two_tests (e ∷ []) = refl
two_tests (p ∷ e ∷ es) =
    ap (λ (b : Bool). a_day_on p e && begins_a_day e && b) (two_tests (e ∷ es))
    ∙ in_turn (a_day_on p e) (begins_a_day e) (neighbours a_day_on (e ∷ es)) (neighbours on (e ∷ es))

module _ (xs : List ℕ) (zs : List ℤ) (n : ℕ) where
  -- the first n slots are those of a valid table
  pub record Known : Type 0 where
    pub few : n ≤ 64
    pub in_thresholds : n ≤ length xs
    pub in_offsets : n ≤ length zs
    pub is_valid : valid (slots xs zs n) ≡ true

  pub record Pass (i before : ℕ) : Type 0 where
    pub known : Known
    pub all : on_days (slots xs zs n) ≡ neighbours apart_and_on (slots xs zs n)
    pub some : 1 ≤ i
    pub last : before ≡ get_or xs (i - 1) 0
    pub days_on : (i - 1) * day ≤ before
    pub offset_is : get_or zs (i - 1) (pos 0) ≡ pos (18 + i)
    pub left : neighbours apart_and_on (drop (i - 1) (slots xs zs n)) ≡ neighbours apart_and_on (slots xs zs n)

-- ---- the first slot
pub no_slot : (xs : List ℕ) (zs : List ℤ) {n : ℕ} → n ≡ 0 → false ≡ on_days (slots xs zs n)
no_slot xs zs e = rw (e, first.no_slot xs zs)

module _ {xs : List ℕ} {zs : List ℤ} {n : ℕ} (k : Known xs zs n) (l : 0 < n) {x : ℕ} (is : x ≡ get_or xs 0 0) where
  not_regular : false ≡ regular (slots xs zs n) → false ≡ on_days (slots xs zs n)
  not_regular e = ap (λ (b : Bool). b && neighbours on (slots xs zs n)) e

  pub not_at_0 : (x ≡ 0 → ⊥) → false ≡ on_days (slots xs zs n)
  not_at_0 q =
      not_regular
      (first.not_at_0 xs zs n l k.few k.in_thresholds k.in_offsets k.is_valid _ refl (λ e. q (is ∙ e)))

  module _ (z : x ≡ 0) {y : ℤ} (given : y ≡ get_or zs 0 (pos 0)) where
    pub not_19 : (y ≡ pos 19 → ⊥) → false ≡ on_days (slots xs zs n)
    not_19 q =
        not_regular
        (first.not_19 xs zs n l k.few k.in_thresholds k.in_offsets k.is_valid _ refl (sym is ∙ z)
        (λ e. q (given ∙ e)))

    pub begins : y ≡ pos 19 → Pass xs zs n 1 x
    begins o =
        let r = first.by_days xs zs n l k.few k.in_thresholds k.in_offsets k.is_valid _ refl (sym is ∙ z)
        (sym given ∙ o) refl in
        record {
          known = k;
          all = ap (λ (b : Bool). b && neighbours on (slots xs zs n)) (sym r) ∙ sym (two_tests (slots xs zs n));
          some = omega arith;
          last = is;
          days_on = omega arith;
          offset_is = sym given ∙ o;
          left = refl;
        }

-- ---- the slot at i
module _ {xs : List ℕ} {zs : List ℤ} {n i before : ℕ} (p : Pass xs zs n i before) where
  -- all slots are passed
  pub passed : n ≤ i → true ≡ on_days (slots xs zs n)
  passed l =
      all-passed xs zs apart_and_on i n l p.known.in_thresholds p.known.in_offsets p.left ∙ sym p.all

  module _ (l : i < n) {x : ℕ} (is : x ≡ get_or xs i 0) where
    abbrev prev : Entry
    prev = slot_at xs zs (i - 1)

    abbrev here : Entry
    here = slot_at xs zs i

    next-offset : get_or zs i (pos 0) ≡ pos (19 + i)
    next-offset =
        let follows_on = go (follows prev here)
        (invalid_at xs zs i n p.some l p.known.in_thresholds p.known.in_offsets) in
        let above = ltb (threshold prev) (threshold here) in
        let more = (both above (equal (offset here) (offset prev +ℤ pos 1)) follows_on).1 in
        equal_true (offset here) (offset prev +ℤ pos 1) more ∙ ap (λ (z : ℤ). z +ℤ pos 1) p.offset_is ∙ ap pos (omega arith)
      where
        go : (f : Bool) → (f ≡ false → valid (slots xs zs n) ≡ false) → f ≡ true
        go true q = refl
        go false q = absurd (false≢true (sym (q refl) ∙ p.known.is_valid))

    fails : false ≡ apart_and_on prev here → false ≡ on_days (slots xs zs n)
    fails judged =
        fails_here xs zs i n p.some l p.known.in_thresholds p.known.in_offsets apart_and_on judged p.left refl
        ∙ sym p.all

    -- the test of the two thresholds is that of the slots
    apart : {b : Bool} → b ≡ leb (before + day) x → b ≡ a_day_on prev here
    apart e = e ∙ (λ j. leb (p.last j + day) (is j))

    pub not_apart : {b : Bool} → b ≡ leb (before + day) x → b ≡ false → false ≡ on_days (slots xs zs n)
    not_apart e f = fails (ap (λ (b : Bool). b && begins_a_day here) (sym f ∙ apart e))

    module _ {b : Bool} (e : b ≡ leb (before + day) x) (t : b ≡ true) where
      a_day_on_lem : before + day ≤ x
      a_day_on_lem = leb-true (before + day) x (sym e ∙ t)

      -- the offset in seconds is at most the threshold
      pub led : (19 + i) * second ≤ x
      led = omega (arith, a_day_on_lem, p.days_on, p.some, p.known.few)

      begins_a_day_lem : begins_a_day here ≡ eqb ((x - (19 + i) * second) % day) 0
      begins_a_day_lem = rw is (begins_when here (19 + i) next-offset (omega (arith, led, is)))

      judged : {c : Bool} → eqb ((x - (19 + i) * second) % day) 0 ≡ c → c ≡ apart_and_on prev here
      judged q = sym (rw (sym (apart e) ∙ t) (begins_a_day_lem ∙ q))

      pub not_on_a_day : ((x - (19 + i) * second) % day ≡ 0 → ⊥) → false ≡ on_days (slots xs zs n)
      not_on_a_day q = fails (judged (ne_eqb _ 0 q))

      -- a slot that passes both tests
      pub further : (x - (19 + i) * second) % day ≡ 0 → Pass xs zs n (i + 1) x
      further q =
          let at : i + 1 - 1 ≡ i = omega arith in
          record {
            known = p.known;
            all = p.all;
            some = omega arith;
            last = rw at is;
            days_on = omega (arith, a_day_on_lem, p.days_on, p.some);
            offset_is = rw at (next-offset ∙ ap pos (omega arith));
            left =
                passes_on xs zs i n p.some l p.known.in_thresholds p.known.in_offsets apart_and_on
                (judged (eq-eqb _ 0 q)) p.left refl;
          }
