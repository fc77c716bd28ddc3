-- The entries after the first of a regular list, from the laws of the thresholds passed: whether the next threshold is
-- a second on at most, and, where each begins a day, that thresholds are whole days and the offset in seconds.
use mathlib.Core.Path.{◌≡◌, refl, sym, ap, ◌∙◌}
use mathlib.Core.Bool.{true}
use mathlib.Core.List.{List, [], ◌∷◌, Memᴰ}
use Prim.Native.Nat.{ℕ, suc, ◌+◌, ◌*◌, ◌-◌, ◌/◌, ◌%◌, ◌≤◌}
use native.Mathlib.Omega.{arith}
use native.Mathlib.Decide.{dec_le}
use borrow.Author.Tests.{le-leb, lt-leb, lt-ltb, le-ltb, eqb-true}
use lib.Dec.{ltb, leb-suc-suc}
use lib.ListN.{length, drop}
use lib.IntN.{pos}
use Rattle.counts.specs.Units.{second}
use Rattle.tables.specs.Entries.{Entry, threshold, offset, neighbours, begins, regular, day}
use Rattle.tables.specs.Entries.{begins_a_day, on_days, first_threshold, lookup}
use Rattle.tables.specs.declared.Lookup.{Lookup}
use Rattle.tables.proofs.Neighbours.{both}
use Rattle.tables.proofs.Reached.{Chain, reached, of-regular, none_within_a_day}
use Rattle.tables.proofs.OnDays.{begins_when}
use Rattle.conversions.proofs.LeapSeconds.{LeapSeconds, leaps, counted}
use Rattle.readings.specs.ByLookup.{near_before}

-- ---- the next threshold
near_in : (p : Entry) (es : List Entry) (t : ℕ) → Chain p es
    → near_before (first_threshold (drop (reached es t) es)) t ≡ ltb (reached es t) (reached es (t + second))
unfolding reached
near_in p [] t c = refl
near_in p (e ∷ es) t c = go (dec_le (threshold e) t) (dec_le (threshold e) (t + second)) (near_in e es t c.2)
  where
    Told : ℕ → ℕ → Type 0
    Told m n = near_before (first_threshold (drop m (e ∷ es))) t ≡ ltb m n

    later : ℕ
    later = reached (e ∷ es) (t + second)

    go : Dec (threshold e ≤ t) → Dec (threshold e ≤ t + second)
        → near_before (first_threshold (drop (reached es t) es)) t ≡ ltb (reached es t) (reached es (t + second))
        → Told (reached (e ∷ es) t) later
    go (yes h) d r =
        let one : reached (e ∷ es) t ≡ suc (reached es t) = omega (arith, h) in
        let one_later : later ≡ suc (reached es (t + second)) = omega (arith, h) in
        rw (one, one_later) (r ∙ sym (leb-suc-suc (suc (reached es t)) (reached es (t + second))))
    go (no h) d r =
        let none : reached (e ∷ es) t ≡ 0 = omega (arith, h, none_within_a_day e es t c.2 (omega (arith, h))) in
        rw none (first d)
      where
        first : Dec (threshold e ≤ t + second) → Told 0 later
        first (yes l) = le-leb (threshold e) (t + second) l ∙ sym (lt-ltb 0 later (omega (arith, l)))
        first (no l) =
            let none-later = none_within_a_day e es (t + second) c.2 (omega (arith, l)) in
            lt-leb (threshold e) (t + second) (omega (arith, l)) ∙ sym (le-ltb 0 later (omega (arith, l, none-later)))

pub near : (es : List Entry) → regular es ≡ true → (t : ℕ)
    → near_before (lookup es t).next t ≡ ltb (leaps es t) (leaps es (t + second))
unfolding leaps
near es r t =
    let l = of-regular es r in
    ap (λ (f : Lookup). near_before f.next t) ((counted es r).tells t) ∙ near_in l.first (drop 1 es) t l.later

-- ---- thresholds on days
-- at the threshold of an entry, whole days and an offset of n and the thresholds passed there
abbrev pub OnADay : ℕ → (ℕ → ℕ) → Entry → Type 0
OnADay n k e = (j : ℕ) × (threshold e ≡ j * day + (n + k (threshold e)) * second)

-- the two tests of days
pub both_tests : (es : List Entry) → on_days es ≡ true
    → (regular es ≡ true) × (neighbours (λ p e. begins_a_day e) es ≡ true)
both_tests es = both (regular es) (neighbours (λ p e. begins_a_day e) es)

-- the leap seconds of a list on days
abbrev pub counted_on_days : (es : List Entry) → on_days es ≡ true → LeapSeconds es (leaps es)
counted_on_days es d = counted es (both_tests es d).0

-- an entry that begins a day and whose offset is n
whole_days : (e : Entry) (n : ℕ) → offset e ≡ pos n → n * second ≤ threshold e → begins_a_day e ≡ true
    → (j : ℕ) × (threshold e ≡ j * day + n * second)
whole_days e n o l b =
    let whole = eqb-true ((threshold e - n * second) % day) 0 (sym (begins_when e n o l) ∙ b) in
    ((threshold e - n * second) / day, omega arith)

-- a later entry is a day after the first
a_day_after : (p : Entry) (es : List Entry) {e : Entry} → Chain p es → Memᴰ e es → threshold p + day ≤ threshold e
a_day_after p [] {e = e} c m = elim m [ ]
a_day_after p (f ∷ es) c (Memᴰ.head q) = omega (arith, ap threshold q)
a_day_after p (f ∷ es) c (Memᴰ.tail m) = omega (arith, a_day_after f es c.2 m)

on_days_in : (p : Entry) (es : List Entry) (n : ℕ) → Chain p es → offset p ≡ pos n → n + length es ≤ 82
    → neighbours (λ p e. begins_a_day e) (p ∷ es) ≡ true → (e : Entry) → Memᴰ e es → OnADay n (reached es) e
unfolding neighbours reached
on_days_in p [] n c o few d e m = elim m [ ]
on_days_in p (f ∷ es) n c o few d e (Memᴰ.head q) =
    let (begins, others) = both (begins_a_day f) (neighbours (λ p e. begins_a_day e) (f ∷ es)) d in
    let (j, is) = whole_days f (suc n) (c.1 ∙ rw o (ap pos (omega arith))) (omega arith) begins in
    let same = ap threshold q in
    (j, omega (arith, none_within_a_day f es (threshold e) c.2 (omega arith)))
on_days_in p (f ∷ es) n c o few d e (Memᴰ.tail m) =
    let (begins, others) = both (begins_a_day f) (neighbours (λ p e. begins_a_day e) (f ∷ es)) d in
    let (j, is) = on_days_in f es (suc n) c.2 (c.1 ∙ rw o (ap pos (omega arith))) (omega arith) others e m in
    (j, omega (arith, a_day_after f es c.2 m))

pub on_days_lem : (es : List Entry) → on_days es ≡ true → (e : Entry) → Memᴰ e (drop 1 es) → OnADay 19 (leaps es) e
unfolding leaps
on_days_lem es d e m =
    let (is_regular, days) = both_tests es d in
    let l = of-regular es is_regular in
    let all : neighbours (λ p e. begins_a_day e) (l.first ∷ drop 1 es) ≡ true = rw l.begins_with at days in
    on_days_in l.first (drop 1 es) 19 l.later l.is_19 (omega (arith, l.few)) all e m
