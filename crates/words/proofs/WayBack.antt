-- Digits and their value, there and back: what is written is read as it was, and what is read is written as it was.
use mathlib.Core.Path.{◌≡◌, refl, ap, ◌∙◌}
use mathlib.Core.Bool.{Bool, true, false, ◌&&◌}
use mathlib.Core.List.{List, [], ◌∷◌, ◌++◌, append-nil, append_assoc}
use Prim.Native.Nat.{ℕ, zero, suc, ◌+◌, ◌-◌, ◌*◌, ◌/◌, ◌%◌, ◌^◌, ◌<◌, ◌≤◌}
use native.Mathlib.Decide.{dec_lt}
use native.Mathlib.Nat.{pow-suc, add-zero, zero-add}
use native.Mathlib.Omega.{arith}
use borrow.Author.Tests.{leb-true, le-ltb, lt-ltb}
use lib.Dec.{leb}
use lib.ListN.{length, get_or}
use lib.Seq.{drop-cons}
use Rattle.refusals.specs.Outcome.{answered}
use Rattle.words.specs.Decimal.{is_digit, all_digits, value_from, value_of, count_read, in_digits, places_up_to, decimal}
use Rattle.words.proofs.Reading.{ReadTo, a_digit, is_count}
use Rattle.words.proofs.Writing.{digits_length}

-- the halves of a test of two
pub first_half : (a b : Bool) → (a && b) ≡ true → a ≡ true
first_half true b e = refl
first_half false b e = e

pub second_half : (a b : Bool) → (a && b) ≡ true → b ≡ true
second_half true b e = e
second_half false true e = refl
second_half false false e = e

pub digit_bounds : (b : ℕ) → is_digit b ≡ true → (48 ≤ b) × (b ≤ 57)
digit_bounds b e =
    (leb-true 48 b (first_half (leb 48 b) (leb b 57) e), leb-true b 57 (second_half (leb 48 b) (leb b 57) e))

-- the next byte for a reader of digits
pub next_is_digit : {s : List ℕ} {value i : ℕ} → ReadTo s value i → i < length s → all_digits s ≡ true
    → (48 ≤ get_or s i 0) × (get_or s i 0 ≤ 57)
next_is_digit {s} {value} {i} r inside d =
    let split = rw (r.digits, drop-cons s i 0 inside) at d in
    digit_bounds (get_or s i 0) (first_half (is_digit (get_or s i 0)) _ split)

value_snoc : (bs : List ℕ) (v b : ℕ) → value_from v (bs ++ (b ∷ [])) ≡ value_from v bs * 10 + (b - 48)
value_snoc [] v b = refl
value_snoc (c ∷ bs) v b = value_snoc bs (v * 10 + (c - 48)) b

digits_snoc : (bs : List ℕ) (b : ℕ) → all_digits bs ≡ true → is_digit b ≡ true → all_digits (bs ++ (b ∷ [])) ≡ true
digits_snoc [] b d e = rw e
digits_snoc (c ∷ bs) b d e =
    rw (first_half (is_digit c) (all_digits bs) d) (digits_snoc bs b (second_half (is_digit c) (all_digits bs) d) e)

-- a number is the value of its digits
pub value_of_digits : (k n : ℕ) → n < 10 ^ k → value_of (in_digits k n) ≡ n
value_of_digits zero n h = omega arith
value_of_digits (suc k) n h =
    let rest : value_of (in_digits k (n / 10)) ≡ n / 10 = value_of_digits k (n / 10) (omega (arith, pow-suc 10 k)) in
    value_snoc (in_digits k (n / 10)) 0 (48 + n % 10) ∙ rw rest (omega arith)

pub digits_are_digits : (k n : ℕ) → all_digits (in_digits k n) ≡ true
digits_are_digits zero n = refl
digits_are_digits (suc k) n =
    let last = a_digit (48 + n % 10) (omega arith) (omega arith) in
    digits_snoc (in_digits k (n / 10)) (48 + n % 10) (digits_are_digits k (n / 10)) last

-- digits are those of their value
digits-after : (bs : List ℕ) (v k : ℕ) → all_digits bs ≡ true
    → in_digits (k + length bs) (value_from v bs) ≡ in_digits k v ++ bs
digits-after [] v k d = rw (add-zero, append-nil)
digits-after (b ∷ bs) v k d =
    let digit = digit_bounds b (first_half (is_digit b) (all_digits bs) d) in
    let high : (v * 10 + (b - 48)) / 10 ≡ v = omega arith in
    let low : 48 + (v * 10 + (b - 48)) % 10 ≡ b = omega arith in
    let wider : k + suc (length bs) ≡ suc k + length bs = omega arith in
    rw wider
    (digits-after bs (v * 10 + (b - 48)) (suc k) (second_half (is_digit b) (all_digits bs) d)
    ∙ rw (high, low) (append_assoc (in_digits k v) (b ∷ []) bs))

pub digits_of_value : (bs : List ℕ) → all_digits bs ≡ true → in_digits (length bs) (value_of bs) ≡ bs
digits_of_value bs d = rw zero-add at (digits-after bs 0 0 d)

-- the value of k digits, and then of bs
pub value-below : (bs : List ℕ) (v k : ℕ) → all_digits bs ≡ true → v < 10 ^ k → value_from v bs < 10 ^ (k + length bs)
value-below [] v k d h = rw add-zero h
value-below (b ∷ bs) v k d h =
    let digit = digit_bounds b (first_half (is_digit b) (all_digits bs) d) in
    let rest = second_half (is_digit b) (all_digits bs) d in
    let wider : k + suc (length bs) ≡ suc k + length bs = omega arith in
    rw wider (value-below bs (v * 10 + (b - 48)) (suc k) rest (omega (arith, pow-suc 10 k)))

-- a number has one place, or one more than its tens have
by_places : (P : ℕ → Type 0) (k n : ℕ) → (n < 10 → P 1) → (10 ≤ n → P (suc (places_up_to k (n / 10))))
    → P (places_up_to (suc k) n)
unfolding places_up_to
by_places P k n one more = go (dec_lt n 10)
  where
    go : Dec (n < 10) → P (places_up_to (suc k) n)
    go (yes l) = rw (lt-ltb n 10 l) (one l)
    go (no m) = let h : 10 ≤ n = omega (arith, m) in rw (le-ltb n 10 h) (more h)

-- the places of a number of at most k digits hold it
places_hold : (k n : ℕ) → n < 10 ^ k → n < 10 ^ places_up_to k n
unfolding places_up_to
places_hold zero n h = h
places_hold (suc k) n h =
    let rest = places_hold k (n / 10) (omega (arith, pow-suc 10 k)) in
    by_places (λ p. n < 10 ^ p) k n (λ l. omega arith) (λ l. omega (arith, pow-suc 10 (places_up_to k (n / 10))))

places_most : (k n : ℕ) → places_up_to k n ≤ k
unfolding places_up_to
places_most zero n = omega arith
places_most (suc k) n = by_places (λ p. p ≤ suc k) k n (λ l. omega arith) (λ l. omega (arith, places_most k (n / 10)))

pub decimal_length : (n : ℕ) → (0 < length (decimal n)) × (length (decimal n) ≤ 20)
decimal_length n =
    let long = digits_length (places_up_to 20 n) n in
    let some = by_places (λ p. 0 < p) 19 n (λ l. omega arith) (λ l. omega arith) in
    (omega arith, omega (arith, places_most 20 n))

-- a count is read from its digits
pub count_back : (n : ℕ) → n < 2 ^ 64 → count_read (decimal n) ≡ answered n
count_back n h =
    let value : value_of (decimal n) ≡ n = value_of_digits (places_up_to 20 n) n (places_hold 20 n (omega arith)) in
    let long = decimal_length n in
    is_count (decimal n) long.0 long.1 (digits_are_digits (places_up_to 20 n) n) (omega arith) ∙ ap answered value
