-- The digits that a text begins with: a reader's step from one to the next, and what the whole says where they end.
use mathlib.Core.Path.{◌≡◌, refl, sym, ap, ◌∙◌}
use mathlib.Core.Bool.{Bool, true, false, ◌&&◌, and-false}
use mathlib.Core.List.{List, [], ◌∷◌}
use Prim.Native.Nat.{ℕ, zero, suc, ◌+◌, ◌-◌, ◌*◌, ◌^◌, ◌≤◌, ◌<◌}
use native.Mathlib.Nat.{zero-add, pow-le-pow_right}
use native.Mathlib.Numerals.{add-one}
use native.Mathlib.Decide.{dec_lt}
use native.Mathlib.Omega.{arith}
use borrow.Author.Tests.{leb-true, lt-leb, lt-ltb, le-ltb}
use lib.Dec.{leb, ltb}
use lib.ListN.{length, get_or, take, get_or-eq_default}
use Rattle.std.specs.List.{prefix_len}
use Rattle.std.specs.Prelude.{IfSome}
use Rattle.std.specs.Bool.{then_some}
use Rattle.std.proofs.Common.{lit<}
use Rattle.std.proofs.lemmas.List.{length-take-le}
use Rattle.refusals.specs.Outcome.{answered, refused}
use Rattle.words.specs.Decimal.{is_digit, all_digits, value_from, value_of, count_read}
use Rattle.words.proofs.Reading.{is_count}
use Rattle.words.proofs.WayBack.{first_half, second_half, value-below}
use Rattle.published.specs.LeapSecondsList.{take_while}
use Rattle.published.specs.Places.{in64_bits, number_found}
use Rattle.published.proofs.Parts.{one_more, take_leading, leading_within}

-- a digit is no byte below `0`
pub from_zero : (b : ℕ) → is_digit b ≡ true → 48 ≤ b
from_zero b e = leb-true 48 b (first_half (leb 48 b) (leb b 57) e)

-- and no place past the end
pub digit_inside : (s : List ℕ) (i : ℕ) → is_digit (get_or s i 0) ≡ true → i < length s
digit_inside s i e = by_place (dec_lt i (length s))
  where
    by_place : Dec (i < length s) → i < length s
    by_place (yes inside) = inside
    by_place (no past) =
        let none = get_or-eq_default s 0 {n = i} (omega (arith, past)) in
        absurd (omega (arith, none, from_zero (get_or s i 0) e))

-- ---- one digit more
digits_on : (s : List ℕ) (i : ℕ) → i < length s → all_digits (take i s) ≡ true → is_digit (get_or s i 0) ≡ true
    → all_digits (take (suc i) s) ≡ true
digits_on [] i inside d e = absurd (omega arith)
digits_on (b ∷ s) zero inside d e = rw e
digits_on (b ∷ s) (suc i) inside d e =
    rw (first_half (is_digit b) (all_digits (take i s)) d)
    (digits_on s i (omega arith) (second_half (is_digit b) (all_digits (take i s)) d) e)

value_on : (s : List ℕ) (v i : ℕ) → i < length s
    → value_from v (take (suc i) s) ≡ value_from v (take i s) * 10 + (get_or s i 0 - 48)
value_on [] v i inside = absurd (omega arith)
value_on (b ∷ s) v zero inside = refl
value_on (b ∷ s) v (suc i) inside = value_on s (v * 10 + (b - 48)) i (omega arith)

-- ---- digits that were read are among the leading ones, and all of these where no digit follows
digits_lead : (s : List ℕ) (i : ℕ) → i ≤ length s → all_digits (take i s) ≡ true → i ≤ prefix_len is_digit s
digits_lead s zero inside d = omega arith
digits_lead [] (suc i) inside d = absurd (omega arith)
digits_lead (b ∷ s) (suc i) inside d =
    let rest = digits_lead s i (omega arith) (second_half (is_digit b) (all_digits (take i s)) d) in
    omega (arith, rest, one_more is_digit b s (first_half (is_digit b) (all_digits (take i s)) d))

digits_end : (s : List ℕ) (i : ℕ) → i ≤ length s → all_digits (take i s) ≡ true
    → (i < length s → is_digit (get_or s i 0) ≡ false) → prefix_len is_digit s ≡ i
digits_end [] i inside d stops = omega arith
digits_end (b ∷ s) zero inside d stops = rw (stops (omega arith))
digits_end (b ∷ s) (suc i) inside d stops =
    let h : i ≤ length s = omega arith in
    let rest = digits_end s i h (second_half (is_digit b) (all_digits (take i s)) d) (λ l. stops (omega (arith, l))) in
    omega (arith, rest, one_more is_digit b s (first_half (is_digit b) (all_digits (take i s)) d))

-- ---- a reader of digits: the first i bytes are digits, and say `value`
pub record ReadTo (s : List ℕ) (value i : ℕ) : Type 0 where
  pub digits : all_digits (take i s) ≡ true
  pub says : value ≡ value_of (take i s)
  pub within : i ≤ length s

module _ {s : List ℕ} {value i : ℕ} (r : ReadTo s value i) where
  below : value < 10 ^ i
  below =
      let wide : length (take i s) ≡ i = length-take-le i s r.within in
      rw r.says (rw (zero-add, wide) at (value-below (take i s) 0 0 r.digits (lit< tt)))

  -- any 19 digits fit 64 bits, and the 18 before the last leave room for it
  pub fits : i ≤ 19 → value < 2 ^ 64
  fits few = omega (arith, below, pow-le-pow_right {n = 10} (lit< tt) few)

  pub room : i ≤ 18 → value < 10 ^ 18
  room few = omega (arith, below, pow-le-pow_right {n = 10} (lit< tt) few)

  -- no digit follows
  module _ (stops : i < length s → is_digit (get_or s i 0) ≡ false) where
    pub all_read : prefix_len is_digit s ≡ i
    all_read = digits_end s i r.within r.digits stops

    same : take i s ≡ take_while is_digit s
    same = ap (λ k. take k s) (sym all_read) ∙ take_leading is_digit s

    pub is_number : 0 < i → i ≤ 20 → value < 2 ^ 64 → answered value ≡ in64_bits (count_read (take_while is_digit s))
    is_number some few small =
        let wide : length (take i s) ≡ i = length-take-le i s r.within in
        let read : count_read (take i s) ≡ answered (value_of (take i s))
        = is_count (take i s) (omega (arith, wide)) (omega (arith, wide)) r.digits (omega (arith, r.says)) in
        ap answered r.says ∙ ap in64_bits (sym read) ∙ ap (λ l. in64_bits (count_read l)) same

    pub no_number : i ≡ 0 → refused 12 ≡ in64_bits (count_read (take_while is_digit s))
    no_number none = rw (← same, none)

    pub too_large : 2 ^ 64 ≤ value → refused 12 ≡ in64_bits (count_read (take_while is_digit s))
    too_large h =
        let large : 2 ^ 64 ≤ value_of (take i s) = omega (arith, r.says) in
        let long = length (take i s) in
        rw (← same, le-ltb _ _ large, and-false (all_digits (take i s)), and-false (ltb 0 long && leb long 20))

    -- what the reader returns here
    pub found : i ≤ 19 → number_found (then_some (ltb 0 i) (value, i)) ≡ in64_bits (count_read (take_while is_digit s))
    found few = by_place (dec_lt 0 i)
      where
        by_place : Dec (0 < i)
            → number_found (then_some (ltb 0 i) (value, i)) ≡ in64_bits (count_read (take_while is_digit s))
        by_place (yes some) = rw (lt-ltb 0 i some) (is_number some (omega arith) (fits few))
        by_place (no none) =
            let h : i ≡ 0 = omega (arith, none) in
            rw (le-ltb 0 i (omega (arith, none))) (no_number h)

    pub found_ends : IfSome {T = ℕ × ℕ} (then_some (ltb 0 i) (value, i))
        (λ n. (n.1 ≡ prefix_len is_digit s) × (n.1 ≤ length s))
    found_ends = by_place (ltb 0 i)
      where
        by_place : (t : Bool) → IfSome {T = ℕ × ℕ} (then_some t (value, i))
            (λ n. (n.1 ≡ prefix_len is_digit s) × (n.1 ≤ length s))
        by_place true = (sym all_read, r.within)
        by_place false = tt

  -- more than 20 digits are no number
  pub too_long : 20 < i → refused 12 ≡ in64_bits (count_read (take_while is_digit s))
  too_long h =
      let more = digits_lead s i r.within r.digits in
      let wide : length (take_while is_digit s) ≡ prefix_len is_digit s
      = ap length (sym (take_leading is_digit s)) ∙ length-take-le (prefix_len is_digit s) s (leading_within is_digit s) in
      let long : 20 < length (take_while is_digit s) = omega (arith, wide, more) in
      rw (lt-leb (length (take_while is_digit s)) 20 long, and-false)

  module _ (inside : i < length s) (e : is_digit (get_or s i 0) ≡ true) where
    pub one_read : ReadTo s (value * 10 + (get_or s i 0 - 48)) (i + 1)
    one_read = rw add-one (record {
      digits = digits_on s i inside r.digits e;
      says = ap (λ v. v * 10 + (get_or s i 0 - 48)) r.says ∙ sym (value_on s 0 i inside);
      within = omega arith;
    })
