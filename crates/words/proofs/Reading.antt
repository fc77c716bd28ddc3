-- Reading digits: what the bytes from a place on say, at a turn of a reader, and which bytes are a count.
use mathlib.Core.Path.{◌≡◌, refl, sym, ap, ◌∙◌}
use mathlib.Core.Bool.{true, false, ◌&&◌, and-false}
use mathlib.Core.List.{List, [], ◌∷◌}
use Prim.Native.Nat.{ℕ, ◌+◌, ◌-◌, ◌*◌, ◌^◌, ◌<◌, ◌≤◌}
use native.Mathlib.Numerals.{add-one}
use native.Mathlib.Omega.{arith}
use borrow.Author.Tests.{le-leb, lt-ltb, le-ltb}
use lib.Dec.{leb, ltb}
use lib.ListN.{length, get_or, drop, drop_of_length-le}
use lib.Seq.{drop-cons}
use Rattle.refusals.specs.Outcome.{answered, refused}
use Rattle.words.specs.Decimal.{is_digit, all_digits, value_from, value_of, count_read}

pub a_digit : (b : ℕ) → 48 ≤ b → b ≤ 57 → is_digit b ≡ true
a_digit b l h = rw (le-leb 48 b l, le-leb b 57 h)

-- more digits make no value less
pub grows : (v : ℕ) (bs : List ℕ) → v ≤ value_from v bs
grows v [] = omega arith
grows v (b ∷ bs) = omega (arith, grows (v * 10 + (b - 48)) bs)

pub is_count : (s : List ℕ) → 0 < length s → length s ≤ 20 → all_digits s ≡ true → value_of s < 2 ^ 64
    → count_read s ≡ answered (value_of s)
is_count s l m d h = rw (lt-ltb 0 (length s) l, le-leb (length s) 20 m, d, lt-ltb (value_of s) (2 ^ 64) h)

-- a reader of digits: the bytes from i on say, after `value`, what all of them say
pub record ReadTo (s : List ℕ) (value i : ℕ) : Type 0 where
  pub digits : all_digits s ≡ all_digits (drop i s)
  pub says : value_of s ≡ value_from value (drop i s)
  pub within : i ≤ length s

pub none_read : (s : List ℕ) → ReadTo s 0 0
none_read s = record { digits = refl; says = refl; within = omega arith }

module _ {s : List ℕ} {value i : ℕ} (r : ReadTo s value i) where
  -- no byte is left
  pub value_read : length s ≤ i → value ≡ value_of s
  value_read e = sym (r.says ∙ ap (value_from value) (drop_of_length-le s {i = i} e))

  pub all_read : 0 < length s → length s ≤ 20 → length s ≤ i → value < 2 ^ 64 → answered value ≡ count_read s
  all_read l m e small =
      let is = value_read e in
      let digits = r.digits ∙ ap all_digits (drop_of_length-le s {i = i} e) in
      ap answered is ∙ sym (is_count s l m digits (omega arith))

  module _ (inside : i < length s) where
    on : value_of s ≡ value_from (value * 10 + (get_or s i 0 - 48)) (drop (i + 1) s)
    on = r.says ∙ rw (add-one, drop-cons s i 0 inside)

    pub not_digit : is_digit (get_or s i 0) ≡ false → refused 10 ≡ count_read s
    not_digit e = rw (r.digits, drop-cons s i 0 inside, e, and-false (ltb 0 (length s) && leb (length s) 20))

    pub too_large : 2 ^ 64 ≤ value * 10 + (get_or s i 0 - 48) → refused 10 ≡ count_read s
    too_large h =
        let large : 2 ^ 64 ≤ value_of s = omega (arith, on, grows (value * 10 + (get_or s i 0 - 48)) (drop (i + 1) s)) in
        rw (le-ltb _ _ large, and-false (all_digits s), and-false (ltb 0 (length s) && leb (length s) 20))

    pub one_read : 48 ≤ get_or s i 0 → get_or s i 0 ≤ 57 → ReadTo s (value * 10 + (get_or s i 0 - 48)) (i + 1)
    one_read l h = record {
      digits = r.digits ∙ rw (add-one, drop-cons s i 0 inside, a_digit (get_or s i 0) l h);
      says = on;
      within = omega arith;
    }
