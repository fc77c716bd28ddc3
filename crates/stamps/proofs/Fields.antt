-- Bytes in the form: the fields that are read fit, and a field is written with its mark.
use mathlib.Core.Path.{◌≡◌, refl, ◌∙◌}
use mathlib.Core.Bool.{true, false≢true}
use mathlib.Core.List.{List, [], ◌∷◌, ◌++◌}
use Prim.Native.Nat.{ℕ, zero, suc, ◌+◌, ◌^◌, ◌<◌}
use native.Mathlib.Nat.{zero-add}
use lib.Dec.{lit<}
use lib.ListN.{length, set, take, drop, replicate, length-replicate}
use lib.Seq.{sets}
use Rattle.words.specs.Decimal.{is_digit, all_digits, value_of, in_digits}
use Rattle.words.proofs.Stores.{joined}
use Rattle.words.proofs.Writing.{digits_length}
use Rattle.words.proofs.WayBack.{first_half, second_half, value-below, digits_of_value}
use Rattle.stamps.specs.Form.{Fits, field, fields_at, first, last, within}
use Rattle.stamps.proofs.Between.{as_long, rest-within, start-within}

-- digits lie between zeros and nines
digits_between : (k : ℕ) (s : List ℕ) → within (replicate k 48) (replicate k 57) s ≡ true → all_digits s ≡ true
digits_between zero [] e = refl
digits_between zero (b ∷ s) e = absurd (false≢true e)
digits_between (suc k) [] e = absurd (false≢true e)
digits_between (suc k) (b ∷ s) e =
    let rest = within (replicate k 48) (replicate k 57) s in
    rw (first_half (is_digit b) rest e) (digits_between k s (second_half (is_digit b) rest e))

pub digits-before : (s l h t : List ℕ) → all_digits s ≡ true → within l h t ≡ true
    → within (replicate (length s) 48 ++ l) (replicate (length s) 57 ++ h) (s ++ t) ≡ true
digits-before [] l h t e f = f
digits-before (b ∷ s) l h t e f =
    rw (first_half (is_digit b) (all_digits s) e) (digits-before s l h t (second_half (is_digit b) (all_digits s) e) f)

-- a field of k digits at a place, with the mark after it
module _ (s : List ℕ) (formed : within first last s ≡ true) where
  pub long : length s ≡ 30
  long = as_long first last s formed

  module _ (k at : ℕ) (zeros : take k (drop at first) ≡ replicate k 48)
      (nines : take k (drop at last) ≡ replicate k 57) where
    part : within (replicate k 48) (replicate k 57) (take k (drop at s)) ≡ true
    part =
        rw (zeros, nines) at (start-within k (drop at first) (drop at last) (drop at s)
        (rest-within at first last s formed))

    part_length : length (take k (drop at s)) ≡ k
    part_length = as_long (replicate k 48) (replicate k 57) (take k (drop at s)) part ∙ length-replicate k 48

    pub all_digits_lem : all_digits (take k (drop at s)) ≡ true
    all_digits_lem = digits_between k (take k (drop at s)) part

    pub below : value_of (take k (drop at s)) < 10 ^ k
    below = rw (zero-add, part_length) at (value-below (take k (drop at s)) 0 0 all_digits_lem (lit< tt))

    pub same_digits : in_digits k (value_of (take k (drop at s))) ≡ take k (drop at s)
    same_digits = rw part_length at (digits_of_value (take k (drop at s)) all_digits_lem)

  pub fits : Fits (fields_at s)
  fits = record {
    natural = refl;
    year = below 4 0 refl refl;
    month = below 2 5 refl refl;
    day = below 2 8 refl refl;
    hour = below 2 11 refl refl;
    minute = below 2 14 refl refl;
    second = below 2 17 refl refl;
    nanos = below 9 20 refl refl;
  }

-- a number in k digits, and the mark stored after it
pub marked : {x : List ℕ} (out : List ℕ) (at k n mark : ℕ) → x ≡ sets out at (in_digits k n)
    → set x (at + k) mark ≡ sets out at (field k n mark)
marked out at k n mark e = joined out at (at + k) (in_digits k n) (mark ∷ []) e (rw digits_length) refl
