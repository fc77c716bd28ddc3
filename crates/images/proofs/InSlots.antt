-- What stands in the slots of the table in an image: the numbers at their places in its bytes.
use mathlib.Core.Path.{◌≡◌, refl, sym, ap, ◌∙◌}
use mathlib.Core.List.{List}
use Prim.Native.Nat.{ℕ, zero, suc, ◌+◌, ◌*◌, ◌<◌}
use native.Mathlib.Nat.{mul-zero}
use native.Mathlib.Omega.{arith}
use lib.ListN.{length, get_or, take, drop, length-map, get_or-map}
use lib.Seq.{drop-drop}
use lib.IntN.{pos}
use mir.Syntax.{w32}
use mir.Val.{to_z}
use Rattle.tables.proofs.Extensions.{Sized}
use Rattle.words.specs.Words.{number_in}
use Rattle.images.specs.Image.{numbers_in, table_in}
use Rattle.images.proofs.Fields.{strides}

-- ---- numbers one after the other

module _ (k stride : ℕ) where
  numbers_count : (n : ℕ) (b : List ℕ) → length (numbers_in k stride n b) ≡ n
  unfolding numbers_in
  numbers_count zero b = refl
  numbers_count (suc n) b = ap suc (numbers_count n (drop stride b))

  number_at : (n i : ℕ) (b : List ℕ) → i < n
      → get_or (numbers_in k stride n b) i 0 ≡ number_in (take k (drop (stride * i) b))
  unfolding numbers_in
  number_at zero i b h = absurd (omega arith)
  number_at (suc n) zero b h = rw mul-zero
  number_at (suc n) (suc i) b h = rw (← strides stride i b) (number_at n i (drop stride b) (omega arith))

-- ---- the table

module _ (b : List ℕ) where
  pub length_is : number_in (take 8 (drop 0 b)) ≡ (table_in b).len
  unfolding table_in
  length_is = refl

  pub expiry_is : number_in (take 8 (drop 776 b)) ≡ (table_in b).expiry
  unfolding table_in
  expiry_is = refl

  pub table_sized : Sized (table_in b)
  unfolding table_in
  table_sized = record {
    thresholds = numbers_count 8 8 64 (drop 8 b);
    offsets = length-map (numbers_in 4 4 64 (drop 520 b)) (to_z w32) ∙ numbers_count 4 4 64 (drop 520 b);
  }

  module _ (i : ℕ) (h : i < 64) where
    pub threshold_is : number_in (take 8 (drop (8 + 8 * i) b)) ≡ get_or (table_in b).thresholds i 0
    unfolding table_in
    threshold_is = rw (number_at 8 8 64 i (drop 8 b) h, drop-drop (8 * i) 8 b)

    pub offset_is : to_z w32 (number_in (take 4 (drop (520 + 4 * i) b))) ≡ get_or (table_in b).offsets i (pos 0)
    unfolding table_in
    offset_is =
        sym
        (get_or-map (to_z w32) (numbers_in 4 4 64 (drop 520 b)) i 0
        ∙ rw (number_at 4 4 64 i (drop 520 b) h, drop-drop (4 * i) 520 b))
