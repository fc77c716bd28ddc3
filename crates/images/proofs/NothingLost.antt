-- Nothing is lost between a table and its image: each of the four parts comes back as it went.
use mathlib.Core.Path.{◌≡◌, ap, ◌∙◌}
use mathlib.Core.List.{List, ◌++◌, map, append_assoc}
use Prim.Native.Nat.{ℕ, ◌^◌, ◌<◌}
use native.Mathlib.Omega.{arith}
use lib.ListN.{length, get_or, take, drop, length-drop, length-map, get_or-map}
use lib.Seq.{take_at, drop_at, take-add, take_all}
use lib.IntN.{pos}
use mir.Syntax.{w32}
use mir.Val.{SFits, to_z, of_z}
use mir.Facts.{to_z-of_z, of_z-to_z, Fits-of_z}
use Rattle.tables.specs.declared.LeapTable.{LeapTable}
use Rattle.tables.proofs.Extensions.{Sized}
use Rattle.words.specs.Words.{number_in, bytes_of}
use Rattle.words.proofs.Bytes.{bytes_count}
use Rattle.words.proofs.Inverses.{Below, below_drop, number_of_bytes, bytes_of_part}
use Rattle.images.specs.Image.{numbers_in, bytes_of_all, image_bytes, table_in, image_of}
use Rattle.images.proofs.Inverses.{undone, numbers_of_bytes, bytes_of_numbers, numbers_below}
use Rattle.images.proofs.Whole.{table_of_parts, front, middle, bits, back, last}
use Rattle.images.proofs.Whole.{before_back, before_last, image_count}

-- a table whose arrays have 64 slots each and whose numbers fit their types
pub record Typed (t : LeapTable) : Type 0 where
  pub sized : Sized t
  pub thresholds : Below (2 ^ 64) t.thresholds
  pub offsets : (i : ℕ) → SFits w32 (get_or t.offsets i (pos 0))
  pub len : t.len < 2 ^ 64
  pub expiry : t.expiry < 2 ^ 64

-- nothing is lost on the way to bytes and back, nor on the way from 784 bytes to a table and back
pub record NothingLost : Type 0 where
  pub table : (t : LeapTable) → Typed t → table_in (image_of t) ≡ t
  pub image : (b : List ℕ) → Below 256 b → length b ≡ image_bytes → image_of (table_in b) ≡ b
  pub size : (t : LeapTable) → Sized t → length (image_of t) ≡ image_bytes

module _ (t : LeapTable) (h : Typed t) where
  abbrev all : List ℕ
  all = front t ++ middle t ++ back t ++ last t

  -- what follows the thresholds
  abbrev rest : List ℕ
  rest = back t ++ last t

  slots_apart : all ≡ front t ++ middle t ++ rest
  slots_apart = append_assoc (front t ++ middle t) (back t) (last t)

  length_apart : all ≡ front t ++ (middle t ++ rest)
  length_apart = slots_apart ∙ append_assoc (front t) (middle t) rest

  len_kept : number_in (take 8 all) ≡ t.len
  len_kept =
      rw (length_apart, take_at (front t) (middle t ++ rest) 8 (bytes_count 8 t.len))
      (number_of_bytes 8 t.len h.len)

  thresholds-kept : numbers_in 8 8 64 (drop 8 all) ≡ t.thresholds
  thresholds-kept =
      rw (length_apart, drop_at (front t) (middle t ++ rest) 8 (bytes_count 8 t.len), ← h.sized.thresholds)
      (numbers_of_bytes 8 t.thresholds rest h.thresholds)

  bits_fit : Below (2 ^ 32) (bits t)
  bits_fit i = rw (get_or-map (of_z w32) t.offsets i (pos 0)) (Fits-of_z {w = w32} (h.offsets i)).fits

  offsets_kept : map (to_z w32) (numbers_in 4 4 64 (drop 520 all)) ≡ t.offsets
  offsets_kept =
      let count : length (bits t) ≡ 64 = length-map t.offsets (of_z w32) ∙ h.sized.offsets in
      let read : numbers_in 4 4 64 rest ≡ bits t = rw (← count) (numbers_of_bytes 4 (bits t) (last t) bits_fit) in
      rw (slots_apart, drop_at (front t ++ middle t) rest 520 (before_back h.sized), read)
      (undone (pos 0) (of_z w32) (to_z w32) t.offsets (λ i. to_z-of_z (h.offsets i)))

  expiry_kept : number_in (take 8 (drop 776 all)) ≡ t.expiry
  expiry_kept =
      rw (
        drop_at (front t ++ middle t ++ back t) (last t) 776 (before_last h.sized),
        take_all 8 (last t) (omega (arith, bytes_count 8 t.expiry)),
      )
      (number_of_bytes 8 t.expiry h.expiry)

  table_kept : table_in (image_of t) ≡ t
  unfolding table_in image_of
  table_kept = λ i. table_of_parts (thresholds-kept i) (offsets_kept i) (len_kept i) (expiry_kept i)

module _ (b : List ℕ) (h : Below 256 b) (l : length b ≡ 784) where
  thresholds-back : bytes_of_all 8 (numbers_in 8 8 64 (drop 8 b)) ≡ take 512 (drop 8 b)
  thresholds-back = bytes_of_numbers 8 64 (drop 8 b) (below_drop 8 b h) (rw length-drop (omega arith))

  offsets_back : bytes_of_all 4 (map (of_z w32) (map (to_z w32) (numbers_in 4 4 64 (drop 520 b)))) ≡ take 256 (drop 520 b)
  offsets_back =
      let bytes = below_drop 520 b h in
      ap (bytes_of_all 4)
      (undone 0 (to_z w32) (of_z w32) _
      (λ i. of_z-to_z {w = w32} (record { fits = numbers_below 4 4 64 (drop 520 b) bytes i })))
      ∙ bytes_of_numbers 4 64 (drop 520 b) bytes (rw length-drop (omega arith))

  expiry_back : bytes_of 8 (number_in (take 8 (drop 776 b))) ≡ take 8 (drop 776 b)
  expiry_back = bytes_of_part 8 (drop 776 b) (below_drop 776 b h) (rw length-drop (omega arith))

  -- 8, 512, 256 and 8 bytes one after the other are all 784
  image_kept : image_of (table_in b) ≡ b
  unfolding table_in image_of
  image_kept =
      rw (
        bytes_of_part 8 b h (omega arith),
        thresholds-back,
        offsets_back,
        expiry_back,
        ← take-add 8 512 b,
        ← take-add 520 256 b,
        ← take-add 776 8 b,
      )
      (take_all 784 b (omega arith))

pub nothing_lost : NothingLost
nothing_lost = record { table = table_kept; image = image_kept; size = λ t s. image_count s }
