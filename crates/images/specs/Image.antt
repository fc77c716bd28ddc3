-- Leap-second tables as bytes, low byte first.
use Rattle.std.specs.Prelude.{Bool, cond, List, [], ◌∷◌, ◌++◌, map, ℕ, zero, suc, ◌+◌, ◌*◌, eqb, length, take, drop}
use Rattle.std.specs.Int.{w32}
use Rattle.std.proofs.Common.{to_z, of_z}
use Rattle.refusals.specs.Outcome.{Outcome, refused}
use Rattle.words.specs.Words.{number_in, bytes_of}
use Rattle.tables.specs.Entries.{Entry}
use Rattle.tables.specs.Slots.{entries_of, of_valid, table_of, built, extended}
use Rattle.tables.specs.Expiry.{stale_at, dated, expiring}
use Rattle.tables.specs.declared.LeapTable.{LeapTable}
use Rattle.images.specs.Listed.{whole, entries_in}

-- n numbers of k bytes each, every one `stride` bytes after the one before
unfoldable pub numbers_in : (k stride n : ℕ) → List ℕ → List ℕ
numbers_in k stride zero bs = []
numbers_in k stride (suc n) bs = number_in (take k bs) ∷ numbers_in k stride n (drop stride bs)

-- numbers in k bytes each, one after the other
unfoldable pub bytes_of_all : ℕ → List ℕ → List ℕ
bytes_of_all k [] = []
bytes_of_all k (n ∷ ns) = bytes_of k n ++ bytes_of_all k ns

-- where the offsets of an image begin: after a length of 8 bytes and 64 thresholds of 8
abbrev pub offsets_at : ℕ
offsets_at = 8 + 64 * 8

-- and where they end, 64 of 4 bytes, and the expiry begins: 776
abbrev pub expiry_at : ℕ
expiry_at = offsets_at + 64 * 4

-- the expiry is the last 8 bytes of an image: 784
abbrev pub image_bytes : ℕ
image_bytes = expiry_at + 8

-- these bytes are an image
abbrev pub sized : List ℕ → Bool
sized b = eqb (length b) image_bytes

-- the table that an image holds; an offset is the number whose two's complement its 4 bytes are
unfoldable pub table_in : List ℕ → LeapTable
table_in b = record {
  thresholds = numbers_in 8 8 64 (drop 8 b);
  offsets = map (to_z w32) (numbers_in 4 4 64 (drop offsets_at b));
  len = number_in (take 8 b);
  expiry = number_in (take 8 (drop expiry_at b));
}

-- the image of a table
unfoldable pub image_of : LeapTable → List ℕ
image_of t =
    bytes_of 8 t.len ++ bytes_of_all 8 t.thresholds ++ bytes_of_all 4 (map (of_z w32) t.offsets)
    ++ bytes_of 8 t.expiry

-- what a call answers by the table of an image: 8 where the bytes are no image or hold no valid table
abbrev pub by_image : {A : Type 0} → List ℕ → (List Entry → Outcome A) → Outcome A
by_image b answer = cond (sized b) (of_valid (table_in b) (answer (entries_of (table_in b)))) (refused 8)

-- what a call that looked up `tai` last answers by the table of an image, and whether that is stale
abbrev pub dated_by_image : {A : Type 0} → List ℕ → (tai : List Entry → ℕ) → (List Entry → Outcome A) → Outcome A × Bool
dated_by_image b tai answer = dated (stale_at (table_in b).expiry (tai (entries_of (table_in b)))) (by_image b answer)

-- 0 and the table of an image, or 8 and the empty table
abbrev pub image_read : List ℕ → ℕ × LeapTable
image_read b = cond (sized b) (0, table_in b) (8, table_of [])

-- 0 and the image of a table, or 8 and the bytes as they were
abbrev pub image_written : LeapTable → List ℕ → ℕ × List ℕ
image_written t b = cond (sized b) (0, image_of t) (8, b)

-- building from bytes: 8 where they are no whole number of entries
abbrev pub built_from : List ℕ → ℕ × LeapTable
built_from b = cond (whole b) (built (entries_in b)) (8, table_of [])

-- the image of the table afterwards, or the refusal's number and the bytes as they were
abbrev pub stored : List ℕ → ℕ × LeapTable → ℕ × List ℕ
stored b x = cond (eqb x.0 0) (0, image_of x.1) (x.0, b)

-- extension of the table in an image: 8 where the bytes are no image
abbrev pub image_extended : List ℕ → Entry → ℕ × List ℕ
image_extended b e = cond (sized b) (stored b (extended (table_in b) e)) (8, b)

-- the image with this expiry: 8 where the bytes are no image or hold no valid table, and then they are as they were
abbrev pub image_expiring : List ℕ → ℕ → ℕ × List ℕ
image_expiring b x = cond (sized b) (stored b (expiring (table_in b) x)) (8, b)
