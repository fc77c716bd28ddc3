-- The leap records of a file, in the file's order, and the table that they make. Which records a file holds is for its
-- reader to say.
use Rattle.std.specs.Prelude.{Bool, true, false, cond, ◌||◌, List, [], ◌∷◌, map, ℕ, ◌*◌, ◌^◌, leb, ltb, eqb, length, ℤ, pos, negsuc, ◌-ℤ◌, Option, None, Some}
use Rattle.std.specs.Int.Signed.{le_z}
use Rattle.counts.specs.Units.{second}
use Rattle.tables.specs.Entries.{Entry, entry, equal, offset_refusal}
use Rattle.tables.specs.Slots.{table_of, no_expiry}
use Rattle.tables.specs.Expiry.{with_expiry}
use Rattle.tables.specs.declared.LeapTable.{LeapTable}
use Rattle.records.specs.declared.inner.LeapRecord.{LeapRecord}

-- from the TAI second `threshold` on, TAI is `offset` seconds ahead of UTC; in a file both may be any integers
abbrev pub Record : Type 0
Record = LeapRecord

abbrev pub record_of : ℤ → ℤ → Record
record_of t n = record { threshold = t; offset = n }

-- the UTC second of the event, counted from 1980-01-06
abbrev pub event : Record → ℤ
event r = r.threshold -ℤ r.offset

-- ---- which records a table keeps
-- a table begins at the offset of the GPS epoch
abbrev pub is_first : Record → Bool
is_first r = equal r.offset (pos 19)

unfoldable pub has_first : List Record → Bool
has_first [] = false
has_first (r ∷ rs) = is_first r || has_first rs

-- the records up to the first with that offset, and that one
unfoldable pub up_to_first : List Record → List Record
up_to_first [] = []
up_to_first (r ∷ rs) = r ∷ cond (is_first r) [] (up_to_first rs)

-- the records after it
unfoldable pub after_first : List Record → List Record
after_first [] = []
after_first (r ∷ rs) = cond (is_first r) rs (after_first rs)

-- the kept records: that one is in force from TAI second 0 on, and those after it are kept as they are
abbrev pub kept : List Record → List Record
kept rs = record_of (pos 0) (pos 19) ∷ after_first rs

-- ---- why they make no table
-- the first of two numbers that is not 0
abbrev pub or_else : ℕ → ℕ → ℕ
or_else k l = cond (eqb k 0) l k

-- why a second t and an offset n cannot follow s and m, 3, 7, 4 in that order; 0 where they can
abbrev pub follow_refusal : ℤ → ℤ → ℤ → ℤ → ℕ
follow_refusal s m t n = cond (le_z t s) 3 (offset_refusal m n)

-- the first refusal of a record by the one before it, by a second of each
unfoldable pub order_refusal : (Record → ℤ) → List Record → ℕ
order_refusal at [] = 0
order_refusal at (p ∷ []) = 0
order_refusal at (p ∷ r ∷ rs) =
    or_else (follow_refusal (at p) p.offset (at r) r.offset) (order_refusal at (r ∷ rs))

-- in the file's order: up to the first with offset 19 the events rise, from there on the thresholds
abbrev pub file_order : List Record → ℕ
file_order rs = or_else (order_refusal event (up_to_first rs)) (order_refusal (λ r. r.threshold) (kept rs))

-- a second whose nanoseconds are above the counts
abbrev pub is_above : ℤ → Bool
is_above (pos s) = leb (2 ^ 64) (s * second)
is_above (negsuc s) = false

unfoldable pub some_above : List Record → Bool
some_above [] = false
some_above (r ∷ rs) = is_above r.threshold || some_above rs

-- the TAI second of an expiry is below 0, or its nanoseconds are above the counts
abbrev pub no_count : Option ℤ → Bool
no_count None = false
no_count (Some (pos s)) = is_above (pos s)
no_count (Some (negsuc s)) = true

-- 6 for no record, `missing` where none has offset 19; then 1 for a kept threshold or an expiry that is no count, 5 for
-- too many kept ones, and of all 3, 7, 4
abbrev pub records_refusal : ℕ → Option ℤ → List Record → ℕ
records_refusal missing expiry rs =
    cond (eqb (length rs) 0) 6
    (cond (has_first rs)
    (or_else (cond (some_above (after_first rs) || no_count expiry) 1 0)
    (or_else (cond (ltb 64 (length (kept rs))) 5 0) (file_order rs)))
    missing)

-- ---- the table
-- a second in nanoseconds; none that is kept is below 0
abbrev pub nanos_of : ℤ → ℕ
nanos_of (pos s) = s * second
nanos_of (negsuc s) = 0

abbrev pub entry_of : Record → Entry
entry_of r = entry (nanos_of r.threshold) r.offset

-- the expiry of the table: that of its TAI second, or none
abbrev pub expiry_of : Option ℤ → ℕ
expiry_of None = no_expiry
expiry_of (Some s) = nanos_of s

-- the refusal's number, or 0, and the table: on a refusal the one with no entry and no expiry
abbrev pub table_from : ℕ → Option ℤ → List Record → ℕ × LeapTable
table_from missing expiry rs = (
  records_refusal missing expiry rs,
  cond (eqb (records_refusal missing expiry rs) 0) (with_expiry (expiry_of expiry) (table_of (map entry_of (kept rs))))
      (table_of []),
)
