-- A refused reading of a file writes the image of the table with no entry, and a line only with 12; bytes that are no
-- image are left as they were.
use mathlib.Core.Path.{◌≡◌, refl, sym, ap, ◌∙◌}
use mathlib.Core.Logic.{◌≢◌}
use mathlib.Core.Bool.{Bool, true, false, cond}
use mathlib.Core.List.{List, []}
use Prim.Native.Nat.{ℕ}
use borrow.Author.Tests.{ne_eqb}
use lib.Dec.{eqb, ltb}
use lib.ListN.{length}
use Rattle.tables.specs.Slots.{table_of}
use Rattle.tables.specs.declared.LeapTable.{LeapTable}
use Rattle.images.specs.Image.{image_bytes, sized, image_of}
use Rattle.images.proofs.Whole.{of_size, not_of_size}
use Rattle.published.specs.LeapSecondsList.{Reading, bad_list, first_malformed, of_records, of_lines, list_read}
use Rattle.plaitgate.specs.Tables.{ListLeft, list_left, left_of}
use Rattle.plaitgate.proofs.leap_files

-- of what a reader answers: a refusal has the table with no entry, and a line comes only with 12
record Leaves (r : Reading) : Type 0 where
  empty : r.number ≢ 0 → r.table ≡ table_of []
  no_line : r.number ≢ 12 → r.line ≡ 0

either : (test : Bool) {x y : Reading} → Leaves x → Leaves y → Leaves (cond test x y)
either true l m = l
either false l m = m

-- a refusal of the form, at a line or at none
of_form : (n : ℕ) → Leaves (bad_list n)
of_form n = record { empty = λ m. refl; no_line = λ m. absurd (m refl) }

-- the table of n records, by the number that their refusal has
of_records_lem : (n k : ℕ) (t : LeapTable) → Leaves (of_records n (k, cond (eqb k 0) t (table_of [])))
of_records_lem n k t = record { empty = λ m. rw (ne_eqb k 0 m); no_line = λ m. refl }

-- malformed at a line, or by its records
lines_leave : (ls : List (List ℕ)) → Leaves (of_lines ls)
lines_leave ls = either (eqb (first_malformed false 1 ls) 0) (of_records_lem _ _ _) (of_form (first_malformed false 1 ls))

-- too long, or by its lines
reading-leaves : (bytes : List ℕ) → Leaves (list_read bytes)
reading-leaves bytes = either (ltb 65_536 (length bytes)) (of_form 0) (lines_leave _)

-- a refused reading gives the image of the table with no entry
pub read_leap_list : (κ : _) (a : _) (k : ℕ) (e : _) → leap_files.plaitgate_read_leap_list.Reads.Post κ a k e → k ≢ 0
    → length a.1.0.now ≡ image_bytes → e.1.0.now ≡ image_of (table_of [])
read_leap_list κ a k e p n s =
    let read = list_read a.0.now in
    let told = p ∙ sym (of_size a.1.0.now (left_of read) (list_left 8 0 a.1.0.now) s) in
    ap (λ (l : ListLeft). l.image) told
    ∙ ap image_of ((reading-leaves a.0.now).empty (λ z. n (ap (λ (l : ListLeft). l.number) told ∙ z)))

-- or leaves bytes that are no image
pub read_leap_list_no_image : (κ : _) (a : _) (k : ℕ) (e : _)
    → leap_files.plaitgate_read_leap_list.Reads.Post κ a k e
    → length a.1.0.now ≢ image_bytes → e.1.0.now ≡ a.1.0.now
read_leap_list_no_image κ a k e p s =
    let read = list_read a.0.now in
    ap (λ (l : ListLeft). l.image)
    (p ∙ sym (not_of_size a.1.0.now (left_of read) (list_left 8 0 a.1.0.now) s))

no_line_left : (test : Bool) (r : Reading) (b : List ℕ) → Leaves r
    → (cond test (left_of r) (list_left 8 0 b)).number ≢ 12 → (cond test (left_of r) (list_left 8 0 b)).line ≡ 0
no_line_left true r b l m = l.no_line m
no_line_left false r b l m = refl

-- the line is 0 unless the number is 12
pub read_leap_list_line : (κ : _) (a : _) (k : ℕ) (e : _) → leap_files.plaitgate_read_leap_list.Reads.Post κ a k e
    → k ≢ 12 → e.1.1.0.now ≡ 0
read_leap_list_line κ a k e p n =
    let b = a.1.0.now in
    let left = no_line_left (sized b) (list_read a.0.now) b (reading-leaves a.0.now) in
    ap (λ (l : ListLeft). l.line) p ∙ left (λ z. n (ap (λ (l : ListLeft). l.number) p ∙ z))
