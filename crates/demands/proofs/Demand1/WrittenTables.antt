-- A refused call writes no byte of its image; only a refused building does, and writes the table with no entry.
use mathlib.Core.Path.{◌≡◌, refl, sym, ap, ◌∙◌}
use mathlib.Core.Logic.{◌≢◌}
use mathlib.Core.Bool.{Bool, true, false, cond}
use mathlib.Core.List.{List, []}
use Prim.Native.Nat.{ℕ}
use lib.Dec.{eqb}
use lib.ListN.{length}
use Rattle.refusals.proofs.Given.{left_on_refusal}
use Rattle.tables.specs.Entries.{Entry, entry}
use Rattle.tables.specs.Slots.{table_of, extended, built}
use Rattle.tables.specs.Expiry.{expiring}
use Rattle.tables.specs.declared.LeapTable.{LeapTable}
use Rattle.tables.proofs.Buildings.{building_refused}
use Rattle.images.specs.Image.{image_bytes, sized, table_in, image_of, stored, built_from}
use Rattle.images.specs.Listed.{whole, entries_in}
use Rattle.images.proofs.Whole.{of_size, not_of_size}
use Rattle.builtin.specs.Builtin.{builtin}
use Rattle.plaitgate.proofs.leap_tables
use Rattle.demands.specs.RefusalsLeave.{BytesKept}

-- of a number and what is left: a refusal leaves this
abbrev Leaves : {A : Type 0} → A → ℕ × A → Type 0
Leaves due x = x.0 ≢ 0 → x.1 ≡ due

-- the bytes are written if the test holds; otherwise they keep their value and the number says why
unwritten : (test : Bool) (written came : List ℕ) (j : ℕ) → Leaves came (cond test (0, written) (j, came))
unwritten true written came j n = absurd (n refl)
unwritten false written came j n = refl

-- an extension of what an image holds, or another expiry
unextended : (test : Bool) (came : List ℕ) (x : ℕ × LeapTable) → Leaves came (cond test (stored came x) (8, came))
unextended true came x n = unwritten (eqb x.0 0) (image_of x.1) came x.0 n
unextended false came x n = refl

-- a building that is refused makes the table with no entry
built_empty : (test : Bool) (es : List Entry) → Leaves (table_of []) (cond test (built es) (8, table_of []))
built_empty true es n = building_refused es n
built_empty false es n = refl

pub new : BytesKept leap_tables.plaitgate_table_new.Reads.Post (λ κ a. a.0.now) (λ κ e. e.0.now)
new κ a k e = left_on_refusal (unwritten (sized a.0.now) (image_of (table_of [])) a.0.now 8)

pub from-builtin : BytesKept leap_tables.plaitgate_table_from_builtin.Reads.Post (λ κ a. a.0.now) (λ κ e. e.0.now)
from-builtin κ a k e = left_on_refusal (unwritten (sized a.0.now) (image_of (table_of builtin)) a.0.now 8)

pub try_extend : BytesKept leap_tables.plaitgate_table_try_extend.Reads.Post (λ κ a. a.0.now) (λ κ e. e.0.now)
try_extend κ a k e =
    let came = a.0.now in
    left_on_refusal (unextended (sized came) came (extended (table_in came) (entry a.1.0 a.1.1.0)))

pub set_expiry : BytesKept leap_tables.plaitgate_table_set_expiry.Reads.Post (λ κ a. a.0.now) (λ κ e. e.0.now)
set_expiry κ a k e =
    let came = a.0.now in
    left_on_refusal (unextended (sized came) came (expiring (table_in came) a.1.0))

-- a refused building gives the image of the table with no entry
pub from_entries : (κ : _) (a : _) (k : ℕ) (e : _) → leap_tables.plaitgate_table_from_entries.Reads.Post κ a k e → k ≢ 0
    → length a.1.0.now ≡ image_bytes → e.1.0.now ≡ image_of (table_of [])
from_entries κ a k e p n s =
    let given = built_from a.0.now in
    let empty = built_empty (whole a.0.now) (entries_in a.0.now) in
    left_on_refusal (λ m. ap image_of (empty m))
    (p ∙ sym (of_size a.1.0.now (given.0, image_of given.1) (8, a.1.0.now) s)) n

-- or leaves bytes that are no image
pub from_entries_no_image : (κ : _) (a : _) (k : ℕ) (e : _)
    → leap_tables.plaitgate_table_from_entries.Reads.Post κ a k e
    → length a.1.0.now ≢ image_bytes → e.1.0.now ≡ a.1.0.now
from_entries_no_image κ a k e p s =
    let given = built_from a.0.now in
    ap (λ (x : ℕ × List ℕ). x.1)
    (p ∙ sym (not_of_size a.1.0.now (given.0, image_of given.1) (8, a.1.0.now) s))
