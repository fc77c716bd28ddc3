-- An image as a whole: its four parts, written over 784 bytes a slot at a turn.
use mathlib.Core.Path.{◌≡◌, refl, sym, ◌∙◌}
use mathlib.Core.Bool.{cond}
use mathlib.Core.List.{List, ◌++◌, map, append-nil}
use Prim.Native.Nat.{ℕ, ◌+◌, ◌*◌, ◌≤◌, ◌<◌}
use native.Mathlib.Nat.{zero-add}
use native.Mathlib.Omega.{arith}
use borrow.Author.Tests.{eq-eqb, ne_eqb}
use lib.ListN.{length, get_or, drop, length-append, length-drop, length-map, get_or-map}
use lib.Seq.{drop-length, sets, sets-eq}
use lib.IntN.{ℤ, pos}
use mir.Syntax.{w32}
use mir.Val.{of_z}
use Rattle.tables.specs.declared.LeapTable.{LeapTable}
use Rattle.tables.proofs.Extensions.{Sized}
use Rattle.words.specs.Words.{bytes_of}
use Rattle.words.proofs.Bytes.{bytes_count}
use Rattle.words.proofs.Stores.{joined, sets_apart}
use Rattle.images.specs.Image.{bytes_of_all, sized, image_of}
use Rattle.images.proofs.Fields.{all_bytes_count, field-written, all_fields_written}

abbrev pub table_of_parts : List ℕ → List ℤ → (len expiry : ℕ) → LeapTable
table_of_parts ts zs n x = record { thresholds = ts; offsets = zs; len = n; expiry = x }

module _ (t : LeapTable) where
  abbrev pub front : List ℕ
  front = bytes_of 8 t.len

  abbrev pub middle : List ℕ
  middle = bytes_of_all 8 t.thresholds

  abbrev pub bits : List ℕ
  bits = map (of_z w32) t.offsets

  abbrev pub back : List ℕ
  back = bytes_of_all 4 bits

  abbrev pub last : List ℕ
  last = bytes_of 8 t.expiry

  -- the bytes once the slots from i on are written over them
  abbrev pub slots_written_from : ℕ → List ℕ → List ℕ
  slots_written_from i b =
      sets (sets b (8 + 8 * i) (bytes_of_all 8 (drop i t.thresholds))) (520 + 4 * i) (bytes_of_all 4 (drop i bits))

  -- and the expiry after them
  abbrev pub written_from : ℕ → List ℕ → List ℕ
  written_from i b = sets (slots_written_from i b) 776 last

module _ {t : LeapTable} (s : Sized t) where
  bits_count : length (bits t) ≡ 64
  bits_count = rw length-map s.offsets

  pub before_back : length (front t ++ middle t) ≡ 520
  before_back =
      length-append (front t) (middle t)
      ∙ omega (arith, bytes_count 8 t.len, all_bytes_count 8 t.thresholds, s.thresholds)

  pub before_last : length (front t ++ middle t ++ back t) ≡ 776
  before_last =
      length-append (front t ++ middle t) (back t) ∙ omega (arith, before_back, all_bytes_count 4 (bits t), bits_count)

  pub image_count : length (image_of t) ≡ 784
  unfolding image_of
  image_count =
      length-append (front t ++ middle t ++ back t) (last t) ∙ omega (arith, before_last, bytes_count 8 t.expiry)

  pub length_written : (b : List ℕ) {x : List ℕ} → length b ≡ 784 → x ≡ sets b 0 (front t)
      → written_from t 0 x ≡ image_of t
  unfolding image_of
  length_written b l e =
      let all = image_count ∙ sym l in
      let parts = joined b 0 8 (front t) (middle t) e (omega (arith, bytes_count 8 t.len)) refl in
      let slots = joined b 0 520 (front t ++ middle t) (back t) parts (omega (arith, before_back)) refl in
      joined b 0 776 (front t ++ middle t ++ back t) (last t) slots (omega (arith, before_last)) refl
      ∙ sets-eq (front t ++ middle t ++ back t ++ last t) b 0 (omega arith) ∙ rw (zero-add, all, drop-length, append-nil)

  pub slot-written : (b : List ℕ) (i : ℕ) {x y : List ℕ} {v : ℕ} → i < 64
      → x ≡ sets b (8 + 8 * i) (bytes_of 8 (get_or t.thresholds i 0)) → v ≡ of_z w32 (get_or t.offsets i (pos 0))
      → y ≡ sets x (520 + 4 * i) (bytes_of 4 v) → slots_written_from t (i + 1) y ≡ slots_written_from t i b
  slot-written b i {x} {y} {v} l e f g =
      let rest = bytes_of_all 8 (drop (i + 1) t.thresholds) in
      let apart : 8 + 8 * (i + 1) + length rest ≤ 520 + 4 * i
      = rw (all_bytes_count, length-drop) (omega (arith, s.thresholds)) in
      let bits_are = f ∙ sym (get_or-map (of_z w32) t.offsets i (pos 0)) in
      rw (g, sets_apart rest (bytes_of 4 v) x (8 + 8 * (i + 1)) (520 + 4 * i) apart)
      (field-written _ (bits t) 4 520 i v (omega (arith, bits_count)) bits_are
      ∙ rw (e, field-written b t.thresholds 8 8 i _ (omega (arith, s.thresholds)) refl))

  pub all_slots_written : (b : List ℕ) (i : ℕ) → i ≡ 64 → slots_written_from t i b ≡ b
  all_slots_written b i e =
      all_fields_written _ (bits t) 4 (520 + 4 * i) i (e ∙ sym bits_count)
      ∙ all_fields_written b t.thresholds 8 (8 + 8 * i) i (e ∙ sym s.thresholds)

-- the test of the size decides
module _ {A : Type 0} (b : List ℕ) (x y : A) where
  pub of_size : length b ≡ 784 → x ≡ cond (sized b) x y
  of_size h = rw (eq-eqb (length b) 784 h)

  pub not_of_size : (length b ≡ 784 → ⊥) → y ≡ cond (sized b) x y
  not_of_size h = rw (ne_eqb (length b) 784 h)
