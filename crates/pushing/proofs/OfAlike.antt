-- What a call tells of two tables holds of the conversions by them: by its contract it tells what `alike` does of their
-- lists, and it tells something only of valid tables.
use mathlib.Core.Path.{◌≡◌, refl, sym, ap, ◌∙◌}
use mathlib.Core.Bool.{Bool, true, false, cond}
use mathlib.Core.List.{List}
use Prim.Native.Nat.{ℕ, ◌^◌, ◌<◌}
use native.Mathlib.Omega.{arith}
use borrow.Author.Tests.{eqb-true}
use lib.Dec.{eqb}
use lib.ListN.{length}
use Rattle.refusals.specs.Outcome.{Outcome, answered, refused, changed}
use Rattle.refusals.proofs.Given.{Numbered, told_is}
use Rattle.tables.specs.Entries.{Entry}
use Rattle.tables.specs.Slots.{entries_of, valid_table, of_valid}
use Rattle.tables.specs.declared.LeapTable.{LeapTable}
use Rattle.tables.proofs.Checked.{good}
use Rattle.images.specs.Image.{sized, image_bytes, table_in, by_image}
use Rattle.conversions.specs.Conversions.{gps_to_utc, utc_to_gps}
use Rattle.alike.specs.Alike.{counts, alike}
use Rattle.alike.specs.declared.Alike.{Alike}
use Rattle.alike.specs.declared.Alike.TheVariants as how
use Rattle.plaitgate.specs.Tables.{AlikeTold, alike_as, in_numbers}
use Rattle.pushing.specs.OfAdded.{OfAnswers, Holds, AlikeOfCalls}
use Rattle.demands.proofs.AnswerOrRefusal.{by_image_numbered}
use Rattle.demands.proofs.Demand3.{value_to_utc, value_to_gps, image_to_utc, image_to_gps, host_to_utc, host_to_gps}
use Rattle.pushing.proofs.AlikeLists.{changed-from, alike-lists}
use Rattle.pushing.proofs.PartedLists.{clash}
use Rattle.pushing.proofs.OfAdded.{alike_of}

-- what is told by lists holds of them
holds : (es fs : List Entry) (x : Alike) → alike es fs ≡ answered x
    → Holds x (gps_to_utc es) (gps_to_utc fs) (utc_to_gps es) (utc_to_gps fs)
holds es fs how.Everywhere e =
    let same = (alike-lists es fs).everywhere.0 e in
    λ n l. (ap (λ (xs : List Entry). gps_to_utc xs n) (sym same), ap (λ (xs : List Entry). utc_to_gps xs n) (sym same))
holds es fs (how.Before c) e = ((alike-lists es fs).before c e).1
holds es fs (how.Apart c) e = ((alike-lists es fs).apart c e).1
holds es fs how.Irregular e = tt

-- and of what answers as they do
module _ {there there' back back' f f' g g' : ℕ → Outcome ℕ} (a : (n : ℕ) → n < 2 ^ 64 → there n ≡ f n)
    (a' : (n : ℕ) → n < 2 ^ 64 → there' n ≡ f' n) (b : (n : ℕ) → n < 2 ^ 64 → back n ≡ g n)
    (b' : (n : ℕ) → n < 2 ^ 64 → back' n ≡ g' n) where
  holds_of : (x : Alike) → Holds x f f' g g' → Holds x there there' back back'
  holds_of how.Everywhere h =
      λ n l. (a' n l ∙ (h n l).0 ∙ sym (a n l), b' n l ∙ (h n l).1 ∙ sym (b n l))
  holds_of (how.Before c) h = alike_of a a' b b' h
  holds_of (how.Apart c) h = alike_of a a' b b' h
  holds_of how.Irregular h = tt

-- something is told: the test before it was passed
passed : {A : Type 0} (v : Bool) {o : Outcome A} {x : A} → cond v o (refused 8) ≡ answered x → (v ≡ true) × (o ≡ answered x)
passed true e = (refl, e)
passed false e = clash (cc)

module _ (t t' : LeapTable) (x : Alike) (told : of_valid t (of_valid t' (alike (entries_of t) (entries_of t'))) ≡ answered x) where
  old_valid : valid_table t ≡ true
  old_valid = (passed (valid_table t) told).0

  new_valid : valid_table t' ≡ true
  new_valid = (passed (valid_table t') (passed (valid_table t) told).1).0

  by_lists : alike (entries_of t) (entries_of t') ≡ answered x
  by_lists = (passed (valid_table t') (passed (valid_table t) told).1).1

  of_tables : {There There' Back Back' : ℕ → Outcome ℕ → Type 0}
      → ((n : ℕ) (o : Outcome ℕ) → There n o → o ≡ of_valid t (gps_to_utc (entries_of t) n))
      → ((n : ℕ) (o : Outcome ℕ) → There' n o → o ≡ of_valid t' (gps_to_utc (entries_of t') n))
      → ((n : ℕ) (o : Outcome ℕ) → Back n o → o ≡ of_valid t (utc_to_gps (entries_of t) n))
      → ((n : ℕ) (o : Outcome ℕ) → Back' n o → o ≡ of_valid t' (utc_to_gps (entries_of t') n))
      → OfAnswers There There' Back Back' (Holds x)
  of_tables a a' b b' there there' back back' h h' k k' =
      holds_of {f = gps_to_utc (entries_of t)} {f' = gps_to_utc (entries_of t')} {g = utc_to_gps (entries_of t)} {g' = utc_to_gps (entries_of t')}
      (λ n l. a n (there n) (h n l) ∙ sym (good t _ old_valid)) (λ n l. a' n (there' n) (h' n l) ∙ sym (good t' _ new_valid))
      (λ n l. b n (back n) (k n l) ∙ sym (good t _ old_valid)) (λ n l. b' n (back' n) (k' n l) ∙ sym (good t' _ new_valid))
      x (holds (entries_of t) (entries_of t') x by_lists)

-- ---- by images
module _ (b b' : List ℕ) where
  abbrev of_images : Outcome Alike
  of_images = by_image b (λ es. by_image b' (λ fs. alike es fs))

  module _ (x : Alike) (told : of_images ≡ answered x) where
    in_old : of_valid (table_in b) (by_image b' (λ fs. alike (entries_of (table_in b)) fs)) ≡ answered x
    in_old = (passed (sized b) told).1

    in_new : by_image b' (λ fs. alike (entries_of (table_in b)) fs) ≡ answered x
    in_new = (passed (valid_table (table_in b)) in_old).1

    pub old_size : length b ≡ image_bytes
    old_size = eqb-true (length b) image_bytes (passed (sized b) told).0

    pub new_size : length b' ≡ image_bytes
    new_size = eqb-true (length b') image_bytes (passed (sized b') in_new).0

    pub by_tables : of_valid (table_in b) (of_valid (table_in b') (alike (entries_of (table_in b)) (entries_of (table_in b')))) ≡ answered x
    by_tables = rw (passed (valid_table (table_in b)) in_old).0 (passed (sized b') in_new).1

-- ---- for hosts: a refusal has a number other than 0, and the numbers tell the answer
numbered_by : {A : Type 0} (o : Outcome A) → ((k : ℕ) → o ≡ refused k → k ≡ 1) → Numbered o
numbered_by (answered a) h = tt
numbered_by (refused k) h = λ z. omega (arith, h k refl)

numbered-changed : {A B : Type 0} (f : A → B) (o : Outcome A) → Numbered o → Numbered (changed f o)
numbered-changed f (answered a) n = tt
numbered-changed f (refused k) n = n

images_numbered : (b b' : List ℕ) → Numbered (changed in_numbers (of_images b b'))
images_numbered b b' =
    numbered-changed in_numbers (of_images b b')
    (by_image_numbered b (λ es. by_image b' (λ fs. alike es fs)) (λ es. by_image_numbered b' (λ fs. alike es fs) (λ fs.
    numbered_by (alike es fs) (λ k e. ((alike-lists es fs).refused_by k e).0))))

abbrev as_told : AlikeTold → Alike
as_told a =
    let c = counts a.gps a.utc in
    cond (eqb a.how 0) how.Irregular
    (cond (eqb a.how 1) how.Everywhere (cond (eqb a.how 2) (how.Before c) (how.Apart c)))

as_told_lem : (x : Alike) → as_told (in_numbers x) ≡ x
as_told_lem how.Everywhere = refl
as_told_lem how.Irregular = refl
as_told_lem (how.Before c) = refl
as_told_lem (how.Apart c) = refl

numbers_tell : (x y : Alike) → in_numbers x ≡ in_numbers y → x ≡ y
numbers_tell x y e = sym (as_told_lem x) ∙ ap as_told e ∙ as_told_lem y

from_numbers : (o : Outcome Alike) (x : Alike) → changed in_numbers o ≡ answered (in_numbers x) → o ≡ answered x
from_numbers o x e =
    let (y, is, same) = changed-from in_numbers o e in
    is ∙ ap answered (numbers_tell y x same)

pub alike_of_calls : AlikeOfCalls
alike_of_calls = record {
  by_value = λ t t' x (κ, a, r, e, (is, is'), post, tells).
      of_tables t t' x
      (sym (post ∙ (λ i. of_valid (is i) (of_valid (is' i) (alike (entries_of (is i)) (entries_of (is' i)))))) ∙ tells)
      (value_to_utc t) (value_to_utc t') (value_to_gps t) (value_to_gps t');
  in_place = λ b b' x (κ, a, r, e, (is, is'), post, tells).
      let told : of_images b b' ≡ answered x = sym (post ∙ (λ i. of_images (is i) (is' i))) ∙ tells in
      let size = old_size b b' x told in
      let size' = new_size b b' x told in
      of_tables (table_in b) (table_in b') x (by_tables b b' x told)
      (image_to_utc b size) (image_to_utc b' size') (image_to_gps b size) (image_to_gps b' size');
  exported = λ b b' x (κ, a, k, e, (is, is'), post, tells).
      let given = told_is (alike_as 0 0 0) (changed in_numbers (of_images a.0.now a.1.0.now))
      (images_numbered a.0.now a.1.0.now) post in
      let told : of_images b b' ≡ answered x
      = from_numbers (of_images b b') x (sym (given ∙ (λ i. changed in_numbers (of_images (is i) (is' i)))) ∙ tells) in
      let size = old_size b b' x told in
      let size' = new_size b b' x told in
      of_tables (table_in b) (table_in b') x (by_tables b b' x told)
      (host_to_utc b size) (host_to_utc b' size') (host_to_gps b size) (host_to_gps b' size');
}
