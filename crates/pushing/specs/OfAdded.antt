-- Of the calls between GPS and UTC by a table: what a run of accepted entries leaves as it was, and what a call says of two
-- tables. It holds of whatever the contracts allow the calls to answer.
use Rattle.std.specs.Prelude.{◌≡◌, List, ◌∷◌, ℕ, ◌^◌, ◌≤◌, ◌<◌, length, pos}
use Rattle.refusals.specs.Outcome.{Outcome, answered, unless, outcome_in}
use Rattle.tables.specs.Entries.{Entry}
use Rattle.tables.specs.Slots.{table_of, extension_refusal, extended}
use Rattle.tables.specs.declared.LeapTable.{LeapTable}
use Rattle.images.specs.Image.{image_bytes, table_in}
use Rattle.alike.specs.declared.Alike.{Alike}
use Rattle.alike.specs.declared.Alike.TheVariants as how
use Rattle.alike.proofs.by_value.alike.Reads as alike_by_value
use Rattle.alike.proofs.by_image.alike.Reads as alike_by_image
use Rattle.plaitgate.specs.Tables.{alike_as, in_numbers}
use Rattle.plaitgate.proofs.leap_tables.plaitgate_table_alike.Reads as host_alike
use Rattle.demands.specs.OfCalls.{Allows, Regular, ToUtcByValue, ToGpsByValue, ToUtcInPlace, ToGpsInPlace}
use Rattle.demands.specs.OfCalls.{ToUtcExported, ToGpsExported}
use Rattle.pushing.specs.SameBefore.{gps_from, utc_from, SameBefore}
use Rattle.pushing.specs.AddedEntries.{after}
use Rattle.pushing.specs.AlikeLists.{AlikeBefore}

-- whatever two pairs of calls answer to each count of 64 bits, as far as they are allowed to
abbrev pub OfAnswers : (There There' Back Back' : ℕ → Outcome ℕ → Type 0)
    → ((there there' back back' : ℕ → Outcome ℕ) → Type 0) → Type 0
OfAnswers There There' Back Back' Fact =
    (there there' back back' : ℕ → Outcome ℕ)
    → ((g : ℕ) → g < 2 ^ 64 → There g (there g)) → ((g : ℕ) → g < 2 ^ 64 → There' g (there' g))
    → ((u : ℕ) → u < 2 ^ 64 → Back u (back u)) → ((u : ℕ) → u < 2 ^ 64 → Back' u (back' u))
    → Fact there there' back back'

-- each array of a table has 64 slots, as its type says
abbrev pub Slots64 : LeapTable → Type 0
Slots64 t = (length t.thresholds ≡ 64) × (length t.offsets ≡ 64)

-- a regular table takes an entry, and then a run of entries, of which some may be refused: before the entry nothing changes
pub record AddedOfCalls : Type 0 where
  -- every table that is built has them
  pub slots : (es : List Entry) → length es ≤ 64 → Slots64 (table_of es)
  pub by_value : (t : LeapTable) (e : Entry) (run : List Entry) → Slots64 t → Regular t → extension_refusal t e ≡ 0
      → let t' = after extended t (e ∷ run) in
      OfAnswers (ToUtcByValue t) (ToUtcByValue t') (ToGpsByValue t) (ToGpsByValue t') (SameBefore (gps_from e) (utc_from e))
  pub in_place : (b b' : List ℕ) (e : Entry) (run : List Entry) → length b ≡ image_bytes → length b' ≡ image_bytes
      → Regular (table_in b) → extension_refusal (table_in b) e ≡ 0 → table_in b' ≡ after extended (table_in b) (e ∷ run)
      → OfAnswers (ToUtcInPlace b) (ToUtcInPlace b') (ToGpsInPlace b) (ToGpsInPlace b') (SameBefore (gps_from e) (utc_from e))
  pub exported : (b b' : List ℕ) (e : Entry) (run : List Entry) → length b ≡ image_bytes → length b' ≡ image_bytes
      → Regular (table_in b) → extension_refusal (table_in b) e ≡ 0 → table_in b' ≡ after extended (table_in b) (e ∷ run)
      → OfAnswers (ToUtcExported b) (ToUtcExported b') (ToGpsExported b) (ToGpsExported b') (SameBefore (gps_from e) (utc_from e))

-- what is told of two tables holds of their conversions
abbrev pub Holds : Alike → (there there' back back' : ℕ → Outcome ℕ) → Type 0
Holds how.Everywhere there there' back back' = (n : ℕ) → n < 2 ^ 64 → (there' n ≡ there n) × (back' n ≡ back n)
Holds (how.Before c) there there' back back' = AlikeBefore (pos c.gps) (pos c.utc) there there' back back'
Holds (how.Apart c) there there' back back' = AlikeBefore (pos c.gps) (pos c.utc) there there' back back'
Holds how.Irregular there there' back back' = Unit {0}

pub record AlikeOfCalls : Type 0 where
  -- `alike::by_value::alike`
  pub by_value : (t t' : LeapTable) (x : Alike)
      → Allows alike_by_value.Post (λ κ a. (a.0 ≡ t) × (a.1.0 ≡ t')) (λ κ r e. outcome_in r) (answered x)
      → OfAnswers (ToUtcByValue t) (ToUtcByValue t') (ToGpsByValue t) (ToGpsByValue t') (Holds x)
  -- `alike::by_image::alike`
  pub in_place : (b b' : List ℕ) (x : Alike)
      → Allows alike_by_image.Post (λ κ a. (a.0.now ≡ b) × (a.1.0.now ≡ b')) (λ κ r e. outcome_in r) (answered x)
      → OfAnswers (ToUtcInPlace b) (ToUtcInPlace b') (ToGpsInPlace b) (ToGpsInPlace b') (Holds x)
  -- `plaitgate_table_alike`
  pub exported : (b b' : List ℕ) (x : Alike)
      → Allows host_alike.Post (λ κ a. (a.0.now ≡ b) × (a.1.0.now ≡ b'))
      (λ κ k e. unless k (alike_as e.1.1.0.now e.1.1.1.0.now e.1.1.1.1.0.now)) (answered (in_numbers x))
      → OfAnswers (ToUtcExported b) (ToUtcExported b') (ToGpsExported b) (ToGpsExported b') (Holds x)
