-- Civil readings of the calls between GPS and civil time, pair by pair: `CivilReadings` holds of whatever their contracts
-- allow them to answer.
use Rattle.std.specs.Prelude.{◌≡◌, true, List, ℕ, ◌^◌, ◌≤◌, ◌<◌, length}
use Rattle.refusals.specs.Outcome.{Outcome, unless, outcome_in}
use Rattle.scales.specs.Answers.{gps_in}
use Rattle.civil.specs.Fields.{fields}
use Rattle.civil.specs.declared.CivilDateTime.{CivilDateTime}
use Rattle.tables.specs.Entries.{Entry, on_days}
use Rattle.tables.specs.Slots.{entries_of}
use Rattle.tables.specs.declared.LeapTable.{LeapTable}
use Rattle.images.specs.Image.{image_bytes, table_in}
use Rattle.builtin.specs.Builtin.{builtin}
use Rattle.readings.proofs.by_builtin.gps_to_civil.Reads as builtin_gps_to_civil
use Rattle.readings.proofs.by_builtin.civil_to_gps.Reads as builtin_civil_to_gps
use Rattle.plaitgate.proofs.civil_readings.plaitgate_table_gps_to_civil.Reads as host_to_civil
use Rattle.plaitgate.proofs.civil_readings.plaitgate_table_civil_to_gps.Reads as host_to_gps
use Rattle.plaitgate.proofs.civil_readings.plaitgate_builtin_gps_to_civil.Reads as host_builtin_to_civil
use Rattle.plaitgate.proofs.civil_readings.plaitgate_builtin_civil_to_gps.Reads as host_builtin_to_gps
use Rattle.demands.specs.AnswersOf.image_gps_to_civil as image_gps_to_civil
use Rattle.demands.specs.AnswersOf.image_civil_to_gps as image_civil_to_gps
use Rattle.demands.specs.OfCalls.{Allows}
use Rattle.demands.specs.CivilReadings.{CivilReadings}

-- whatever two calls answer, to each count of 64 bits and to any fields, as far as they are allowed to
abbrev pub CivilReadingsOf : List Entry → (There : ℕ → Outcome CivilDateTime → Type 0)
    → (Back : CivilDateTime → Outcome ℕ → Type 0) → Type 0
CivilReadingsOf es There Back =
    (there : ℕ → Outcome CivilDateTime) (back : CivilDateTime → Outcome ℕ)
    → ((g : ℕ) → g < 2 ^ 64 → There g (there g)) → ((c : CivilDateTime) → Back c (back c))
    → CivilReadings es there back

-- a table that says it has at most 64 entries, and they are on days
abbrev pub OnDays : LeapTable → Type 0
OnDays t = (t.len ≤ 64) × (on_days (entries_of t) ≡ true)

pub record ReadingCalls : Type 0 where
  -- `readings::by_image::gps_to_civil` and `civil_to_gps`, by an image
  pub in_place : (b : List ℕ) → length b ≡ image_bytes → OnDays (table_in b) → CivilReadingsOf (entries_of (table_in b))
      (λ g. Allows image_gps_to_civil.Post (λ κ a. (a.0.0 ≡ g) × (a.1.0.now ≡ b)) (λ κ r e. outcome_in r))
      (λ c. Allows image_civil_to_gps.Post (λ κ a. (a.0 ≡ c) × (a.1.0.now ≡ b)) (λ κ r e. outcome_in r))
  -- `readings::by_builtin::gps_to_civil` and `civil_to_gps`
  pub built_in : CivilReadingsOf builtin
      (λ g. Allows builtin_gps_to_civil.Post (λ κ a. a.0.0 ≡ g) (λ κ r e. outcome_in r))
      (λ c. Allows builtin_civil_to_gps.Post (λ κ a. a.0 ≡ c) (λ κ r e. gps_in r))
  -- `plaitgate_table_gps_to_civil` and `plaitgate_table_civil_to_gps`, by an image
  pub exported : (b : List ℕ) → length b ≡ image_bytes → OnDays (table_in b) → CivilReadingsOf (entries_of (table_in b))
      (λ g. Allows host_to_civil.Post (λ κ a. (a.0 ≡ g) × (a.1.0.now ≡ b)) (λ κ k e.
      let f = e.1.1 in
      unless k (fields f.0.now f.1.0.now f.1.1.0.now f.1.1.1.0.now f.1.1.1.1.0.now
      f.1.1.1.1.1.0.now f.1.1.1.1.1.1.0.now)))
      (λ c. Allows host_to_gps.Post (λ κ a.
      (fields a.0 a.1.0 a.1.1.0 a.1.1.1.0 a.1.1.1.1.0 a.1.1.1.1.1.0
      a.1.1.1.1.1.1.0 ≡ c) × (a.1.1.1.1.1.1.1.0.now ≡ b))
      (λ κ k e. unless k e.1.1.1.1.1.1.1.1.0.now))
  -- `plaitgate_builtin_gps_to_civil` and `plaitgate_builtin_civil_to_gps`
  pub exported_built_in : CivilReadingsOf builtin
      (λ g. Allows host_builtin_to_civil.Post (λ κ a. a.0 ≡ g) (λ κ k e.
      let f = e.1 in
      unless k (fields f.0.now f.1.0.now f.1.1.0.now f.1.1.1.0.now f.1.1.1.1.0.now
      f.1.1.1.1.1.0.now f.1.1.1.1.1.1.0.now)))
      (λ c. Allows host_builtin_to_gps.Post (λ κ a.
      fields a.0 a.1.0 a.1.1.0 a.1.1.1.0 a.1.1.1.1.0 a.1.1.1.1.1.0
      a.1.1.1.1.1.1.0 ≡ c)
      (λ κ k e. unless k e.1.1.1.1.1.1.1.0.now))
