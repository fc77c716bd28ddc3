-- Written by tools/write-scales from its template in tools/templates.
-- Demand 3 of the calls between UTC and a scale whose counts are those of GPS less a fixed number: TAI − the scale is
-- 19 s and that number. First for any such number, then of the calls of each scale, pair by pair.
use Rattle.std.specs.Prelude.{◌≡◌, List, ℕ, ◌+◌, length, Ok}
use Rattle.refusals.specs.Outcome.{unless, outcome_in}
use Rattle.scales.specs.Answers.{utc_in, galileo_in, beidou_in}
use Rattle.scales.specs.Scales.{tai_minus_gps, gps_minus_galileo, gps_minus_beidou}
use Rattle.tables.specs.Slots.{entries_of}
use Rattle.tables.specs.declared.LeapTable.{LeapTable}
use Rattle.images.specs.Image.{image_bytes, table_in}
use Rattle.builtin.specs.Builtin.{builtin}
use Rattle.demands.specs.AnswersOf.image_utc_from_shifted as image_utc_from_shifted
use Rattle.demands.specs.AnswersOf.image_shifted_from_utc as image_shifted_from_utc
use Rattle.demands.specs.AnswersOf.galileo_to_utc as galileo_to_utc
use Rattle.demands.specs.AnswersOf.utc_to_galileo as utc_to_galileo
use Rattle.builtin.proofs.by_builtin.GalileoByBuiltin.to_utc.Reads as builtin_galileo_to_utc
use Rattle.builtin.proofs.by_builtin.GalileoByBuiltin.from_utc.Reads as builtin_utc_to_galileo
use Rattle.plaitgate.proofs.shifted.GalileoHostShifted.table_scale_to_utc.Reads as host_galileo_to_utc
use Rattle.plaitgate.proofs.shifted.GalileoHostShifted.table_utc_to_scale.Reads as host_utc_to_galileo
use Rattle.plaitgate.proofs.shifted.GalileoHostShifted.builtin_scale_to_utc.Reads as host_builtin_galileo_to_utc
use Rattle.plaitgate.proofs.shifted.GalileoHostShifted.builtin_utc_to_scale.Reads as host_builtin_utc_to_galileo
use Rattle.demands.specs.AnswersOf.beidou_to_utc as beidou_to_utc
use Rattle.demands.specs.AnswersOf.utc_to_beidou as utc_to_beidou
use Rattle.builtin.proofs.by_builtin.BeidouByBuiltin.to_utc.Reads as builtin_beidou_to_utc
use Rattle.builtin.proofs.by_builtin.BeidouByBuiltin.from_utc.Reads as builtin_utc_to_beidou
use Rattle.plaitgate.proofs.shifted.BeidouHostShifted.table_scale_to_utc.Reads as host_beidou_to_utc
use Rattle.plaitgate.proofs.shifted.BeidouHostShifted.table_utc_to_scale.Reads as host_utc_to_beidou
use Rattle.plaitgate.proofs.shifted.BeidouHostShifted.builtin_scale_to_utc.Reads as host_builtin_beidou_to_utc
use Rattle.plaitgate.proofs.shifted.BeidouHostShifted.builtin_utc_to_scale.Reads as host_builtin_utc_to_beidou
use Rattle.demands.specs.OfCalls.{Allows, TwoInstantsOf, Regular}

pub record Demand3Shifted : Type 0 where
  -- `images::table::utc_from_shifted` and `shifted_from_utc`, by any number d and an image
  pub in_place : (d : ℕ) (b : List ℕ) → length b ≡ image_bytes → Regular (table_in b)
      → TwoInstantsOf (entries_of (table_in b)) (tai_minus_gps + d)
      (λ n. Allows image_utc_from_shifted.Post
      (λ κ a. (a.0 ≡ Ok n) × (a.1.0.now ≡ b) × (a.1.1.0 ≡ d)) (λ κ r e. outcome_in r))
      (λ u. Allows image_shifted_from_utc.Post
      (λ κ a. (a.0 ≡ Ok u) × (a.1.0.now ≡ b) × (a.1.1.0 ≡ d)) (λ κ r e. outcome_in r))
  -- Galileo, by a table
  pub galileo_by_value : (t : LeapTable) → Regular t → TwoInstantsOf (entries_of t) (tai_minus_gps + gps_minus_galileo)
      (λ n. Allows galileo_to_utc.Post (λ κ a. (a.0.0 ≡ n) × (a.1.0 ≡ t)) (λ κ r e. utc_in r))
      (λ u. Allows utc_to_galileo.Post (λ κ a. (a.0.0 ≡ u) × (a.1.0 ≡ t)) (λ κ r e. galileo_in r))
  pub galileo_built_in : TwoInstantsOf builtin (tai_minus_gps + gps_minus_galileo)
      (λ n. Allows builtin_galileo_to_utc.Post (λ κ a. a.0.0 ≡ n) (λ κ r e. utc_in r))
      (λ u. Allows builtin_utc_to_galileo.Post (λ κ a. a.0.0 ≡ u) (λ κ r e. galileo_in r))
  -- and for hosts
  pub galileo_exported : (b : List ℕ) → length b ≡ image_bytes → Regular (table_in b)
      → TwoInstantsOf (entries_of (table_in b)) (tai_minus_gps + gps_minus_galileo)
      (λ n. Allows host_galileo_to_utc.Post (λ κ a. (a.0 ≡ n) × (a.1.0.now ≡ b))
      (λ κ k e. unless k e.1.1.0.now))
      (λ u. Allows host_utc_to_galileo.Post (λ κ a. (a.0 ≡ u) × (a.1.0.now ≡ b))
      (λ κ k e. unless k e.1.1.0.now))
  pub galileo_exported_built_in : TwoInstantsOf builtin (tai_minus_gps + gps_minus_galileo)
      (λ n. Allows host_builtin_galileo_to_utc.Post (λ κ a. a.0 ≡ n) (λ κ k e. unless k e.1.0.now))
      (λ u. Allows host_builtin_utc_to_galileo.Post (λ κ a. a.0 ≡ u) (λ κ k e. unless k e.1.0.now))
  -- BeiDou, by a table
  pub beidou_by_value : (t : LeapTable) → Regular t → TwoInstantsOf (entries_of t) (tai_minus_gps + gps_minus_beidou)
      (λ n. Allows beidou_to_utc.Post (λ κ a. (a.0.0 ≡ n) × (a.1.0 ≡ t)) (λ κ r e. utc_in r))
      (λ u. Allows utc_to_beidou.Post (λ κ a. (a.0.0 ≡ u) × (a.1.0 ≡ t)) (λ κ r e. beidou_in r))
  pub beidou_built_in : TwoInstantsOf builtin (tai_minus_gps + gps_minus_beidou)
      (λ n. Allows builtin_beidou_to_utc.Post (λ κ a. a.0.0 ≡ n) (λ κ r e. utc_in r))
      (λ u. Allows builtin_utc_to_beidou.Post (λ κ a. a.0.0 ≡ u) (λ κ r e. beidou_in r))
  -- and for hosts
  pub beidou_exported : (b : List ℕ) → length b ≡ image_bytes → Regular (table_in b)
      → TwoInstantsOf (entries_of (table_in b)) (tai_minus_gps + gps_minus_beidou)
      (λ n. Allows host_beidou_to_utc.Post (λ κ a. (a.0 ≡ n) × (a.1.0.now ≡ b))
      (λ κ k e. unless k e.1.1.0.now))
      (λ u. Allows host_utc_to_beidou.Post (λ κ a. (a.0 ≡ u) × (a.1.0.now ≡ b))
      (λ κ k e. unless k e.1.1.0.now))
  pub beidou_exported_built_in : TwoInstantsOf builtin (tai_minus_gps + gps_minus_beidou)
      (λ n. Allows host_builtin_beidou_to_utc.Post (λ κ a. a.0 ≡ n) (λ κ k e. unless k e.1.0.now))
      (λ u. Allows host_builtin_utc_to_beidou.Post (λ κ a. a.0 ≡ u) (λ κ k e. unless k e.1.0.now))
