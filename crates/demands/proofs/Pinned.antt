-- What demand 3 supposes is no more than it says: a table is `Regular` exactly if the rules call it so, and the
-- definitions themselves are answers that the contracts allow. So are those of civil readings.
use Rattle.std.specs.Prelude.{Err, Ok, Result}
use mathlib.Core.Path.{◌≡◌, refl}
use mathlib.Core.Logic.{◌↔◌}
use Prim.Native.Nat.{ℕ, ◌≤◌}
use Rattle.refusals.specs.declared.Refusal.{Refusal}
use Rattle.refusals.specs.Outcome.{Outcome, outcome_in}
use Rattle.scales.specs.Answers.{gps_in, utc_in}
use Rattle.civil.specs.declared.CivilDateTime.{CivilDateTime}
use Rattle.tables.specs.Slots.{entries_of}
use Rattle.tables.specs.declared.LeapTable.{LeapTable}
use Rattle.tables.proofs.Tested as exactly
use Rattle.conversions.specs.Conversions.{gps_to_utc, utc_to_gps}
use Rattle.builtin.specs.Builtin.{builtin}
use Rattle.builtin.proofs.gps_to_utc.Reads as builtin_gps_to_utc
use Rattle.builtin.proofs.utc_to_gps.Reads as builtin_utc_to_gps
use Rattle.readings.specs.Readings.{gps_to_civil, civil_to_gps}
use Rattle.readings.proofs.by_builtin.gps_to_civil.Reads as builtin_gps_to_civil
use Rattle.readings.proofs.by_builtin.civil_to_gps.Reads as builtin_civil_to_gps
use Rattle.demands.specs.OfCalls.{Allows, Regular}
use Rattle.demands.proofs.AnswerOrRefusal.{to_utc, to_gps, gps_to_civil_lem, civil_to_gps_lem}
use Rattle.scales.specs.declared.gps.Gps.{Gps}
use Rattle.scales.specs.declared.utc.Utc.{Utc}

-- at most 64 entries, and regular by the record with a day's nanoseconds written out
pub regular_exactly : (t : LeapTable) → Regular t ↔ ((t.len ≤ 64) × exactly.Regular (entries_of t))
regular_exactly t = (
  λ (short, r). (short, (exactly.regular_tested (entries_of t)).0 r),
  λ (short, r). (short, (exactly.regular_tested (entries_of t)).1 r),
)

-- each outcome of a conversion is told by some answer, so what the definitions say is allowed
pub there_allowed : (g : ℕ)
    → Allows builtin_gps_to_utc.Post (λ κ a. a.0.0 ≡ g) (λ κ r e. utc_in r) (gps_to_utc builtin g)
there_allowed g =
    let (r, is) =
    to_utc (λ (o : Outcome ℕ). (r : Result Utc Refusal) × (utc_in r ≡ o)) (λ n. (Ok (record { 0 = n }), refl))
    (λ w. (Err w, refl)) builtin g in
    (tt, (record { 0 = g }, tt), r, (record { 0 = g }, tt), refl, is, is)

pub back_allowed : (u : ℕ) → Allows builtin_utc_to_gps.Post (λ κ a. a.0.0 ≡ u) (λ κ r e. gps_in r) (utc_to_gps builtin u)
back_allowed u =
    let (r, is) =
    to_gps (λ (o : Outcome ℕ). (r : Result Gps Refusal) × (gps_in r ≡ o)) (λ n. (Ok (record { 0 = n }), refl))
    (λ w. (Err w, refl)) builtin u in
    (tt, (record { 0 = u }, tt), r, (record { 0 = u }, tt), refl, is, is)

pub reading_allowed : (g : ℕ)
    → Allows builtin_gps_to_civil.Post (λ κ a. a.0.0 ≡ g) (λ κ r e. outcome_in r) (gps_to_civil builtin g)
reading_allowed g =
    let (r, is) =
    gps_to_civil_lem (λ (o : Outcome CivilDateTime). (r : Result CivilDateTime Refusal) × (outcome_in r ≡ o)) (λ c. (Ok c, refl))
    (λ w. (Err w, refl)) builtin g in
    (tt, (record { 0 = g }, tt), r, (record { 0 = g }, tt), refl, is, is)

-- of any fields
pub fields_allowed : (c : CivilDateTime)
    → Allows builtin_civil_to_gps.Post (λ κ a. a.0 ≡ c) (λ κ r e. gps_in r) (civil_to_gps builtin c)
fields_allowed c =
    let (r, is) =
    civil_to_gps_lem (λ (o : Outcome ℕ). (r : Result Gps Refusal) × (gps_in r ≡ o)) (λ n. (Ok (record { 0 = n }), refl))
    (λ w. (Err w, refl)) builtin c in
    (tt, (c, tt), r, (c, tt), refl, is, is)
