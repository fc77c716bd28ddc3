-- Demand 3 of the calls between GPS and UTC, pair by pair: it holds of whatever their contracts allow them to answer.
use Rattle.std.specs.Prelude.{◌≡◌, true, List, ℕ, ◌^◌, ◌≤◌, ◌<◌, length, Ok}
use Rattle.refusals.specs.Outcome.{Outcome, unless, outcome_in}
use Rattle.scales.specs.Answers.{gps_in, utc_in}
use Rattle.scales.specs.Scales.{tai_minus_gps}
use Rattle.tables.specs.Entries.{Entry, regular}
use Rattle.tables.specs.Slots.{entries_of}
use Rattle.tables.specs.declared.LeapTable.{LeapTable}
use Rattle.images.specs.Image.{image_bytes, table_in}
use Rattle.builtin.specs.Builtin.{builtin}
use Rattle.demands.specs.AnswersOf.gps_to_utc as gps_to_utc_lem
use Rattle.demands.specs.AnswersOf.utc_to_gps as utc_to_gps_lem
use Rattle.demands.specs.AnswersOf.image_utc_from_gps as image_utc_from_gps
use Rattle.demands.specs.AnswersOf.image_gps_from_utc as image_gps_from_utc
use Rattle.builtin.proofs.gps_to_utc.Reads as builtin_gps_to_utc
use Rattle.builtin.proofs.utc_to_gps.Reads as builtin_utc_to_gps
use Rattle.plaitgate.proofs.by_table.plaitgate_table_gps_to_utc.Reads as host_to_utc
use Rattle.plaitgate.proofs.by_table.plaitgate_table_utc_to_gps.Reads as host_to_gps
use Rattle.plaitgate.proofs.by_builtin.plaitgate_builtin_gps_to_utc.Reads as host_builtin_gps_to_utc
use Rattle.plaitgate.proofs.by_builtin.plaitgate_builtin_utc_to_gps.Reads as host_builtin_utc_to_gps
use Rattle.demands.specs.TwoInstants.{TwoInstants}

module _ {Lifetimes : Type 0} {Arguments Answer End : Lifetimes → Type 0}
    (Contract : (κ : Lifetimes) → Arguments κ → Answer κ → End κ → Type 0) where
  -- to arguments that ask so, the contract allows an answer that tells o
  abbrev pub Allows : {A : Type 0} (Asks : (κ : Lifetimes) → Arguments κ → Type 0)
      (tells : (κ : Lifetimes) → Answer κ → End κ → Outcome A) → Outcome A → Type 0
  Allows Asks tells o =
      (κ : Lifetimes) × (a : Arguments κ) × (r : Answer κ) × (e : End κ)
      × Asks κ a × Contract κ a r e × (tells κ r e ≡ o)

-- of a scale to UTC and back: whatever two calls answer to each count of 64 bits, as far as they are allowed to
abbrev pub TwoInstantsOf : List Entry → (lead : ℕ) → (There Back : ℕ → Outcome ℕ → Type 0) → Type 0
TwoInstantsOf es lead There Back =
    (there back : ℕ → Outcome ℕ) → ((n : ℕ) → n < 2 ^ 64 → There n (there n)) → ((u : ℕ) → u < 2 ^ 64 → Back u (back u))
    → TwoInstants es lead 0 there back

-- a table that says it has at most 64 entries, and they are regular
abbrev pub Regular : LeapTable → Type 0
Regular t = (t.len ≤ 64) × (regular (entries_of t) ≡ true)

-- ---- what the calls between GPS and UTC are allowed to answer: by a table, `conversions::gps_to_utc` and `utc_to_gps`
abbrev pub ToUtcByValue : LeapTable → ℕ → Outcome ℕ → Type 0
ToUtcByValue t g = Allows gps_to_utc_lem.Post (λ κ a. (a.0.0 ≡ g) × (a.1.0 ≡ t)) (λ κ r e. utc_in r)

abbrev pub ToGpsByValue : LeapTable → ℕ → Outcome ℕ → Type 0
ToGpsByValue t u = Allows utc_to_gps_lem.Post (λ κ a. (a.0.0 ≡ u) × (a.1.0 ≡ t)) (λ κ r e. gps_in r)

-- by an image, `images::table::utc_from_gps` and `gps_from_utc`
abbrev pub ToUtcInPlace : List ℕ → ℕ → Outcome ℕ → Type 0
ToUtcInPlace b g =
    Allows image_utc_from_gps.Post (λ κ a. (a.0 ≡ Ok g) × (a.1.0.now ≡ b)) (λ κ r e. outcome_in r)

abbrev pub ToGpsInPlace : List ℕ → ℕ → Outcome ℕ → Type 0
ToGpsInPlace b u =
    Allows image_gps_from_utc.Post (λ κ a. (a.0 ≡ Ok u) × (a.1.0.now ≡ b)) (λ κ r e. outcome_in r)

-- and for hosts, `plaitgate_table_gps_to_utc` and `plaitgate_table_utc_to_gps`
abbrev pub ToUtcExported : List ℕ → ℕ → Outcome ℕ → Type 0
ToUtcExported b g =
    Allows host_to_utc.Post (λ κ a. (a.0 ≡ g) × (a.1.0.now ≡ b)) (λ κ k e. unless k e.1.1.0.now)

abbrev pub ToGpsExported : List ℕ → ℕ → Outcome ℕ → Type 0
ToGpsExported b u =
    Allows host_to_gps.Post (λ κ a. (a.0 ≡ u) × (a.1.0.now ≡ b)) (λ κ k e. unless k e.1.1.0.now)

pub record Demand3 : Type 0 where
  pub by_value : (t : LeapTable) → Regular t
      → TwoInstantsOf (entries_of t) tai_minus_gps (ToUtcByValue t) (ToGpsByValue t)
  pub in_place : (b : List ℕ) → length b ≡ image_bytes → Regular (table_in b)
      → TwoInstantsOf (entries_of (table_in b)) tai_minus_gps (ToUtcInPlace b) (ToGpsInPlace b)
  -- `builtin::gps_to_utc` and `utc_to_gps`
  pub built_in : TwoInstantsOf builtin tai_minus_gps
      (λ g. Allows builtin_gps_to_utc.Post (λ κ a. a.0.0 ≡ g) (λ κ r e. utc_in r))
      (λ u. Allows builtin_utc_to_gps.Post (λ κ a. a.0.0 ≡ u) (λ κ r e. gps_in r))
  pub exported : (b : List ℕ) → length b ≡ image_bytes → Regular (table_in b)
      → TwoInstantsOf (entries_of (table_in b)) tai_minus_gps (ToUtcExported b) (ToGpsExported b)
  -- `plaitgate_builtin_gps_to_utc` and `plaitgate_builtin_utc_to_gps`
  pub exported_built_in : TwoInstantsOf builtin tai_minus_gps
      (λ g. Allows host_builtin_gps_to_utc.Post (λ κ a. a.0 ≡ g) (λ κ k e. unless k e.1.0.now))
      (λ u. Allows host_builtin_utc_to_gps.Post (λ κ a. a.0 ≡ u) (λ κ k e. unless k e.1.0.now))
