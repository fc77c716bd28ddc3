-- Of a call that answers and tells whether its table is stale: what its contract says of the answer alone.
pub mod gps_to_utc
pub mod utc_to_gps
pub mod image_utc_from_gps
pub mod image_gps_from_utc
pub mod image_utc_from_shifted
pub mod image_shifted_from_utc
pub mod image_gps_to_civil
pub mod image_civil_to_gps
pub mod galileo_to_utc
pub mod utc_to_galileo
pub mod beidou_to_utc
pub mod utc_to_beidou
use Rattle.std.specs.Prelude.{◌≡◌}

module _ {Lifetimes : Type 0} {Arguments Dated End : Lifetimes → Type 0}
    (Contract : (κ : Lifetimes) → Arguments κ → Dated κ → End κ → Type 0) where
  -- a contract with the same arguments, for another kind of answer
  abbrev pub About : Type 0 → Type 1
  About Answer = (κ : Lifetimes) → Arguments κ → Answer → End κ → Type 0

  -- the contract allows this answer, with a yes or with a no
  abbrev pub OfAnswer : {Answer : Type 0} → ((κ : Lifetimes) → Dated κ → Answer) → About Answer
  OfAnswer answer κ a r e = (d : Dated κ) × (answer κ d ≡ r) × Contract κ a d e
