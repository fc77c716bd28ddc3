-- Each call of this crate leaves one answer for each input.
pub mod Galileo
pub mod Beidou
use mathlib.Core.Path.{sym, ◌∙◌}
use Rattle.refusals.proofs.Tells.{outcome_tells}
use Rattle.refusals.proofs.OneAnswer.{OneAnswer, viewed}
use Rattle.scales.proofs.Tells.{gps_tells, utc_tells, glonass_tells}
use Rattle.builtin.proofs.events.entry_of_event.Reads as entry_of_event_contract
use Rattle.builtin.proofs.epochs.ScaleEpoch.leap_seconds.Reads as leap_seconds_contract
use Rattle.builtin.proofs.from_builtin.Reads as from_builtin_contract
use Rattle.builtin.proofs.tai_minus_utc_at.Reads as tai_minus_utc_at_contract
use Rattle.builtin.proofs.gps_to_utc.Reads as gps_to_utc_contract
use Rattle.builtin.proofs.utc_to_gps.Reads as utc_to_gps_contract
use Rattle.builtin.proofs.glonass_to_gps.Reads as glonass_to_gps_contract
use Rattle.builtin.proofs.gps_to_glonass.Reads as gps_to_glonass_contract
use Rattle.builtin.proofs.gps_from_unix_seconds.Reads as gps_from_unix_seconds_contract
use Rattle.builtin.proofs.gps_as_unix_seconds.Reads as gps_as_unix_seconds_contract

pub from-builtin : OneAnswer from_builtin_contract.Post
from-builtin κ a x y e f p q = p ∙ sym q

pub tai_minus_utc_at : OneAnswer tai_minus_utc_at_contract.Post
tai_minus_utc_at κ a x y e f p q = p ∙ sym q

pub gps_to_utc_lem : OneAnswer gps_to_utc_contract.Post
gps_to_utc_lem κ a x y e f p q = viewed utc_tells x y p q

pub utc_to_gps_lem : OneAnswer utc_to_gps_contract.Post
utc_to_gps_lem κ a x y e f p q = viewed gps_tells x y p q

pub glonass_to_gps_lem : OneAnswer glonass_to_gps_contract.Post
glonass_to_gps_lem κ a x y e f p q = viewed gps_tells x y p q

pub gps_to_glonass_lem : OneAnswer gps_to_glonass_contract.Post
gps_to_glonass_lem κ a x y e f p q = viewed glonass_tells x y p q

pub gps_from_unix_seconds : OneAnswer gps_from_unix_seconds_contract.Post
gps_from_unix_seconds κ a x y e f p q = viewed gps_tells x y p q

pub gps_as_unix_seconds : OneAnswer gps_as_unix_seconds_contract.Post
gps_as_unix_seconds κ a x y e f p q = viewed outcome_tells x y p q

pub entry_of_event_lem : OneAnswer entry_of_event_contract.Post
entry_of_event_lem κ a x y e f p q = viewed outcome_tells x y p q

pub leap-seconds : OneAnswer leap_seconds_contract.Post
leap-seconds κ a x y e f p q = p ∙ sym q
