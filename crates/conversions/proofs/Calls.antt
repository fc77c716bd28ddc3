-- Each call of this crate leaves one answer for each input.
pub mod Galileo
pub mod Beidou
use Rattle.tables.proofs.Tells.{dated_tells}
use Rattle.refusals.proofs.OneAnswer.{OneAnswer, viewed}
use Rattle.scales.proofs.Tells.{utc_tells, glonass_tells}
use Rattle.conversions.proofs.Tells.{dated_gps_tells, dated_utc_tells, dated_glonass_tells}
use Rattle.conversions.proofs.gps_to_utc.Reads as gps_to_utc_contract
use Rattle.conversions.proofs.utc_to_gps.Reads as utc_to_gps_contract
use Rattle.conversions.proofs.glonass_to_utc.Reads as glonass_to_utc_contract
use Rattle.conversions.proofs.utc_to_glonass.Reads as utc_to_glonass_contract
use Rattle.conversions.proofs.glonass_to_gps.Reads as glonass_to_gps_contract
use Rattle.conversions.proofs.gps_to_glonass.Reads as gps_to_glonass_contract
use Rattle.conversions.proofs.gps_from_unix_seconds.Reads as gps_from_unix_seconds_contract
use Rattle.conversions.proofs.gps_as_unix_seconds.Reads as gps_as_unix_seconds_contract

pub gps_to_utc_lem : OneAnswer gps_to_utc_contract.Post
gps_to_utc_lem κ a x y e f p q = viewed dated_utc_tells x y p q

pub utc_to_gps_lem : OneAnswer utc_to_gps_contract.Post
utc_to_gps_lem κ a x y e f p q = viewed dated_gps_tells x y p q

pub glonass_to_utc : OneAnswer glonass_to_utc_contract.Post
glonass_to_utc κ a x y e f p q = viewed utc_tells x y p q

pub utc_to_glonass : OneAnswer utc_to_glonass_contract.Post
utc_to_glonass κ a x y e f p q = viewed glonass_tells x y p q

pub glonass_to_gps_lem : OneAnswer glonass_to_gps_contract.Post
glonass_to_gps_lem κ a x y e f p q = viewed dated_gps_tells x y p q

pub gps_to_glonass_lem : OneAnswer gps_to_glonass_contract.Post
gps_to_glonass_lem κ a x y e f p q = viewed dated_glonass_tells x y p q

pub gps_from_unix_seconds : OneAnswer gps_from_unix_seconds_contract.Post
gps_from_unix_seconds κ a x y e f p q = viewed dated_gps_tells x y p q

pub gps_as_unix_seconds : OneAnswer gps_as_unix_seconds_contract.Post
gps_as_unix_seconds κ a x y e f p q = viewed dated_tells x y p q
