-- Each call of this crate leaves one answer for each input.
use Rattle.tables.proofs.Tells.{dated_tells}
use Rattle.refusals.proofs.Tells.{outcome_tells}
use Rattle.refusals.proofs.OneAnswer.{OneAnswer, viewed}
use Rattle.scales.proofs.Tells.{gps_tells}
use Rattle.readings.proofs.by_builtin.gps_to_civil.Reads as builtin_gps_to_civil_contract
use Rattle.readings.proofs.by_builtin.civil_to_gps.Reads as builtin_civil_to_gps_contract
use Rattle.readings.proofs.by_image.gps_to_civil.Reads as image_gps_to_civil_contract
use Rattle.readings.proofs.by_image.civil_to_gps.Reads as image_civil_to_gps_contract

pub builtin_gps_to_civil : OneAnswer builtin_gps_to_civil_contract.Post
builtin_gps_to_civil κ a x y e f p q = viewed outcome_tells x y p q

pub builtin_civil_to_gps : OneAnswer builtin_civil_to_gps_contract.Post
builtin_civil_to_gps κ a x y e f p q = viewed gps_tells x y p q

pub image_gps_to_civil : OneAnswer image_gps_to_civil_contract.Post
image_gps_to_civil κ a x y e f p q = viewed dated_tells x y p q

pub image_civil_to_gps : OneAnswer image_civil_to_gps_contract.Post
image_civil_to_gps κ a x y e f p q = viewed dated_tells x y p q
