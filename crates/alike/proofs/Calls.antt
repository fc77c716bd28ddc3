-- Each call of this crate leaves one answer for each input.
use Rattle.refusals.proofs.Tells.{outcome_tells}
use Rattle.refusals.proofs.OneAnswer.{OneAnswer, viewed}
use Rattle.alike.proofs.by_value.alike.Reads as by_value_contract
use Rattle.alike.proofs.by_image.alike.Reads as by_image_contract

pub by_value : OneAnswer by_value_contract.Post
by_value κ a x y e f p q = viewed outcome_tells x y p q

pub by_image_lem : OneAnswer by_image_contract.Post
by_image_lem κ a x y e f p q = viewed outcome_tells x y p q
