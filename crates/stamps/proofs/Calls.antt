-- Each call of this crate leaves one answer for each input.
use Rattle.refusals.proofs.Tells.{outcome_tells}
use Rattle.refusals.proofs.OneAnswer.{OneAnswer, viewed}
use Rattle.stamps.proofs.read.Reads as read_contract

pub read : OneAnswer read_contract.Post
read κ a x y e f p q = viewed outcome_tells x y p q
