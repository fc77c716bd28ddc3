-- Each call of this crate leaves one answer for each input.
use Rattle.refusals.proofs.Tells.{outcome_tells}
use Rattle.refusals.proofs.OneAnswer.{OneAnswer, viewed}
use Rattle.words.proofs.digits.read_count.Reads as read_count_contract

pub read_count : OneAnswer read_count_contract.Post
read_count κ a x y e f p q = viewed outcome_tells x y p q
