-- Each call of this crate leaves one answer.
use mathlib.Core.Path.{sym, ◌∙◌}
use Rattle.refusals.proofs.OneAnswer.{OneAnswer}
use Rattle.refusals.proofs.Refusal.number.Reads as number

pub refusal_number : OneAnswer number.Post
refusal_number κs a x y e f p q = p ∙ sym q
