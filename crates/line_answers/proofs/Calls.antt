-- The answer to a line is one answer and one output for each input.
use Rattle.refusals.proofs.OneAnswer.{OneAnswerAndEnd, both}
use Rattle.line_answers.proofs.gpscivil.answer_line.Reads as gpscivil_contract
use Rattle.line_answers.proofs.civilgps.answer_line.Reads as civilgps_contract

pub gpscivil_answer_line : OneAnswerAndEnd gpscivil_contract.Post (λ κ e. e.1.0.now)
gpscivil_answer_line κ a x y e f p q = both p q

pub civilgps_answer_line : OneAnswerAndEnd civilgps_contract.Post (λ κ e. e.1.0.now)
civilgps_answer_line κ a x y e f p q = both p q
