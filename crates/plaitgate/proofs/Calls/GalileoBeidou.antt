-- Galileo and BeiDou: each call leaves one refusal number, and one value through each reference that it writes, for
-- each input.
use Rattle.refusals.proofs.OneAnswer.{OneAnswerAndEnd, both}
use Rattle.plaitgate.proofs.galileo_beidou

pub galileo_to_beidou : OneAnswerAndEnd galileo_beidou.plaitgate_galileo_to_beidou.Reads.Post (λ κ e. e.1.0.now)
galileo_to_beidou κ a x y e f p q = both p q

pub beidou_to_galileo : OneAnswerAndEnd galileo_beidou.plaitgate_beidou_to_galileo.Reads.Post (λ κ e. e.1.0.now)
beidou_to_galileo κ a x y e f p q = both p q
