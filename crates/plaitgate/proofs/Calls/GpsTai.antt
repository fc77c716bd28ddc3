-- What GPS alone has: each call leaves one refusal number, and one value through each reference that it writes, for
-- each input.
use Rattle.refusals.proofs.OneAnswer.{OneAnswerAndEnd, both}
use Rattle.plaitgate.proofs.gps_tai

pub gps_to_tai : OneAnswerAndEnd gps_tai.plaitgate_gps_to_tai.Reads.Post (λ κ e. e.1.0.now)
gps_to_tai κ a x y e f p q = both p q

pub gps_from_tai : OneAnswerAndEnd gps_tai.plaitgate_gps_from_tai.Reads.Post (λ κ e. e.1.0.now)
gps_from_tai κ a x y e f p q = both p q
