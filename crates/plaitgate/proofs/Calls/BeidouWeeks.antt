-- Written by tools/write-scales from its template in tools/templates.
-- Weeks of BeiDou: each call leaves one refusal number, and one value through each reference that it writes, for each
-- input.
use Rattle.refusals.proofs.OneAnswer.{OneAnswerAndEnd, both}
use Rattle.plaitgate.proofs.weeks.BeidouHostWeeks

pub beidou_from_week_tow : OneAnswerAndEnd BeidouHostWeeks.scale_from_week_tow.Reads.Post
    (λ κ e. e.1.1.1.0.now)
beidou_from_week_tow κ a x y e f p q = both p q

pub beidou_week : OneAnswerAndEnd BeidouHostWeeks.scale_week.Reads.Post (λ κ e. e.1.0.now)
beidou_week κ a x y e f p q = both p q

pub beidou_tow_seconds : OneAnswerAndEnd BeidouHostWeeks.scale_tow_seconds.Reads.Post (λ κ e. e.1.0.now)
beidou_tow_seconds κ a x y e f p q = both p q

pub beidou_sub_second_nanos : OneAnswerAndEnd BeidouHostWeeks.scale_sub_second_nanos.Reads.Post
    (λ κ e. e.1.0.now)
beidou_sub_second_nanos κ a x y e f p q = both p q
