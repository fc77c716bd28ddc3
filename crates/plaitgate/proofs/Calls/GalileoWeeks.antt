-- Written by tools/write-scales from its template in tools/templates.
-- Weeks of Galileo: each call leaves one refusal number, and one value through each reference that it writes, for each
-- input.
use Rattle.refusals.proofs.OneAnswer.{OneAnswerAndEnd, both}
use Rattle.plaitgate.proofs.weeks.GalileoHostWeeks

pub galileo_from_week_tow : OneAnswerAndEnd GalileoHostWeeks.scale_from_week_tow.Reads.Post
    (λ κ e. e.1.1.1.0.now)
galileo_from_week_tow κ a x y e f p q = both p q

pub galileo_week : OneAnswerAndEnd GalileoHostWeeks.scale_week.Reads.Post (λ κ e. e.1.0.now)
galileo_week κ a x y e f p q = both p q

pub galileo_tow_seconds : OneAnswerAndEnd GalileoHostWeeks.scale_tow_seconds.Reads.Post (λ κ e. e.1.0.now)
galileo_tow_seconds κ a x y e f p q = both p q

pub galileo_sub_second_nanos : OneAnswerAndEnd GalileoHostWeeks.scale_sub_second_nanos.Reads.Post
    (λ κ e. e.1.0.now)
galileo_sub_second_nanos κ a x y e f p q = both p q
