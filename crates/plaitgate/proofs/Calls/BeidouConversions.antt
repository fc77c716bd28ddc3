-- Written by tools/write-scales from its template in tools/templates.
-- BeiDou to GPS, UTC and GLONASS, and back: each call leaves one refusal number, and one value through each reference
-- that it writes, for each input.
use Rattle.plaitgate.specs.Tables.{dated_as}
use Rattle.refusals.proofs.OneAnswer.{OneAnswerAndEnd, both}
use Rattle.plaitgate.proofs.shifted.BeidouHostShifted

pub beidou_to_gps : OneAnswerAndEnd BeidouHostShifted.scale_to_gps.Reads.Post
    (λ κ e. e.1.0.now)
beidou_to_gps κ a x y e f p q = both p q

pub gps_to_beidou : OneAnswerAndEnd BeidouHostShifted.gps_to_scale.Reads.Post
    (λ κ e. e.1.0.now)
gps_to_beidou κ a x y e f p q = both p q

pub builtin_beidou_to_utc : OneAnswerAndEnd BeidouHostShifted.builtin_scale_to_utc.Reads.Post
    (λ κ e. e.1.0.now)
builtin_beidou_to_utc κ a x y e f p q = both p q

pub builtin_utc_to_beidou : OneAnswerAndEnd BeidouHostShifted.builtin_utc_to_scale.Reads.Post
    (λ κ e. e.1.0.now)
builtin_utc_to_beidou κ a x y e f p q = both p q

pub builtin_beidou_to_glonass : OneAnswerAndEnd BeidouHostShifted.builtin_scale_to_glonass.Reads.Post
    (λ κ e. e.1.0.now)
builtin_beidou_to_glonass κ a x y e f p q = both p q

pub builtin_glonass_to_beidou : OneAnswerAndEnd BeidouHostShifted.builtin_glonass_to_scale.Reads.Post
    (λ κ e. e.1.0.now)
builtin_glonass_to_beidou κ a x y e f p q = both p q

pub table_beidou_to_utc : OneAnswerAndEnd BeidouHostShifted.table_scale_to_utc.Reads.Post
    (λ κ e. dated_as e.1.1.0.now e.1.1.1.0.now)
table_beidou_to_utc κ a x y e f p q = both p q

pub table_utc_to_beidou : OneAnswerAndEnd BeidouHostShifted.table_utc_to_scale.Reads.Post
    (λ κ e. dated_as e.1.1.0.now e.1.1.1.0.now)
table_utc_to_beidou κ a x y e f p q = both p q

pub table_beidou_to_glonass : OneAnswerAndEnd BeidouHostShifted.table_scale_to_glonass.Reads.Post
    (λ κ e. dated_as e.1.1.0.now e.1.1.1.0.now)
table_beidou_to_glonass κ a x y e f p q = both p q

pub table_glonass_to_beidou : OneAnswerAndEnd BeidouHostShifted.table_glonass_to_scale.Reads.Post
    (λ κ e. dated_as e.1.1.0.now e.1.1.1.0.now)
table_glonass_to_beidou κ a x y e f p q = both p q
