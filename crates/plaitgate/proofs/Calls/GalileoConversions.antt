-- Written by tools/write-scales from its template in tools/templates.
-- Galileo to GPS, UTC and GLONASS, and back: each call leaves one refusal number, and one value through each reference
-- that it writes, for each input.
use Rattle.plaitgate.specs.Tables.{dated_as}
use Rattle.refusals.proofs.OneAnswer.{OneAnswerAndEnd, both}
use Rattle.plaitgate.proofs.shifted.GalileoHostShifted

pub galileo_to_gps : OneAnswerAndEnd GalileoHostShifted.scale_to_gps.Reads.Post
    (λ κ e. e.1.0.now)
galileo_to_gps κ a x y e f p q = both p q

pub gps_to_galileo : OneAnswerAndEnd GalileoHostShifted.gps_to_scale.Reads.Post
    (λ κ e. e.1.0.now)
gps_to_galileo κ a x y e f p q = both p q

pub builtin_galileo_to_utc : OneAnswerAndEnd GalileoHostShifted.builtin_scale_to_utc.Reads.Post
    (λ κ e. e.1.0.now)
builtin_galileo_to_utc κ a x y e f p q = both p q

pub builtin_utc_to_galileo : OneAnswerAndEnd GalileoHostShifted.builtin_utc_to_scale.Reads.Post
    (λ κ e. e.1.0.now)
builtin_utc_to_galileo κ a x y e f p q = both p q

pub builtin_galileo_to_glonass : OneAnswerAndEnd GalileoHostShifted.builtin_scale_to_glonass.Reads.Post
    (λ κ e. e.1.0.now)
builtin_galileo_to_glonass κ a x y e f p q = both p q

pub builtin_glonass_to_galileo : OneAnswerAndEnd GalileoHostShifted.builtin_glonass_to_scale.Reads.Post
    (λ κ e. e.1.0.now)
builtin_glonass_to_galileo κ a x y e f p q = both p q

pub table_galileo_to_utc : OneAnswerAndEnd GalileoHostShifted.table_scale_to_utc.Reads.Post
    (λ κ e. dated_as e.1.1.0.now e.1.1.1.0.now)
table_galileo_to_utc κ a x y e f p q = both p q

pub table_utc_to_galileo : OneAnswerAndEnd GalileoHostShifted.table_utc_to_scale.Reads.Post
    (λ κ e. dated_as e.1.1.0.now e.1.1.1.0.now)
table_utc_to_galileo κ a x y e f p q = both p q

pub table_galileo_to_glonass : OneAnswerAndEnd GalileoHostShifted.table_scale_to_glonass.Reads.Post
    (λ κ e. dated_as e.1.1.0.now e.1.1.1.0.now)
table_galileo_to_glonass κ a x y e f p q = both p q

pub table_glonass_to_galileo : OneAnswerAndEnd GalileoHostShifted.table_glonass_to_scale.Reads.Post
    (λ κ e. dated_as e.1.1.0.now e.1.1.1.0.now)
table_glonass_to_galileo κ a x y e f p q = both p q
