-- Each call on conversions by a table leaves one refusal number, and one value through each reference that it writes,
-- for each input.
use Rattle.plaitgate.specs.Tables.{dated_as}
use Rattle.refusals.proofs.OneAnswer.{OneAnswerAndEnd, both}
use Rattle.plaitgate.proofs.by_table

pub gps_to_utc_lem : OneAnswerAndEnd by_table.plaitgate_table_gps_to_utc.Reads.Post (λ κ e. dated_as e.1.1.0.now e.1.1.1.0.now)
gps_to_utc_lem κ a x y e f p q = both p q

pub utc_to_gps_lem : OneAnswerAndEnd by_table.plaitgate_table_utc_to_gps.Reads.Post (λ κ e. dated_as e.1.1.0.now e.1.1.1.0.now)
utc_to_gps_lem κ a x y e f p q = both p q

pub glonass_to_gps_lem : OneAnswerAndEnd by_table.plaitgate_table_glonass_to_gps.Reads.Post (λ κ e. dated_as e.1.1.0.now e.1.1.1.0.now)
glonass_to_gps_lem κ a x y e f p q = both p q

pub gps_to_glonass_lem : OneAnswerAndEnd by_table.plaitgate_table_gps_to_glonass.Reads.Post (λ κ e. dated_as e.1.1.0.now e.1.1.1.0.now)
gps_to_glonass_lem κ a x y e f p q = both p q

pub gps_from_unix_seconds : OneAnswerAndEnd by_table.plaitgate_table_gps_from_unix_seconds.Reads.Post
    (λ κ e. dated_as e.1.1.0.now e.1.1.1.0.now)
gps_from_unix_seconds κ a x y e f p q = both p q

pub gps_as_unix_seconds : OneAnswerAndEnd by_table.plaitgate_table_gps_as_unix_seconds.Reads.Post
    (λ κ e. dated_as e.1.1.0.now e.1.1.1.0.now)
gps_as_unix_seconds κ a x y e f p q = both p q
