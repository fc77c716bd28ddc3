-- Each call on conversions by the built-in table leaves one refusal number, and one value through each reference that
-- it writes, for each input.
use Rattle.refusals.proofs.OneAnswer.{OneAnswerAndEnd, both}
use Rattle.plaitgate.proofs.by_builtin

pub builtin_tai_minus_utc_at : OneAnswerAndEnd by_builtin.plaitgate_builtin_tai_minus_utc_at.Reads.Post
    (λ κ e. e.1.0.now)
builtin_tai_minus_utc_at κ a x y e f p q = both p q

pub glonass_to_utc : OneAnswerAndEnd by_builtin.plaitgate_glonass_to_utc.Reads.Post (λ κ e. e.1.0.now)
glonass_to_utc κ a x y e f p q = both p q

pub utc_to_glonass : OneAnswerAndEnd by_builtin.plaitgate_utc_to_glonass.Reads.Post (λ κ e. e.1.0.now)
utc_to_glonass κ a x y e f p q = both p q

pub builtin_gps_to_utc : OneAnswerAndEnd by_builtin.plaitgate_builtin_gps_to_utc.Reads.Post (λ κ e. e.1.0.now)
builtin_gps_to_utc κ a x y e f p q = both p q

pub builtin_utc_to_gps : OneAnswerAndEnd by_builtin.plaitgate_builtin_utc_to_gps.Reads.Post (λ κ e. e.1.0.now)
builtin_utc_to_gps κ a x y e f p q = both p q

pub builtin_glonass_to_gps : OneAnswerAndEnd by_builtin.plaitgate_builtin_glonass_to_gps.Reads.Post
    (λ κ e. e.1.0.now)
builtin_glonass_to_gps κ a x y e f p q = both p q

pub builtin_gps_to_glonass : OneAnswerAndEnd by_builtin.plaitgate_builtin_gps_to_glonass.Reads.Post
    (λ κ e. e.1.0.now)
builtin_gps_to_glonass κ a x y e f p q = both p q

pub builtin_gps_from_unix_seconds : OneAnswerAndEnd by_builtin.plaitgate_builtin_gps_from_unix_seconds.Reads.Post
    (λ κ e. e.1.0.now)
builtin_gps_from_unix_seconds κ a x y e f p q = both p q

pub builtin_gps_as_unix_seconds : OneAnswerAndEnd by_builtin.plaitgate_builtin_gps_as_unix_seconds.Reads.Post
    (λ κ e. e.1.0.now)
builtin_gps_as_unix_seconds κ a x y e f p q = both p q
