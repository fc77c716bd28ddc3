-- What GLONASS alone has: each call leaves one refusal number, and one value through each reference that it writes, for
-- each input.
use Rattle.refusals.proofs.OneAnswer.{OneAnswerAndEnd, both}
use Rattle.plaitgate.proofs.glonass_days

pub glonass_from_day_tod : OneAnswerAndEnd glonass_days.plaitgate_glonass_from_day_tod.Reads.Post
    (λ κ e. e.1.1.1.0.now)
glonass_from_day_tod κ a x y e f p q = both p q

pub glonass_day : OneAnswerAndEnd glonass_days.plaitgate_glonass_day.Reads.Post (λ κ e. e.1.0.now)
glonass_day κ a x y e f p q = both p q

pub glonass_tod_seconds : OneAnswerAndEnd glonass_days.plaitgate_glonass_tod_seconds.Reads.Post (λ κ e. e.1.0.now)
glonass_tod_seconds κ a x y e f p q = both p q

pub glonass_sub_second_nanos : OneAnswerAndEnd glonass_days.plaitgate_glonass_sub_second_nanos.Reads.Post
    (λ κ e. e.1.0.now)
glonass_sub_second_nanos κ a x y e f p q = both p q

pub glonass_day_of_week : OneAnswerAndEnd glonass_days.plaitgate_glonass_day_of_week.Reads.Post (λ κ e. e.1.0.now)
glonass_day_of_week κ a x y e f p q = both p q

pub glonass_is_weekend : OneAnswerAndEnd glonass_days.plaitgate_glonass_is_weekend.Reads.Post (λ κ e. e.1.0.now)
glonass_is_weekend κ a x y e f p q = both p q
