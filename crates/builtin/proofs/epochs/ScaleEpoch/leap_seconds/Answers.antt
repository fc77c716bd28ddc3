-- Each constant is what the events up to its epoch's day, computed, come to.
use Rattle.std.proofs.Common.{sym, ap}
use Rattle.calendar.specs.Formula.{era, yoe, doy, doe, formula}
use Rattle.builtin.specs.Builtin.{events}
use Rattle.builtin.specs.Events.{events_up_to, leap_seconds_at}
use Rattle.builtin.proofs.epochs.ScaleEpoch.leap_seconds.Goals as goal

pub returns-in-Gps : goal.returns-in-Gps
unfolding era yoe doy doe formula events events_up_to
returns-in-Gps c = sym (ap leap_seconds_at c.in-Gps.is)

pub returns-in-Glonass : goal.returns-in-Glonass
unfolding era yoe doy doe formula events events_up_to
returns-in-Glonass c = sym (ap leap_seconds_at c.in-Glonass.is)

pub returns-in-Galileo : goal.returns-in-Galileo
unfolding era yoe doy doe formula events events_up_to
returns-in-Galileo c = sym (ap leap_seconds_at c.in-Galileo.is)

pub returns-in-Beidou : goal.returns-in-Beidou
unfolding era yoe doy doe formula events events_up_to
returns-in-Beidou c = sym (ap leap_seconds_at c.in-Beidou.is)
