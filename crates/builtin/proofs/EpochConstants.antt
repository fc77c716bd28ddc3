-- The constants of the definitions are what the calendar counts, day by day, between the dates of their epochs, because
-- the formula computes them and is the calendar on real dates.
use mathlib.Core.Path.{◌≡◌, refl}
use Prim.Native.Nat.{ℕ, ◌-◌, ◌*◌}
use lib.IntN.{ℤ, pos, nat_abs, ◌+ℤ◌, ◌-ℤ◌}
use Rattle.counts.specs.Units.{second, day_seconds, unix_offset}
use Rattle.calendar.specs.Calendar.{Date, on, date_of}
use Rattle.calendar.specs.Formula.{day_of, formula, era, yoe, doy, doe}
use Rattle.calendar.specs.Dates.{utc_epoch_day}
use Rattle.calendar.specs.Epochs.{epoch_of}
use Rattle.calendar.specs.declared.epochs.Epoch.TheVariants.{Unix, Utc, Gps, Glonass}
use Rattle.calendar.proofs.EpochTheorems.{epochs}
use Rattle.tables.specs.Entries.{offset_at, in_force, lookup}
use Rattle.conversions.specs.Conversions.{E, glonass_epoch, in_nanos}
use Rattle.builtin.specs.Builtin.{gps_epoch_unix, builtin, events, threshold_of, entries_from}
use Rattle.builtin.specs.Events.{events_up_to, epoch_in, leap_seconds_at}
use Rattle.builtin.specs.declared.epochs.ScaleEpoch.{ScaleEpoch}
use Rattle.builtin.specs.declared.epochs.ScaleEpoch.TheVariants as scale

-- the second date is n days after the first, on the day-by-day calendar
pub record DaysOn (a b : Date) (n : ℕ) : Type 0 where
  pub from : ℤ
  pub starts : date_of from ≡ a
  pub ends : date_of (from +ℤ pos n) ≡ b

-- ---- the statements
-- UTC counts begin 730 days after Unix time, with 1972-01-01
abbrev pub UtcBegins : Type 0
UtcBegins = DaysOn (on (pos 1970) 1 1) (on (pos 1972) 1 1) utc_epoch_day × (unix_offset ≡ utc_epoch_day * day_seconds)

-- the Unix second of 1980-01-06
abbrev pub GpsInUnixTime : Type 0
GpsInUnixTime = DaysOn (on (pos 1970) 1 1) (on (pos 1980) 1 6) 3657 × (gps_epoch_unix ≡ 3657 * day_seconds)

-- E runs from 1972-01-01 to 1980-01-06
abbrev pub GpsInUtc : Type 0
GpsInUtc = DaysOn (on (pos 1972) 1 1) (on (pos 1980) 1 6) 2927 × (E ≡ 2927 * day_seconds * second)

-- GLONASS time begins at midnight of 1996-01-01 in Moscow, three hours ahead of UTC
abbrev pub GlonassInUtc : Type 0
GlonassInUtc =
    DaysOn (on (pos 1972) 1 1) (on (pos 1996) 1 1) 8766 × (glonass_epoch ≡ (8766 * day_seconds - 3 * 3600) * second)

-- at the TAI reading of an epoch's midnight the built-in table has the offset that its events count
abbrev pub EpochsAreInTheTable : Type 0
EpochsAreInTheTable =
    (e : ScaleEpoch) → offset_at builtin (nat_abs (threshold_of (epoch_in e) (leap_seconds_at e))) ≡ leap_seconds_at e

-- three hours before, where GLONASS counts begin, the offset is one less
abbrev pub GlonassBegins : Type 0
GlonassBegins = offset_at builtin (nat_abs (pos glonass_epoch -ℤ pos E +ℤ in_nanos (pos 29))) ≡ pos 29

-- ---- their proofs
pub utc-begins : UtcBegins
unfolding era yoe doy doe formula
utc-begins = (record { from = day_of (epoch_of Unix); starts = epochs Unix; ends = epochs Utc }, refl)

pub gps_in_unix_time : GpsInUnixTime
unfolding era yoe doy doe formula
gps_in_unix_time = (record { from = day_of (epoch_of Unix); starts = epochs Unix; ends = epochs Gps }, refl)

pub gps_in_utc : GpsInUtc
unfolding era yoe doy doe formula
gps_in_utc = (record { from = day_of (epoch_of Utc); starts = epochs Utc; ends = epochs Gps }, refl)

pub glonass_in_utc : GlonassInUtc
unfolding era yoe doy doe formula
glonass_in_utc = (record { from = day_of (epoch_of Utc); starts = epochs Utc; ends = epochs Glonass }, refl)

pub epochs_are_in_the_table : EpochsAreInTheTable
unfolding era yoe doy doe formula events events_up_to builtin entries_from threshold_of lookup in_force
epochs_are_in_the_table scale.Gps = refl
epochs_are_in_the_table scale.Glonass = refl
epochs_are_in_the_table scale.Galileo = refl
epochs_are_in_the_table scale.Beidou = refl

pub glonass_begins : GlonassBegins
unfolding era yoe doy doe formula events builtin entries_from threshold_of lookup in_force
glonass_begins = refl
