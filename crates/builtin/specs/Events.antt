-- The entry of a leap-second event, from its UTC date and its new offset, and TAI − UTC at the epochs.
use Rattle.std.specs.Prelude.{cond, List, [], ◌∷◌, ℕ, ◌+◌, ℤ, pos}
use Rattle.std.specs.Int.Signed.{le_z}
use Rattle.refusals.specs.Outcome.{Outcome, answered, then}
use Rattle.counts.specs.Exact.{count_of}
use Rattle.calendar.specs.Calendar.{Date}
use Rattle.calendar.specs.Formula.{day_of}
use Rattle.calendar.specs.Epochs.{epoch_of}
use Rattle.calendar.specs.declared.epochs.Epoch.TheVariants as epoch
use Rattle.civil.specs.Fields.{fields, count_at}
use Rattle.civil.specs.declared.CivilDateTime.{CivilDateTime}
use Rattle.tables.specs.Entries.{Entry, entry}
use Rattle.builtin.specs.Builtin.{events, threshold_of}
use Rattle.builtin.specs.declared.epochs.ScaleEpoch.{ScaleEpoch}
use Rattle.builtin.specs.declared.epochs.ScaleEpoch.TheVariants.{Gps, Glonass, Galileo, Beidou}

abbrev pub midnight : Date → CivilDateTime
midnight d = fields d.year d.month d.day 0 0 0 0

-- the threshold of an event: 1 where its midnight has no UTC count, and where the threshold is no count
abbrev pub event_threshold : Date → ℤ → Outcome ℕ
event_threshold d n = then (count_at (midnight d)) (λ utc. count_of (threshold_of d n))

abbrev pub entry_of_event : Date → ℤ → Outcome Entry
entry_of_event d n = then (event_threshold d n) (λ t. answered (entry t n))

-- how many events begin on a Unix day or before it
unfoldable pub events_up_to : ℤ → List Date → ℕ
events_up_to z [] = 0
events_up_to z (d ∷ ds) = cond (le_z (day_of d) z) 1 0 + events_up_to z ds

-- TAI − UTC on a UTC day from 1980-01-06 on
abbrev pub offset_on : Date → ℤ
offset_on d = pos (19 + events_up_to (day_of d) events)

-- the UTC dates of the epochs
abbrev pub epoch_in : ScaleEpoch → Date
epoch_in Gps = epoch_of epoch.Gps
epoch_in Glonass = epoch_of epoch.Glonass
epoch_in Galileo = epoch_of epoch.Galileo
epoch_in Beidou = epoch_of epoch.Beidou

abbrev pub leap_seconds_at : ScaleEpoch → ℤ
leap_seconds_at e = offset_on (epoch_in e)
