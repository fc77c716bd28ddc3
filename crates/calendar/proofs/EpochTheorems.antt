-- Each epoch is a real date, so that the days between epochs, which the lengths count, are those of the calendar.
use mathlib.Core.Path.{◌≡◌, refl}
use lib.Dec.{T}
use lib.IntN.{pos}
use Rattle.calendar.specs.Calendar.{days_in, date_of}
use Rattle.calendar.specs.Formula.{era, yoe, doy, doe, formula, day_of}
use Rattle.calendar.specs.Dates.{utc_epoch_day}
use Rattle.calendar.specs.Epochs.{epoch_of}
use Rattle.calendar.specs.declared.epochs.Epoch.{Epoch}
use Rattle.calendar.specs.declared.epochs.Epoch.TheVariants.{Tai, Unix, Utc, Gps, Glonass, Galileo, Beidou}
use Rattle.calendar.proofs.RealDates.{is_real, real}
use Rattle.calendar.proofs.CalendarTheorems.{date_of_day}

abbrev pub EpochsAreTheCalendars : Type 0
EpochsAreTheCalendars = (e : Epoch) → date_of (day_of (epoch_of e)) ≡ epoch_of e

epoch_real : (e : Epoch) → T (is_real (epoch_of e))
unfolding days_in
epoch_real Tai = tt
epoch_real Unix = tt
epoch_real Utc = tt
epoch_real Gps = tt
epoch_real Glonass = tt
epoch_real Galileo = tt
epoch_real Beidou = tt

pub epochs : EpochsAreTheCalendars
epochs e = date_of_day (epoch_of e) (real (epoch_of e) (epoch_real e))

-- UTC counts begin on the day of their epoch
pub utc_epoch : day_of (epoch_of Utc) ≡ pos utc_epoch_day
unfolding era yoe doy doe formula
utc_epoch = refl
