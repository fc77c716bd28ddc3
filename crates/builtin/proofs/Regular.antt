-- The built-in table is regular, and so valid, and on days; and its events are dates that the calendar has.
use mathlib.Core.Path.{◌≡◌, refl}
use mathlib.Core.Bool.{Bool, true, ◌&&◌}
use mathlib.Core.List.{List, [], ◌∷◌}
use lib.Dec.{T}
use mir.Facts.{and_yes}
use Rattle.calendar.specs.Calendar.{Date, days_in, date_of}
use Rattle.calendar.specs.Formula.{day_of, formula, era, yoe, doy, doe}
use Rattle.calendar.proofs.RealDates.{is_real, real}
use Rattle.calendar.proofs.CalendarTheorems.{date_of_day}
use Rattle.tables.specs.Entries.{valid, regular, on_days, neighbours}
use Rattle.builtin.specs.Builtin.{builtin, events, threshold_of, entries_from}

pub builtin-regular : regular builtin ≡ true
unfolding builtin events threshold_of entries_from formula era yoe doy doe neighbours
builtin-regular = refl

pub builtin-valid : valid builtin ≡ true
unfolding builtin events threshold_of entries_from formula era yoe doy doe neighbours
builtin-valid = refl

-- each of its entries after the first begins a day
pub builtin_on_days : on_days builtin ≡ true
unfolding builtin events threshold_of entries_from formula era yoe doy doe neighbours
builtin_on_days = refl

-- each event is the date of its day
abbrev pub AllReal : List Date → Type 0
AllReal [] = Unit {0}
AllReal (d ∷ ds) = (date_of (day_of d) ≡ d) × AllReal ds

abbrev all_real : List Date → Bool
all_real [] = true
all_real (d ∷ ds) = is_real d && all_real ds

on_the_calendar : (ds : List Date) → T (all_real ds) → AllReal ds
on_the_calendar [] h = tt
on_the_calendar (d ∷ ds) h =
    let both = and_yes (is_real d) (all_real ds) h in
    (date_of_day d (real d both.0), on_the_calendar ds both.1)

pub events_real : AllReal events
unfolding events days_in
events_real = on_the_calendar events tt
