-- The worked example holds by computation; its dates by the calendar's theorem, and civil readings by lookups.
use mathlib.Core.Path.{◌≡◌, refl, sym, ap, ◌∙◌}
use mathlib.Core.Bool.{true}
use lib.IntN.{pos}
use Rattle.refusals.specs.Outcome.{answered}
use Rattle.calendar.specs.Calendar.{Date, on, date_of, days_in}
use Rattle.calendar.specs.Formula.{formula, era, yoe, doy, doe}
use Rattle.calendar.proofs.RealDates.{real}
use Rattle.calendar.proofs.CalendarTheorems.{date_of_day}
use Rattle.civil.specs.Fields.{fields}
use Rattle.tables.specs.Entries.{neighbours, on_days, in_force, lookup}
use Rattle.builtin.specs.Builtin.{builtin, events, threshold_of, entries_from}
use Rattle.builtin.proofs.Regular.{builtin_on_days}
use Rattle.readings.specs.Readings.{gps_to_civil}
use Rattle.readings.proofs.ByLookup as by_lookup
use Rattle.alike.specs.Alike.{parting}
use Rattle.demands.specs.Examples.{Every, ◌also◌, none_left}
use Rattle.demands.proofs.EveryExample.{at}
use Rattle.pushing.specs.Worked.{of2015, worked}

last_of_2016 : date_of (pos 17_166) ≡ on (pos 2016) 12 31
unfolding formula era yoe doy doe days_in
last_of_2016 = date_of_day (on (pos 2016) 12 31) (real (on (pos 2016) 12 31) tt)

first_of_2017 : date_of (pos 17_167) ≡ on (pos 2017) 1 1
unfolding formula era yoe doy doe days_in
first_of_2017 = date_of_day (on (pos 2017) 1 1) (real (on (pos 2017) 1 1) tt)

on_days_in_2015 : on_days of2015 ≡ true
unfolding builtin events threshold_of entries_from formula era yoe doy doe neighbours
on_days_in_2015 = refl

read_as_midnight : gps_to_civil of2015 1_167_264_017_000_000_000 ≡ answered (fields (pos 2017) 1 1 0 0 0 0)
unfolding builtin events threshold_of entries_from formula era yoe doy doe in_force lookup
read_as_midnight =
    sym (by_lookup.reads of2015 on_days_in_2015 1_167_264_017_000_000_000)
    ∙ ap (λ (d : Date). answered (at 0 0 0 0 d)) first_of_2017

read_as_60 : gps_to_civil builtin 1_167_264_017_000_000_000 ≡ answered (fields (pos 2016) 12 31 23 59 60 0)
unfolding builtin events threshold_of entries_from formula era yoe doy doe in_force lookup
read_as_60 =
    sym (by_lookup.reads builtin builtin_on_days 1_167_264_017_000_000_000)
    ∙ ap (λ (d : Date). answered (at 23 59 60 0 d)) last_of_2016

pub worked_example : Every worked
unfolding builtin events threshold_of entries_from formula era yoe doy doe neighbours in_force lookup parting
worked_example =
    refl also refl also refl also refl also refl also refl also refl also refl also refl also read_as_midnight also
    read_as_60 also none_left
