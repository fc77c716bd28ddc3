-- The numbers of docs/TWO-INSTANTS.md hold by computation: the seconds inserted at the end of 2016 and at the end of 2005,
-- where BeiDou begins, and lists whose thresholds lie too close.
use mathlib.Core.Path.{◌≡◌, refl, ap}
use mathlib.Core.List.{List, [], ◌∷◌}
use Prim.Native.Nat.{◌*◌}
use lib.IntN.{pos}
use Rattle.refusals.specs.Outcome.{answered, refused}
use Rattle.counts.specs.Exact.{down}
use Rattle.counts.specs.Units.{second}
use Rattle.calendar.specs.Calendar.{on, date_of, days_in}
use Rattle.calendar.specs.Formula.{formula, era, yoe, doy, doe}
use Rattle.calendar.proofs.RealDates.{real}
use Rattle.calendar.proofs.CalendarTheorems.{date_of_day}
use Rattle.civil.specs.Fields.{fields, fields_of}
use Rattle.scales.specs.Scales.{gps_minus_beidou}
use Rattle.tables.specs.Entries.{Entry, entry, neighbours, in_force, lookup}
use Rattle.conversions.specs.Conversions.{gps_to_utc, utc_to_gps}
use Rattle.conversions.specs.Shifted.{utc_to_shifted}
use Rattle.builtin.specs.Builtin.{builtin, events, threshold_of, entries_from}
use Rattle.demands.specs.Examples.{Example, ◌is◌, Every, ◌also◌, none_left}
use Rattle.demands.proofs.EveryExample.{at}

-- the inserted second and the one after it have one UTC count, and the way back answers the inserted one
abbrev pub end_of2016 : List Example
end_of2016 =
    gps_to_utc builtin (1_167_264_016 * second) is answered (1_420_156_799 * second) ∷
    gps_to_utc builtin (1_167_264_017 * second) is answered (1_420_156_800 * second) ∷
    gps_to_utc builtin (1_167_264_018 * second) is answered (1_420_156_800 * second) ∷
    gps_to_utc builtin (1_167_264_019 * second) is answered (1_420_156_801 * second) ∷
    utc_to_gps builtin (1_420_156_799 * second) is answered (1_167_264_016 * second) ∷
    utc_to_gps builtin (1_420_156_800 * second) is answered (1_167_264_017 * second) ∷
    utc_to_gps builtin (1_420_156_801 * second) is answered (1_167_264_019 * second) ∷
    fields_of (1_420_156_800 * second) is fields (pos 2017) 1 1 0 0 0 0 ∷
    []

-- the second of the two is BeiDou 0, and the first has no BeiDou count
abbrev pub end_of2005 : List Example
end_of2005 =
    gps_to_utc builtin (820_108_812 * second) is answered (1_073_001_599 * second) ∷
    gps_to_utc builtin (820_108_813 * second) is answered (1_073_001_600 * second) ∷
    gps_to_utc builtin (820_108_814 * second) is answered (1_073_001_600 * second) ∷
    gps_to_utc builtin (820_108_815 * second) is answered (1_073_001_601 * second) ∷
    utc_to_gps builtin (1_073_001_600 * second) is answered (820_108_813 * second) ∷
    down gps_minus_beidou (820_108_812 * second) is refused 1 ∷
    down gps_minus_beidou (820_108_813 * second) is refused 1 ∷
    down gps_minus_beidou (820_108_814 * second) is answered 0 ∷
    down gps_minus_beidou (820_108_815 * second) is answered second ∷
    utc_to_shifted gps_minus_beidou builtin (1_073_001_600 * second) is answered 0 ∷
    []

-- two thresholds a second apart
abbrev pub a_second_apart : List Entry
a_second_apart = entry 0 (pos 19) ∷ entry (40 * second) (pos 20) ∷ entry (41 * second) (pos 21) ∷ []

-- a threshold at the TAI reading of GPS 0
abbrev pub at_the_start : List Entry
at_the_start = entry 0 (pos 19) ∷ entry (19 * second) (pos 20) ∷ []

-- with the one, three GPS counts share a UTC count; with the other, a UTC count that GPS 0 converts to is refused
abbrev pub too_close : List Example
too_close =
    gps_to_utc a_second_apart (20 * second) is answered (252_892_820 * second) ∷
    gps_to_utc a_second_apart (21 * second) is answered (252_892_820 * second) ∷
    gps_to_utc a_second_apart (22 * second) is answered (252_892_820 * second) ∷
    gps_to_utc at_the_start 0 is answered (252_892_799 * second) ∷
    utc_to_gps at_the_start (252_892_799 * second) is refused 1 ∷
    []

first_of_2017 : date_of (pos 17_167) ≡ on (pos 2017) 1 1
unfolding formula era yoe doy doe days_in
first_of_2017 = date_of_day (on (pos 2017) 1 1) (real (on (pos 2017) 1 1) tt)

pub end_of_2016 : Every end_of2016
unfolding builtin events threshold_of entries_from formula era yoe doy doe in_force lookup
end_of_2016 =
    refl also refl also refl also refl also refl also refl also refl also ap (at 0 0 0 0) first_of_2017 also none_left

pub end_of_2005 : Every end_of2005
unfolding builtin events threshold_of entries_from formula era yoe doy doe neighbours in_force lookup
end_of_2005 =
    refl also refl also refl also refl also refl also refl also refl also refl also refl also refl also none_left

pub too_close_lem : Every too_close
unfolding in_force lookup
too_close_lem = refl also refl also refl also refl also refl also none_left
