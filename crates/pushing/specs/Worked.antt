-- The worked example: the table of 2015, which is the built-in one without the entry of 2017, and the built-in one.
use Rattle.std.specs.Prelude.{List, [], ◌∷◌, pos, take}
use Rattle.refusals.specs.Outcome.{answered}
use Rattle.civil.specs.Fields.{fields}
use Rattle.tables.specs.Entries.{Entry}
use Rattle.conversions.specs.Conversions.{gps_to_utc, utc_to_gps}
use Rattle.builtin.specs.Builtin.{builtin}
use Rattle.readings.specs.Readings.{gps_to_civil}
use Rattle.alike.specs.Alike.{counts, alike}
use Rattle.alike.specs.declared.Alike.TheVariants as how
use Rattle.demands.specs.Examples.{Example, ◌is◌}

abbrev pub of2015 : List Entry
of2015 = take 18 builtin

abbrev pub worked : List Example
worked =
    -- what is told of the two
    alike of2015 builtin is answered (how.Before (counts 1_167_264_018_000_000_000 1_420_156_801_000_000_000))
    -- GPS to UTC: the last count that does not change, and the first that does
    ∷ gps_to_utc of2015 1_167_264_017_999_999_999 is answered 1_420_156_800_999_999_999
    ∷ gps_to_utc builtin 1_167_264_017_999_999_999 is answered 1_420_156_800_999_999_999
    ∷ gps_to_utc of2015 1_167_264_018_000_000_000 is answered 1_420_156_801_000_000_000
    ∷ gps_to_utc builtin 1_167_264_018_000_000_000 is answered 1_420_156_800_000_000_000
    -- UTC to GPS
    ∷ utc_to_gps of2015 1_420_156_800_999_999_999 is answered 1_167_264_017_999_999_999
    ∷ utc_to_gps builtin 1_420_156_800_999_999_999 is answered 1_167_264_017_999_999_999
    ∷ utc_to_gps of2015 1_420_156_801_000_000_000 is answered 1_167_264_018_000_000_000
    ∷ utc_to_gps builtin 1_420_156_801_000_000_000 is answered 1_167_264_019_000_000_000
    -- a civil reading changes a second earlier
    ∷ gps_to_civil of2015 1_167_264_017_000_000_000 is answered (fields (pos 2017) 1 1 0 0 0 0)
    ∷ gps_to_civil builtin 1_167_264_017_000_000_000 is answered (fields (pos 2016) 12 31 23 59 60 0)
    ∷ []
