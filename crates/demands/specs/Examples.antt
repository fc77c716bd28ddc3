-- The checked examples that are proved: one list, in the order of the rules.
use Rattle.std.specs.Prelude.{◌≡◌, Bool, true, false, List, [], ◌∷◌, ℕ, ◌+◌, ◌*◌, ℤ, pos, None, Option, Some}
use Rattle.refusals.specs.Outcome.{Outcome, answered, refused}
use Rattle.counts.specs.Exact.{up, down}
use Rattle.counts.specs.Units.{second, week_seconds, of_units}
use Rattle.civil.specs.Fields.{fields, fields_of, count_at}
use Rattle.tables.specs.Entries.{Entry, entry, regular, lookup}
use Rattle.tables.specs.Slots.{entries_of, table_of, extended}
use Rattle.tables.specs.Expiry.{by_table, with_expiry}
use Rattle.tables.specs.declared.LeapTable.{LeapTable}
use Rattle.tables.specs.declared.Lookup.{Lookup}
use Rattle.conversions.specs.Conversions.{glonass_epoch, gps_to_utc, last_reading, utc_to_gps, glonass_to_gps}
use Rattle.conversions.specs.Shifted.{shifted_to_utc, utc_to_shifted, glonass_to_shifted}
use Rattle.scales.specs.Scales.{gps_minus_galileo, gps_minus_beidou}
use Rattle.builtin.specs.Builtin.{builtin}
use Rattle.readings.specs.Readings.{gps_to_civil, civil_to_gps}
use Rattle.demands.specs.CivilReadings.{sixty_before}
use Rattle.demands.specs.Stale.{by_gps, by_utc}

infix 68 ◌is◌
-- what a definition gives, and what it must give
pub data Example : Type 1 where
  ◌is◌ : {A : Type 0} → A → A → Example

abbrev pub Holds : Example → Type 0
Holds (a is b) = a ≡ b

infixr 5 ◌also◌
-- each of a list holds
pub data Every : List Example → Type 1 where
  none_left : Every []
  ◌also◌ : {x : Example} {xs : List Example} → Holds x → Every xs → Every (x ∷ xs)

-- the number of an extension of the built-in table, and the length afterwards
abbrev pub builtin_with : Entry → ℕ × ℕ
builtin_with e = let (number, table) = extended (table_of builtin) e in (number, table.len)

-- an offset of 19 from one threshold on, and 20 from another
abbrev pub from : ℕ → ℕ → List Entry
from a b = entry a (pos 19) ∷ entry b (pos 20) ∷ []

-- what a lookup tells: the offset in force, the place of its entry, and the next threshold
abbrev pub told : ℤ → Option ℕ → Option ℕ → Lookup
told n at above = record { offset = n; place = at; next = above }

-- the built-in entries with the expiry of the list that says 28 June 2026: NTP second 3,991,593,600
abbrev pub until_june : LeapTable
until_june = with_expiry (1_466_640_037 * second) (table_of builtin)

abbrev pub by_glonass : LeapTable → ℕ → Outcome ℕ × Bool
by_glonass t n = by_table t (last_reading (entries_of t) (n + glonass_epoch)) (glonass_to_gps (entries_of t) n)

-- with any week
abbrev pub examples : ℕ → List Example
examples week =
    gps_to_utc builtin 46_828_800_999_999_999 is answered 299_721_600_999_999_999 ∷
    gps_to_utc builtin (46_828_801 * second) is answered (299_721_600 * second) ∷
    utc_to_gps builtin (299_721_600 * second) is answered (46_828_800 * second) ∷
    utc_to_gps builtin (299_721_601 * second) is answered (46_828_802 * second) ∷
    utc_to_gps builtin 252_892_799_999_999_999 is refused 1 ∷
    utc_to_gps builtin 252_892_800_000_000_000 is answered 0 ∷
    gps_to_utc builtin 18_193_851_291_709_551_615 is answered 18_446_744_073_709_551_615 ∷
    gps_to_utc builtin 18_193_851_291_709_551_616 is refused 1 ∷
    utc_to_gps builtin (1_420_156_805 * second) is answered (1_167_264_023 * second) ∷
    up glonass_epoch 0 is answered (757_371_600 * second) ∷
    utc_to_gps builtin (757_371_600 * second) is answered (504_478_810 * second) ∷
    glonass_to_gps builtin 0 is answered (504_478_810 * second) ∷
    -- where Galileo and BeiDou begin
    down gps_minus_galileo (619_315_200 * second) is answered 0 ∷
    down gps_minus_galileo 619_315_199_999_999_999 is refused 1 ∷
    shifted_to_utc gps_minus_galileo builtin 0 is answered (872_207_987 * second) ∷
    utc_to_shifted gps_minus_galileo builtin (872_207_987 * second) is answered 0 ∷
    utc_to_shifted gps_minus_galileo builtin 872_207_986_999_999_999 is refused 1 ∷
    shifted_to_utc gps_minus_beidou builtin 0 is answered (1_073_001_600 * second) ∷
    count_at (fields (pos 2006) 1 1 0 0 0 0) is answered (1_073_001_600 * second) ∷
    -- BeiDou's epoch is a threshold: the first GPS count of that second is before it, and the later one is taken
    utc_to_gps builtin (1_073_001_600 * second) is answered (820_108_813 * second) ∷
    utc_to_shifted gps_minus_beidou builtin 1_073_001_599_999_999_999 is refused 1 ∷
    utc_to_shifted gps_minus_beidou builtin 1_073_001_600_000_000_000 is answered 0 ∷
    utc_to_shifted gps_minus_beidou builtin 1_073_001_600_000_000_001 is answered 1 ∷
    utc_to_shifted gps_minus_beidou builtin 1_073_001_600_999_999_999 is answered 999_999_999 ∷
    utc_to_shifted gps_minus_beidou builtin 1_073_001_601_000_000_000 is answered 1_000_000_000 ∷
    glonass_to_shifted gps_minus_beidou builtin (315_630_000 * second) is answered 0 ∷
    -- by tables with that threshold: regular, and not, since it does not begin (0, 19)
    utc_to_shifted gps_minus_beidou (from 0 (820_108_833 * second)) (1_073_001_613 * second) is answered 0 ∷
    utc_to_shifted gps_minus_beidou (from 1 (820_108_833 * second)) (1_073_001_613 * second) is refused 1 ∷
    -- by a threshold half a second before it: a later count that is before the epoch too is not taken
    utc_to_shifted gps_minus_beidou (from 0 820_108_832_500_000_000) 1_073_001_612_500_000_000 is refused 1 ∷
    utc_to_shifted gps_minus_beidou (from 0 820_108_832_500_000_000) 1_073_001_612_999_999_999 is refused 1 ∷
    utc_to_shifted gps_minus_beidou (from 0 820_108_832_500_000_000) 1_073_001_613_000_000_000 is answered 0 ∷
    gps_to_utc [] 0 is answered (252_892_800 * second) ∷
    gps_to_utc (entry (100 * second) (pos 25) ∷ []) 0 is answered (252_892_794 * second) ∷
    builtin_with (entry 1_167_264_037_000_000_000 (pos 38)) is (3, 19) ∷
    builtin_with (entry 1_167_264_037_000_000_001 (pos 39)) is (4, 19) ∷
    builtin_with (entry 1_167_264_037_000_000_001 (pos 38)) is (0, 20) ∷
    -- the list that expires on 28 June 2026: a nanosecond before not stale, and then stale, by GPS, UTC and GLONASS
    count_at (fields (pos 2026) 6 28 0 0 0 0) is answered (1_719_532_800 * second) ∷
    by_gps until_june 1_466_640_017_999_999_999 is (answered 1_719_532_799_999_999_999, false) ∷
    by_gps until_june (1_466_640_018 * second) is (answered (1_719_532_800 * second), true) ∷
    by_utc until_june 1_719_532_799_999_999_999 is (answered 1_466_640_017_999_999_999, false) ∷
    by_utc until_june (1_719_532_800 * second) is (answered (1_466_640_018 * second), true) ∷
    by_glonass until_june 962_161_199_999_999_999 is (answered 1_466_640_017_999_999_999, false) ∷
    by_glonass until_june (962_161_200 * second) is (answered (1_466_640_018 * second), true) ∷
    -- five seconds after the event of 2017 the reading b is a second before that of the answer, which is the expiry
    by_utc (with_expiry (1_167_264_042 * second) (table_of builtin)) (1_420_156_805 * second)
    is (answered (1_167_264_023 * second), false) ∷
    by_utc (with_expiry (1_167_264_041 * second) (table_of builtin)) (1_420_156_805 * second)
    is (answered (1_167_264_023 * second), true) ∷
    -- a refused count is not stale, and a table without an expiry never is
    by_utc (with_expiry 0 (table_of builtin)) 0 is (refused 1, false) ∷
    by_gps (table_of builtin) 18_193_851_291_709_551_615 is (answered 18_446_744_073_709_551_615, false) ∷
    fields_of 18_446_744_073_709_551_615 is fields (pos 2556) 7 20 23 34 33 709_551_615 ∷
    count_at (fields (pos 1972) 1 1 255 0 0 0) is answered (918_000 * second) ∷
    of_units week_seconds 30_500 344_073 709_551_615 is answered 18_446_744_073_709_551_615 ∷
    of_units week_seconds 30_500 344_073 709_551_616 is refused 1 ∷
    of_units week_seconds week 604_800 0 is refused 2 ∷
    of_units week_seconds week 604_800 1_000_000_000 is refused 2 ∷
    of_units week_seconds week 604_799 1_000_000_000 is refused 11 ∷
    -- thresholds exactly a day apart, and a nanosecond less
    regular (entry 0 (pos 19) ∷ entry 86_400_000_000_000 (pos 20) ∷ entry 172_800_000_000_000 (pos 21) ∷ []) is true ∷
    regular (entry 0 (pos 19) ∷ entry 86_399_999_999_999 (pos 20) ∷ []) is false ∷
    regular (entry 0 (pos 19) ∷ entry 86_400_000_000_000 (pos 20) ∷ entry 172_799_999_999_999 (pos 21) ∷ []) is false ∷
    -- a lookup a nanosecond before the last threshold, at it and after it, and by no entry
    lookup builtin 1_167_264_036_999_999_999 is told (pos 36) (Some 17) (Some (1_167_264_037 * second)) ∷
    lookup builtin (1_167_264_037 * second) is told (pos 37) (Some 18) None ∷
    lookup builtin (1_167_264_038 * second) is told (pos 37) (Some 18) None ∷
    lookup [] 0 is told (pos 19) None None ∷
    -- the second inserted at the end of June 1981, and the one after it, which has the same UTC count
    gps_to_civil builtin 46_828_800_999_999_999 is answered (fields (pos 1981) 6 30 23 59 60 999_999_999) ∷
    gps_to_civil builtin (46_828_801 * second) is answered (fields (pos 1981) 7 1 0 0 0 0) ∷
    civil_to_gps builtin (fields (pos 1981) 6 30 23 59 60 999_999_999) is answered 46_828_800_999_999_999 ∷
    civil_to_gps builtin (fields (pos 1981) 7 1 0 0 0 0) is answered (46_828_801 * second) ∷
    -- the second inserted at the end of 2016, by its UTC count and by its GPS count
    sixty_before (1_420_156_800 * second) is fields (pos 2016) 12 31 23 59 60 0 ∷
    gps_to_civil builtin (1_167_264_017 * second) is answered (fields (pos 2016) 12 31 23 59 60 0) ∷
    -- none was inserted a day before the end of June 1981, and none that has a GPS count at the end of 1979
    civil_to_gps builtin (fields (pos 1981) 6 29 23 59 60 0) is refused 14 ∷
    civil_to_gps builtin (fields (pos 1979) 12 31 23 59 60 0) is refused 14 ∷
    -- by a table whose later entry begins the second day, and by one where it begins a second after that
    gps_to_civil (from 0 (86_420 * second)) (86_400 * second) is answered (fields (pos 1980) 1 6 23 59 60 0) ∷
    gps_to_civil (from 0 (86_421 * second)) (86_400 * second) is refused 13 ∷
    civil_to_gps (from 0 (86_421 * second)) (fields (pos 1980) 1 6 23 59 60 0) is refused 13 ∷
    -- fields that do not exist: the first that is out of range is told, and 13 before it
    civil_to_gps (from 0 (86_421 * second)) (fields (pos 2023) 13 31 24 60 61 1_000_000_000) is refused 13 ∷
    civil_to_gps builtin (fields (pos 2023) 13 31 24 60 61 1_000_000_000) is refused 15 ∷
    civil_to_gps builtin (fields (pos 2023) 2 31 24 60 61 1_000_000_000) is refused 16 ∷
    civil_to_gps builtin (fields (pos 2023) 2 28 24 60 61 1_000_000_000) is refused 17 ∷
    civil_to_gps builtin (fields (pos 2023) 2 28 23 60 61 1_000_000_000) is refused 18 ∷
    civil_to_gps builtin (fields (pos 2023) 2 28 23 59 61 1_000_000_000) is refused 19 ∷
    civil_to_gps builtin (fields (pos 2023) 2 28 23 59 60 1_000_000_000) is refused 11 ∷
    -- 1900 was no leap year, and is before GPS counts begin; 2024 was one
    civil_to_gps builtin (fields (pos 1900) 2 29 0 0 0 0) is refused 16 ∷
    civil_to_gps builtin (fields (pos 1900) 2 28 0 0 0 0) is refused 1 ∷
    civil_to_gps builtin (fields (pos 2024) 2 29 0 0 0 0) is answered (1_393_200_018 * second) ∷
    -- the lenient formula takes 31 February for 3 March
    count_at (fields (pos 2023) 2 31 0 0 0 0) is count_at (fields (pos 2023) 3 3 0 0 0 0) ∷
    []
