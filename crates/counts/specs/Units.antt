-- Seconds in nanoseconds, days and weeks in seconds, and counts made of them.
use Rattle.std.specs.Prelude.{cond, ℕ, ◌+◌, ◌*◌, ◌/◌, ◌%◌, leb, pos}
use Rattle.refusals.specs.Outcome.{Outcome, answered, refused}
use Rattle.counts.specs.Exact.{count_of}
use Rattle.counts.specs.declared.units.DurationParts.{DurationParts}

abbrev pub second : ℕ
second = 1_000_000_000

abbrev pub day_seconds : ℕ
day_seconds = 86_400

abbrev pub week_seconds : ℕ
week_seconds = 604_800

-- the seconds from 1970-01-01 to 1972-01-01
abbrev pub unix_offset : ℕ
unix_offset = 63_072_000

-- a count as whole seconds and the rest
abbrev pub parts_of : ℕ → DurationParts
parts_of n = record { seconds = n / second; nanos = n % second }

-- parts whose nanoseconds are less than a second: else 11
abbrev pub parts_from : ℕ → ℕ → Outcome DurationParts
parts_from s n = cond (leb second n) (refused 11) (answered (record { seconds = s; nanos = n }))

-- the count of `whole` units and the rest of one, a unit being `unit` seconds: 2 where the rest's seconds make a unit,
-- else 11 where its nanoseconds make a second, else 1 where the sum is no count
abbrev pub of_units : ℕ → ℕ → ℕ → ℕ → Outcome ℕ
of_units unit whole s n =
    cond (leb unit s) (refused 2)
    (cond (leb second n) (refused 11) (count_of (pos ((whole * unit + s) * second + n))))
