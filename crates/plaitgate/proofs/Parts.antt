-- Whole seconds and nanoseconds, put together.
use Prim.Native.Nat.{ℕ}
use Rattle.counts.specs.declared.units.DurationParts.{DurationParts}

abbrev pub parts_of : ℕ → ℕ → DurationParts
parts_of s n = record { seconds = s; nanos = n }
