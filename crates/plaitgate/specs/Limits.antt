-- The first and the last count of a scale, and the nanoseconds of a year.
use Rattle.std.specs.Prelude.{ℕ, ◌-◌, ◌*◌, ◌^◌}
use Rattle.counts.specs.Units.{second, day_seconds}

pub record Limits : Type 0 where
  pub epoch : ℕ
  pub first : ℕ
  pub last : ℕ
  pub year : ℕ

abbrev pub limits_at : ℕ → ℕ → ℕ → ℕ → Limits
limits_at e f l y = record { epoch = e; first = f; last = l; year = y }

-- counts begin at 0 and end at the largest number of 64 bits; a year has 365 days
abbrev pub limits : Limits
limits = limits_at 0 0 (2 ^ 64 - 1) (365 * day_seconds * second)
