-- Where a run stands, and how many bytes were read, in a block of n bytes.
use Rattle.std.specs.Prelude.{◌≡◌, ℕ, ◌≤◌, Result, Ok, Err}
use Rattle.lines.specs.declared.inner.streams.Place.{Place}
use Rattle.lines.specs.declared.inner.streams.Stop.{Stop}
use Rattle.lines.specs.declared.inner.streams.Stop.TheVariants.{CannotRead}

pub record Within (n : ℕ) (p : Place) : Type 0 where
  pub held : p.used ≤ 128
  pub order : p.at ≤ p.end
  pub inside : p.end ≤ n

abbrev pub Stands : ℕ → Result Place Stop → Type 0
Stands n (Ok p) = Within n p
Stands n (Err s) = Unit {0}

abbrev pub Reads : ℕ → Result ℕ Stop → Type 0
Reads n (Ok k) = k ≤ n
Reads n (Err s) = s ≡ CannotRead
