-- What is said of a run that tells of no failure.
use Rattle.std.specs.Prelude.{Result, Ok, Err}
use Rattle.lines.specs.declared.inner.streams.Stop.{Stop}
use Rattle.lines.specs.declared.inner.streams.Stop.TheVariants.{Ended, CannotRead, CannotWrite}

-- a run that is over in either way of which `explain` says nothing
abbrev pub IfSilent : Result Unit Stop → Type 0 → Type 0
IfSilent (Ok tt) says = says
IfSilent (Err Ended) says = says
IfSilent (Err CannotRead) says = Unit {0}
IfSilent (Err CannotWrite) says = Unit {0}
