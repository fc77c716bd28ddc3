-- `number_high_first` takes the bytes from the first to the last, and has the number of those passed.
use Rattle.std.proofs.Common.{◌≡◌, ◌^◌, ◌<◌, take}
use Rattle.words.specs.Words.{number_high_first}
use Rattle.words.proofs.inner.number_high_first.Given as goal

abbrev pub invariant-loop-b : goal.invariant-loop-b
invariant-loop-b l = (l.n ≡ number_high_first (take l.b-index l.b-items)) × (l.n < 256 ^ l.b-index)
