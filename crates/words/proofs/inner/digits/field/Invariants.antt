-- `field`. The invariant: the bytes from the next one on say, after `value`, what all of them say.
use Rattle.std.proofs.Common.{◌<◌, ◌^◌}
use Rattle.words.proofs.Reading.{ReadTo}
use Rattle.words.proofs.inner.digits.field.Given as goal

abbrev pub invariant-loop-b : goal.invariant-loop-b
invariant-loop-b l = ReadTo l.b-items l.value l.b-index × (l.value < 10 ^ l.b-index)
