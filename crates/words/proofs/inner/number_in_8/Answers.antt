-- `number_in_8`: two numbers of four bytes.
use Rattle.std.proofs.Common.{arith}
use Rattle.words.proofs.Bytes.{number_in_8}
use Rattle.words.proofs.inner.number_in_8.Goals as goal

pub returns : goal.returns
returns c = omega (arith, number_in_8 c.args.bytes.now c.args.at (omega arith))
