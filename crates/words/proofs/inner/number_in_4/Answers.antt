-- `number_in_4`: four bytes, each 256 times as heavy as the one before.
use Rattle.std.proofs.Common.{arith}
use Rattle.words.proofs.Bytes.{number_in_4}
use Rattle.words.proofs.inner.number_in_4.Goals as goal

pub returns-clause-is : goal.returns-clause-is
returns-clause-is c = omega (arith, number_in_4 c.args.bytes.now c.args.at (omega arith))
