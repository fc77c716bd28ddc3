-- `places`: a number from 10 ^ 16 on has as many digits as the powers of ten around it tell.
use Rattle.std.proofs.Common.{sym, arith}
use Rattle.words.proofs.Writing.{places_are}
use Rattle.words.proofs.inner.digits.places.Goals as goal

pub returns-then-n-lt100000000000000000 : goal.returns-then-n-lt100000000000000000
returns-then-n-lt100000000000000000 c = (sym (places_are 16 3 c.args.n (omega arith) (omega arith)), omega arith)

pub returns-then-n-lt1000000000000000000 : goal.returns-then-n-lt1000000000000000000
returns-then-n-lt1000000000000000000 c = (sym (places_are 17 2 c.args.n (omega arith) (omega arith)), omega arith)

pub returns-then-n-lt10000000000000000000 : goal.returns-then-n-lt10000000000000000000
returns-then-n-lt10000000000000000000 c = (sym (places_are 18 1 c.args.n (omega arith) (omega arith)), omega arith)

pub returns-else-n-lt10000000000000000000 : goal.returns-else-n-lt10000000000000000000
returns-else-n-lt10000000000000000000 c = (sym (places_are 19 0 c.args.n (omega arith) (omega arith)), omega arith)
