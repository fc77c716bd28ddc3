-- The last byte is the return.
use Rattle.std.proofs.Common.{arith}
use Rattle.published.proofs.InLine.{return_ends, nothing_ends}
use Rattle.published.proofs.inner.ends_in_return.Goals as goal

pub returns-then-n-eq0 : goal.returns-then-n-eq0
returns-then-n-eq0 c = nothing_ends c.args.line.now (omega arith)

pub returns : goal.returns
returns c = return_ends c.args.line.now (omega arith)
