-- The test of the fields, and then their count.
use Rattle.std.proofs.Common.{sym, rules}
use Rattle.builtin.proofs.Regular.{builtin_on_days}
use Rattle.readings.proofs.by_builtin.civil_to_gps.Goals as goal

pub returns : goal.returns
returns c = rw (builtin_on_days, sym c.in_ok-check.ensures) c.in_ok-count_of.ensures

pub returns-in_err-check : goal.returns-in_err-check
returns-in_err-check c = rw (builtin_on_days, sym c.in_err-check.ensures) (search rules)

pub returns-in_err-count_of : goal.returns-in_err-count_of
returns-in_err-count_of c = rw (builtin_on_days, sym c.in_ok-check.ensures) (search rules)
