-- One lookup, at the TAI reading, in a table that is on days; or what the step to TAI refuses.
use Rattle.std.proofs.Common.{refl, ◌∙◌}
use Rattle.std.proofs.lemmas.Result.{err_from_is_err_and}
use Rattle.builtin.specs.Builtin.{builtin}
use Rattle.builtin.proofs.Regular.{builtin_on_days}
use Rattle.readings.proofs.ByLookup.{read_by}
use Rattle.readings.proofs.by_builtin.gps_to_civil.Goals as goal

pub returns : goal.returns
returns c =
    c.read.ensures
    ∙ read_by builtin builtin_on_days c.args.gps.0 c.tai_of-tai.ensures (rw c.in_ok-tai.was)
    (c.entry_told.ensures ∙ c.event_at.ensures.is)

pub returns-in_err-tai : goal.returns-in_err-tai
returns-in_err-tai c =
    let refused = read_by builtin builtin_on_days c.args.gps.0 c.tai_of-tai.ensures refl refl in
    let e = err_from_is_err_and c.from_residual.result c.from_residual.ensures.1 in
    rw (e.1, e.2) (rw c.in_err-tai.was at refused)
