-- The number of events that the count is a second past tells the entry.
use Rattle.std.proofs.Common.{sym, ap, ◌∙◌, arith}
use Rattle.builtin.specs.Reached.{told_at}
use Rattle.builtin.proofs.OneLookup.{one_lookup}
use Rattle.builtin.proofs.inner.by_utc.look_up_last.Goals as goal

pub returns : goal.returns
returns c =
    c.entry_told.ensures ∙ ap told_at c.events_past.ensures.is ∙ sym (one_lookup c.args.utc (omega arith))
