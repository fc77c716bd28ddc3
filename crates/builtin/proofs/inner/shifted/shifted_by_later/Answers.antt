-- The table by value is valid, and the difference is subtracted from the later count.
use Rattle.std.proofs.Common.{◌≡◌, ap, ◌∙◌, true, ℕ, List, arith}
use Rattle.refusals.specs.Outcome.{Outcome, then}
use Rattle.counts.specs.Exact.{down}
use Rattle.tables.specs.Entries.{Entry}
use Rattle.tables.specs.Slots.{entries_of, valid_table, table_of}
use Rattle.tables.proofs.Buildings.{table_list, table_valid}
use Rattle.conversions.specs.Shifted.{later_of}
use Rattle.builtin.specs.Builtin.{builtin, events, entries_from}
use Rattle.builtin.proofs.Regular.{builtin-valid}
use Rattle.builtin.proofs.inner.shifted.shifted_by_later.Goals as goal

table_is_valid : valid_table (table_of builtin) ≡ true
unfolding builtin events entries_from
table_is_valid = table_valid builtin (omega arith) builtin-valid

pub later_of-requires : goal.later_of-requires
later_of-requires c = ap valid_table c.from_builtin.ensures ∙ table_is_valid

pub returns : goal.returns
returns c =
    c.down.ensures
    ∙ ap (λ (o : Outcome ℕ). then o (down c.args.behind))
    (c.later_of.ensures
    ∙ ap (λ (es : List Entry). later_of es c.args.gps) (ap entries_of c.from_builtin.ensures ∙ table_list builtin))
