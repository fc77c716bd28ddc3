-- The offset of the last entry, or 19.
use Rattle.std.proofs.Common.{rules, of_calls, ap, ◌∙◌, w32}
use mir.Facts.{to_z-of_z}
use Rattle.refusals.specs.Outcome.{answered}
use Rattle.tables.proofs.Checked.{told}
use Rattle.tables.proofs.Joining.{current_told}
use Rattle.tables.proofs.LeapTable.current_tai_minus_utc.Goals as goal

pub returns : goal.returns
returns c =
    let k = told c.args.self c.in_ok-of.ensures in
    rw k.0
    (ap answered
    (to_z-of_z {w = w32} {z = c.map_or.result} (search rules) ∙ current_told c.last-last.result _ (rw k.1 at c.last-last.ensures) c.map_or.result (search (rules, of_calls))))
