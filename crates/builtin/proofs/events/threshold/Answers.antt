-- The table's rule, because UTC − E + offset is.
use Rattle.std.proofs.Common.{sym, ap, ◌∙◌, ℕ, ℤ, pos, ◌+ℤ◌, ◌-ℤ◌}
use mir.Facts.{to_z-of_z}
use Rattle.refusals.proofs.Steps.{goes_on}
use Rattle.counts.specs.Exact.{count_of}
use Rattle.calendar.specs.Answers.{date_in}
use Rattle.conversions.specs.Conversions.{E, in_nanos}
use Rattle.builtin.specs.Builtin.{threshold_of}
use Rattle.builtin.proofs.EventEntries.{by_utc_lem}
use Rattle.builtin.proofs.events.threshold.Goals as goal

pub returns : goal.returns
returns c =
    let d = date_in c.args.date in
    let n = c.args.tai_minus_utc in
    let midnight_is = sym c.in_ok-utc_at_midnight.ensures in
    c.tai_at.ensures
    ∙ ap (λ (z : ℤ). count_of (pos c.in_ok-utc_at_midnight.field-0 -ℤ pos E +ℤ in_nanos z)) (to_z-of_z c.ranges.tai_minus_utc)
    ∙ ap count_of (sym (by_utc_lem d n c.in_ok-utc_at_midnight.field-0 midnight_is))
    ∙ sym (goes_on (λ (u : ℕ). count_of (threshold_of d n)) midnight_is)
