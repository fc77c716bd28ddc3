-- UTC less TAI, which is E − offset, is taken from the count.
use Rattle.std.proofs.Common.{ap, ◌∙◌, rules, ℤ, pos, ◌-ℤ◌, w64, SFits}
use mir.Facts.{to_z-of_z}
use Rattle.counts.specs.Exact.{count_of}
use Rattle.conversions.specs.Conversions.{E, in_nanos}
use Rattle.conversions.proofs.Shifts.{taken}
use Rattle.builtin.proofs.events.tai_at.Goals as goal

pub returns : goal.returns
returns c =
    let a = c.args in
    let fits : SFits w64 c.utc_minus_tai.result = search rules in
    c.earlier.ensures
    ∙ ap count_of (ap (λ (z : ℤ). pos a.utc -ℤ z)
    (to_z-of_z fits ∙ c.utc_minus_tai.ensures ∙ ap (λ (z : ℤ). pos E -ℤ in_nanos z) (to_z-of_z c.ranges.offset))
    ∙ taken (pos a.utc) (in_nanos a.offset) (pos E))
