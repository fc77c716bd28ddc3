-- The exact shift is taken from the count.
use Rattle.std.proofs.Common.{◌≡◌, ap, ◌∙◌, rules, ℤ, pos, ◌-ℤ◌, SFits, w64}
use mir.Val.{to_z, of_z}
use mir.Facts.{to_z-of_z}
use Rattle.counts.specs.Exact.{count_of}
use Rattle.conversions.specs.Conversions.{E, in_nanos}
use Rattle.conversions.proofs.Shifts.{taken}
use Rattle.conversions.proofs.inner.gps_at_offset.Goals as goal

-- what the machine takes
shift : (c : goal.After-earlier)
    → to_z w64 (of_z w64 c.utc_minus_gps.result) ≡ pos E -ℤ in_nanos (c.args.offset -ℤ pos 19)
shift c =
    let fits : SFits w64 c.utc_minus_gps.result = search rules in
    to_z-of_z fits ∙ c.utc_minus_gps.ensures
    ∙ ap (λ (z : ℤ). pos E -ℤ in_nanos (z -ℤ pos 19)) (to_z-of_z c.ranges.offset)

pub returns : goal.returns
returns c =
    let a = c.args in
    rw (rw (to_z-of_z c.ranges.offset) at c.if-offset-lt-LEAST_OFFSET.false)
    (c.earlier.ensures
    ∙ ap count_of
    (ap (λ (z : ℤ). pos a.utc -ℤ z) (shift c) ∙ taken (pos a.utc) (in_nanos (a.offset -ℤ pos 19)) (pos E)))
