-- The exact shift is taken from the count.
use Rattle.std.specs.Prelude.{Result, Ok, Err}
use Rattle.std.specs.Result.{result_unwrap_or}
use Rattle.std.proofs.Common.{◌≡◌, refl, ap, ◌∙◌, rules, ℕ, ℤ, pos, ◌-ℤ◌, SFits, w64}
use mir.Val.{to_z, of_z}
use mir.Facts.{to_z-of_z}
use Rattle.refusals.specs.Outcome.{value_in, outcome_in}
use Rattle.refusals.specs.declared.Refusal.{Refusal}
use Rattle.counts.specs.Exact.{count_of}
use Rattle.conversions.specs.Conversions.{E, in_nanos}
use Rattle.conversions.proofs.Shifts.{taken}
use Rattle.conversions.proofs.inner.second_reading.Goals as goal

-- what was answered, or the other count
answer_or : (r : Result ℕ Refusal) (other : ℕ) → result_unwrap_or r other ≡ value_in other (outcome_in r)
answer_or (Ok n) other = refl
answer_or (Err k) other = refl

-- what the machine takes
shift : (c : goal.After-unwrap_or) → to_z w64 (of_z w64 c.utc_minus_tai.result) ≡ pos E -ℤ in_nanos c.args.offset
shift c =
    let fits : SFits w64 c.utc_minus_tai.result = search rules in
    to_z-of_z fits ∙ c.utc_minus_tai.ensures ∙ ap (λ (z : ℤ). pos E -ℤ in_nanos z) (to_z-of_z c.ranges.offset)

pub returns : goal.returns
returns c =
    let a = c.args in
    c.unwrap_or.ensures ∙ answer_or c.earlier.result a.first
    ∙ ap (value_in a.first)
    (c.earlier.ensures
    ∙ ap count_of (ap (λ (z : ℤ). pos a.utc -ℤ z) (shift c) ∙ taken (pos a.utc) (in_nanos a.offset) (pos E)))
