-- The lifted day, counted in naturals, is the formula's.
use Rattle.std.proofs.Common.{◌∙◌, ap, subst, rules, ℤ, w32, w64, FitsSigned}
use mir.Facts.{to_z-of_z}
use Rattle.calendar.specs.Formula.{month_start}
use Rattle.calendar.specs.March.{days_in_years, Lifted}
use Rattle.calendar.proofs.Eras.{of_lifted}
use Rattle.calendar.proofs.engine.days_of_date.Goals as goal

pub returns : goal.returns
returns c =
    let date = c.args.date in
    let fits : FitsSigned w32 date.year = search rules in
    to_z-of_z {w = w64} (record { sfits = c.lowered.type_inv }) ∙ c.lowered.ensures
    ∙ of_lifted date.year date.month date.day c.lifted.result c.days_before_year.result c.days_before_month.result
    (subst (λ (y : ℤ). Lifted y c.lifted.result) (to_z-of_z fits) c.lifted.ensures)
    (c.days_before_year.ensures ∙ ap days_in_years c.from_march-at.ensures.year_is)
    (c.days_before_month.ensures ∙ ap month_start c.from_march-at.ensures.month_is)
