-- The seconds of the days between two dates fit, so a date is refused exactly where its days are.
use Rattle.std.proofs.Common.{◌≡◌, sym, ap, subst, ◌∙◌, arith, ℤ, pos, ◌*ℤ◌, w64, FitsSigned, to_z, of_z}
use mir.Facts.{to_z-of_z}
use Rattle.refusals.specs.Outcome.{answered}
use Rattle.calendar.specs.Calendar.{Date}
use Rattle.calendar.specs.Answers.{date_in}
use Rattle.calendar.specs.Dates.{days_between}
use Rattle.calendar.proofs.Lifting.{Sized, apart, days_fit, seconds_fit}
use Rattle.calendar.proofs.TooEarly.{Given, given}
use Rattle.calendar.proofs.CivilDate.seconds_until.Goals as goal

module _ (a b : Date) (n : ℤ) (g : Given a b n) (s : Sized a) (t : Sized b) where
  read : to_z w64 (of_z w64 n) *ℤ pos 86400 ≡ days_between a b *ℤ pos 86400
  read =
      ap (λ (z : ℤ). z *ℤ pos 86400)
      (to_z-of_z {w = w64} (subst (FitsSigned w64) (sym g.days) (days_fit (apart a b s t))) ∙ g.days)

  fits : FitsSigned w64 (to_z w64 (of_z w64 n) *ℤ pos 86400)
  fits = subst (FitsSigned w64) (sym read) (seconds_fit (apart a b s t))

pub overflow_mul-result : goal.overflow_mul-result
overflow_mul-result c =
    fits (date_in c.args.self) (date_in c.args.other) c.in_ok-days_until.field-0 (given _ _ _ c.in_ok-days_until.ensures) (omega arith)
    (omega arith)

pub returns : goal.returns
returns c =
    let g = given (date_in c.args.self) (date_in c.args.other) c.in_ok-days_until.field-0 c.in_ok-days_until.ensures in
    ap (λ (z : ℤ). answered z)
    (to_z-of_z (overflow_mul-result c) ∙ read (date_in c.args.self) (date_in c.args.other) _ g (omega arith) (omega arith))
    ∙ g.gives _
