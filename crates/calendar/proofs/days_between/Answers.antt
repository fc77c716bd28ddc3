-- Both days are far below 2 ^ 63, so their difference fits.
use Rattle.std.proofs.Common.{◌≡◌, sym, subst, ◌∙◌, arith, ℤ, ◌-ℤ◌, w64, FitsSigned, to_z, of_z}
use mir.Facts.{to_z-of_z}
use Rattle.calendar.specs.Calendar.{Date}
use Rattle.calendar.specs.Formula.{day_of}
use Rattle.calendar.specs.Answers.{date_in}
use Rattle.calendar.specs.Dates.{days_between}
use Rattle.calendar.proofs.Lifting.{apart, days_fit}
use Rattle.calendar.proofs.days_between.Goals as goal

read : (a b : Date) (m n : ℤ) → FitsSigned w64 m → FitsSigned w64 n → m ≡ day_of a → n ≡ day_of b
    → to_z w64 (of_z w64 n) -ℤ to_z w64 (of_z w64 m) ≡ days_between a b
read a b m n f g d e = λ i. (to_z-of_z g ∙ e) i -ℤ (to_z-of_z f ∙ d) i

pub overflow_sub-result : goal.overflow_sub-result
overflow_sub-result c =
    subst (FitsSigned w64)
    (sym (read (date_in c.args.from) (date_in c.args.to) c.days_of_date-2.result c.days_of_date.result
    (record { sfits = c.days_of_date-2.type_inv }) (record { sfits = c.days_of_date.type_inv })
    c.days_of_date-2.ensures c.days_of_date.ensures))
    (days_fit (apart _ _ (omega arith) (omega arith)))

pub returns : goal.returns
returns c =
    to_z-of_z (overflow_sub-result c)
    ∙ read (date_in c.args.from) (date_in c.args.to) c.days_of_date-2.result c.days_of_date.result
    (record { sfits = c.days_of_date-2.type_inv }) (record { sfits = c.days_of_date.type_inv })
    c.days_of_date-2.ensures c.days_of_date.ensures
