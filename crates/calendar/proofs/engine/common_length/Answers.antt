-- `common_length`: February and the months of 30 days have arms, and a test that is computed for each month tells that any
-- other has 31.
use Rattle.std.proofs.Common.{◌≡◌, ◌≢◌, sym, ap, ℕ, ◌≤◌, Bool, false, ◌||◌, arith, eqb}
use mathlib.Core.Logic.{⊎_elim}
use borrow.Author.Tests.{ne_eqb}
use lib.Dec.{eqb→eq}
use Rattle.calendar.specs.Calendar.{days_in}
use Rattle.calendar.proofs.Tested.{at}
use Rattle.calendar.proofs.engine.common_length.Goals as goal

pub returns-in-2 : goal.returns-in-2
unfolding days_in
returns-in-2 c = ap (days_in false) (sym c.in-2.is)

pub returns-in-4 : goal.returns-in-4
unfolding days_in
returns-in-4 c =
    let month : (m : ℕ) → c.args.month ≡ m → days_in false m ≡ days_in false c.args.month
    = λ m e. ap (days_in false) (sym e) in
    ⊎_elim (month 4) (⊎_elim (month 6) (⊎_elim (month 9) (month 11))) c.in-4.is

-- one of the five, or a month of 31 days
abbrev others : ℕ → Bool
others m = eqb m 2 || (eqb m 4 || (eqb m 6 || (eqb m 9 || (eqb m 11 || eqb (days_in false m) 31))))

thirty_one : (m : ℕ) → m ≤ 12 → m ≢ 2 → m ≢ 4 → m ≢ 6 → m ≢ 9 → m ≢ 11 → 31 ≡ days_in false m
unfolding days_in
thirty_one m to a b c d e =
    sym (eqb→eq _ _ (rw (ne_eqb m 2 a, ne_eqb m 4 b, ne_eqb m 6 c, ne_eqb m 9 d, ne_eqb m 11 e) at (at others 13 tt m (omega arith))))

pub returns-in_default : goal.returns-in_default
returns-in_default c = grind (arith, thirty_one)
