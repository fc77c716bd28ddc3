-- The formula of a month's start is the sum of the lengths of the months before it, from March on: computed for all
-- twelve, in a leap year and in another.
use Rattle.std.proofs.Common.{◌≡◌, ℕ, ◌+◌, ◌<◌, Bool, true, false, List, [], ◌∷◌, map, eqb, get_or, eqb→eq}
use Rattle.calendar.specs.Calendar.{days_in}
use Rattle.calendar.specs.Formula.{month_start}
use Rattle.calendar.proofs.Tested.{at}

abbrev pub sums : ℕ → List ℕ → List ℕ
sums s [] = []
sums s (n ∷ ns) = s ∷ sums (s + n) ns

abbrev pub from_march_on : List ℕ
from_march_on = 3 ∷ 4 ∷ 5 ∷ 6 ∷ 7 ∷ 8 ∷ 9 ∷ 10 ∷ 11 ∷ 12 ∷ 1 ∷ 2 ∷ []

abbrev pub starts : Bool → List ℕ
starts l = sums 0 (map (days_in l) from_march_on)

abbrev as_formula : Bool → ℕ → Bool
as_formula l m = eqb (get_or (starts l) m 0) (month_start m)

pub start_is : (l : Bool) (m : ℕ) → m < 12 → get_or (starts l) m 0 ≡ month_start m
unfolding days_in
start_is true m h = eqb→eq _ _ (at (as_formula true) 12 tt m h)
start_is false m h = eqb→eq _ _ (at (as_formula false) 12 tt m h)
