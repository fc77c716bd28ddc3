-- The months of the calendar and the formula's days before a month, by tests that are computed for each month, in a
-- leap year or another.
use Prim.Native.Nat.{ℕ, suc, ◌+◌, ◌-◌, ◌≤◌, ◌<◌}
use mathlib.Core.Path.{◌≡◌, refl, ap, ◌∙◌}
use mathlib.Core.Logic.{◌≢◌, ⊎_elim}
use mathlib.Core.Bool.{Bool, true, false, ◌&&◌, ◌||◌, cond}
use mathlib.Core.List.{List, [], ◌∷◌}
use native.Mathlib.Omega.{arith}
use borrow.Author.Tests.{ne_eqb}
use lib.Dec.{T, eqb, leb, eqb→eq, leb→le}
use lib.ListN.{get_or}
use lib.Seq.{get_or-append-add}
use mir.Facts.{or_yes}
use Rattle.calendar.specs.Calendar.{days_in}
use Rattle.calendar.specs.Formula.{from_march, month_start}
use Rattle.calendar.proofs.Tested.{every, at}

-- the days of a year that begins in March, before a month
abbrev pub start : ℕ → ℕ
start m = month_start (from_march m)

-- ---- a test that is computed for each month, in a leap year and in another, holds of any
by_month : (test : Bool → ℕ → Bool) → T (every (test true) 13) → T (every (test false) 13) → (l : Bool) (m : ℕ)
    → m ≤ 12 → T (test l m)
by_month test t u true m to = at (test true) 13 t m (omega arith)
by_month test t u false m to = at (test false) 13 u m (omega arith)

-- ---- a month has a day
pub has_a_day : (l : Bool) (m : ℕ) → m ≤ 12 → 1 ≤ days_in l m
unfolding days_in
has_a_day l m to = leb→le 1 (days_in l m) (by_month (λ l m. leb 1 (days_in l m)) tt tt l m to)

-- ---- it lasts until the next one starts, but for February, which lasts until the year is over
abbrev fills : Bool → ℕ → Bool
fills l m = eqb m 0 || (eqb m 2 || eqb (month_start (suc (from_march m))) (start m + days_in l m))

pub month_length_lem : (l : Bool) (m : ℕ) → 1 ≤ m → m ≤ 12 → m ≢ 2 → month_start (suc (from_march m)) ≡ start m + days_in l m
unfolding days_in
month_length_lem l m from to n =
    eqb→eq _ _ (rw (ne_eqb m 0 (λ e. omega arith), ne_eqb m 2 n) at (by_month fills tt tt l m to))

pub february : (l : Bool) → start 2 + days_in l 2 ≡ cond l 366 365
unfolding days_in
february true = refl
february false = refl

-- ---- it lies within a year
pub in_year : (l : Bool) (m d : ℕ) → m ≤ 12 → d ≤ days_in l m → start m + d ≤ 366
unfolding days_in
in_year l m d to h =
    omega (arith, leb→le (start m + days_in l m) 366 (by_month (λ l m. leb (start m + days_in l m) 366) tt tt l m to))

-- ---- the 307th day from 1 March on is 1 January, or nothing
abbrev aside : Bool → ℕ → Bool
aside l m = leb (start m + days_in l m) 306 || leb 307 (start m)

pub january : (l : Bool) (m d : ℕ) → m ≤ 12 → 1 ≤ d → d ≤ days_in l m → start m + d ≡ 307 → m ≡ 1
unfolding days_in
january l m d to low high e =
    ⊎_elim (eqb→eq m 1)
    (λ t.
    ⊎_elim (λ u. absurd (omega (arith, leb→le (start m + days_in l m) 306 u)))
    (λ u. absurd (omega (arith, leb→le 307 (start m) u)))
    (or_yes (leb (start m + days_in l m) 306) (leb 307 (start m)) t))
    (or_yes (eqb m 1) (aside l m) (by_month (λ l m. eqb m 1 || aside l m) tt tt l m to))

-- ---- a leap year has one day more, in February
abbrev pub leap_day : Bool → ℕ → ℕ
leap_day l m = cond (eqb m 2 && l) 1 0

pub with_leap_day : (l : Bool) (m : ℕ) → m ≤ 12 → days_in l m ≡ days_in false m + leap_day l m
unfolding days_in
with_leap_day l m to = eqb→eq _ _ (by_month (λ l m. eqb (days_in l m) (days_in false m + leap_day l m)) tt tt l m to)

-- ---- there is no thirteenth month
pub no_more : (l : Bool) (m : ℕ) → 12 < m → days_in l m ≡ 0
unfolding days_in
no_more l m h =
    let months : List ℕ = 31 ∷ cond l 29 28 ∷ 31 ∷ 30 ∷ 31 ∷ 30 ∷ 31 ∷ 31 ∷ 30 ∷ 31 ∷ 30 ∷ 31 ∷ [] in
    let after : m - 1 ≡ 12 + (m - 13) = omega arith in
    ap (λ (i : ℕ). get_or months i 0) after ∙ get_or-append-add months [] (m - 13) 0
