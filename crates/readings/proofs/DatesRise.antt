-- The numbers of a later day's date are above those of an earlier day's, whatever follows them: from the calendar's
-- order of dates.
use mathlib.Core.Path.{◌≡◌, refl, ap}
use mathlib.Core.Bool.{Bool, true, false, ◌&&◌, ◌||◌}
use mathlib.Core.List.{List, [], ◌∷◌}
use Prim.Native.Nat.{ℕ, ◌≤◌, ◌<◌}
use native.Mathlib.Omega.{arith}
use native.Mathlib.Decide.{dec_lt}
use borrow.Author.Tests.{lt-ltb, le-ltb}
use lib.Dec.{T}
use lib.IntN.{ℤ, pos, negsuc}
use lib.Signed.{lt_z}
use Rattle.calendar.specs.Calendar.{Date, date_of}
use Rattle.calendar.proofs.DateOrder.{Before, by_year, by_month, by_day, later_dates}
use Rattle.tables.specs.Entries.{equal}
use Rattle.tables.proofs.Integers.{equal_yes}
use Rattle.readings.specs.Order.{below}

-- ---- the order of lists
pub first_below : (x y : ℤ) (xs ys : List ℤ) → T (lt_z x y) → below (x ∷ xs) (y ∷ ys) ≡ true
unfolding below
first_below x y xs ys h = holds (lt_z x y) (equal x y && below xs ys) h
  where
    holds : (b c : Bool) → T b → (b || c) ≡ true
    holds true c h = refl
    holds false c h = absurd h

pub same_first : (x y : ℤ) (xs ys : List ℤ) → x ≡ y → below xs ys ≡ true → below (x ∷ xs) (y ∷ ys) ≡ true
unfolding below
same_first x y xs ys e h = rw (equal_yes x y e, h) (holds (lt_z x y))
  where
    holds : (b : Bool) → (b || true) ≡ true
    holds true = refl
    holds false = refl

-- a first number that is not above leaves it to the rest only where it is the same
pub not_above : (m n : ℕ) (xs ys : List ℤ) → m ≤ n → (m ≡ n → below xs ys ≡ true)
    → below (pos m ∷ xs) (pos n ∷ ys) ≡ true
unfolding below
not_above m n xs ys l rest = by_order (dec_lt m n)
  where
    by_order : Dec (m < n) → below (pos m ∷ xs) (pos n ∷ ys) ≡ true
    by_order (yes h) = rw (lt-ltb m n h)
    by_order (no h) =
        let e : m ≡ n = omega (arith, h) in
        same_first (pos m) (pos n) xs ys (ap pos e) (rest e)

pub not_itself : (xs : List ℤ) → below xs xs ≡ false
unfolding below
not_itself [] = refl
not_itself (x ∷ xs) = rw (equal_yes x x refl, not_itself xs) (not_less x)
  where
    not_less : (x : ℤ) → (lt_z x x || false) ≡ false
    not_less (pos n) = rw (le-ltb n n (omega arith))
    not_less (negsuc n) = rw (le-ltb n n (omega arith))

-- ---- dates
-- the numbers of a date, and what follows them
abbrev pub on_date : Date → List ℤ → List ℤ
on_date d xs = d.year ∷ pos d.month ∷ pos d.day ∷ xs

pub before-below : (a b : Date) (xs ys : List ℤ) → Before a b → below (on_date a xs) (on_date b ys) ≡ true
before-below a b xs ys (by_year l) = first_below a.year b.year _ _ l.lt
before-below a b xs ys (by_month e l) =
    same_first a.year b.year _ _ e
    (not_above a.month b.month _ _ (omega arith) (λ m. absurd (omega arith)))
before-below a b xs ys (by_day e m l) =
    same_first a.year b.year _ _ e
    (same_first (pos a.month) (pos b.month) _ _ (ap pos m)
    (not_above a.day b.day xs ys (omega arith) (λ d. absurd (omega arith))))

pub dates_rise : (z z' : ℕ) (xs ys : List ℤ) → z < z'
    → below (on_date (date_of (pos z)) xs) (on_date (date_of (pos z')) ys) ≡ true
dates_rise z z' xs ys h = before-below (date_of (pos z)) (date_of (pos z')) xs ys (later_dates z z' h)

pub same_date : (d : Date) (xs ys : List ℤ) → below xs ys ≡ true → below (on_date d xs) (on_date d ys) ≡ true
same_date d xs ys h =
    same_first d.year d.year _ _ refl
    (same_first (pos d.month) (pos d.month) _ _ refl
    (same_first (pos d.day) (pos d.day) xs ys refl h))
