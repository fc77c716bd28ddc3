-- Years that begin on 1 March, counted from 0000-03-01: only the contracts of private functions speak of them.
use Rattle.std.specs.Prelude.{◌≡◌, cond, ℕ, suc, ◌+◌, ◌-◌, ◌*◌, ◌/◌, ◌≤◌, ◌<◌, ◌^◌, ltb, ℤ}
use Rattle.std.proofs.Math.IntN.{sub_ℕ}
use Rattle.calendar.specs.Formula.{from_march, month_start}

-- days in the first y years
abbrev pub days_in_years : ℕ → ℕ
days_in_years y = 365 * y + y / 4 + y / 400 - y / 100

-- the year that began in the March before, or of, a month of a natural year
abbrev pub march_of : ℕ → ℕ → ℕ
march_of y m = cond (ltb 2 m) y (y - 1)

-- month m of year y, counted from March on, is a month of a natural year
pub record FromMarch (year month y m : ℕ) : Type 0 where
  pub year_is : y ≡ march_of year month
  pub month_is : m ≡ from_march month
  pub year_most : y ≤ year
  pub month_most : m ≤ month + 9

-- day n, from 0 on, is day k of year y
pub record InYear (n y k : ℕ) : Type 0 where
  pub begun : days_in_years y + k ≡ n
  pub ahead : n < days_in_years (suc y)

-- day k of a year is in its month m
pub record InMonth (k m : ℕ) : Type 0 where
  pub few : m < 12
  pub begun : month_start m ≤ k
  pub ahead : k < month_start (suc m)

-- the number of 1970-01-01 where the first of the days from `eras` eras before 0000-03-01 on has number 1
abbrev pub epoch_number : ℕ → ℕ
epoch_number eras = 146097 * eras + 719469

-- eras of 400 years by which a year of 32 bits is lifted above 0
abbrev pub lift_eras : ℕ
lift_eras = 5368710

pub record Lifted (y : ℤ) (l : ℕ) : Type 0 where
  pub is : y ≡ sub_ℕ l (400 * lift_eras)
  pub low : 1 ≤ l
  pub high : l < 2 ^ 33
