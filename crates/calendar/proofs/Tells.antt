-- What a date says in plain values tells which date it is.
use mathlib.Core.Path.{◌≡◌, ap}
use Rattle.calendar.specs.Calendar.{Date}
use Rattle.calendar.specs.Answers.{date_in}
use Rattle.calendar.specs.declared.CivilDate.{CivilDate}

pub date_tells : (x y : CivilDate) → date_in x ≡ date_in y → x ≡ y
date_tells x y e = ap (λ (d : Date). record { year = d.year; month = d.month; day = d.day }) e
