-- What the calls of a date answer.
use Rattle.std.specs.Prelude.{Bool, false, ◌&&◌, ◌||◌, cond, ℕ, ◌*◌, eqb, ltb, ℤ, pos, negsuc, ◌-ℤ◌, ◌*ℤ◌}
use Rattle.refusals.specs.Outcome.{Outcome, answered, refused}
use Rattle.counts.specs.Exact.{duration_of}
use Rattle.counts.specs.Units.{second, day_seconds}
use Rattle.calendar.specs.Calendar.{Date}
use Rattle.calendar.specs.Formula.{day_of}

-- the Unix day of 1972-01-01, where UTC counts begin
abbrev pub utc_epoch_day : ℕ
utc_epoch_day = 730

-- the year −2,147,483,648, before which there is none of 32 bits
abbrev pub least_year : ℤ → Bool
least_year (pos a) = false
least_year (negsuc a) = eqb a 2147483647

-- the year of its March is no year of 32 bits
abbrev pub too_early : Date → Bool
too_early d = least_year d.year && ltb d.month 3

abbrev pub days_between : Date → Date → ℤ
days_between a b = day_of b -ℤ day_of a

abbrev pub days_from_unix : Date → Outcome ℤ
days_from_unix d = cond (too_early d) (refused 1) (answered (day_of d))

-- what two dates give, refused 1 where one is too early
abbrev pub of_both : Date → Date → Outcome ℤ → Outcome ℤ
of_both a b o = cond (too_early a || too_early b) (refused 1) o

abbrev pub days_until : Date → Date → Outcome ℤ
days_until a b = of_both a b (answered (days_between a b))

abbrev pub seconds_until : Date → Date → Outcome ℤ
seconds_until a b = of_both a b (answered (days_between a b *ℤ pos day_seconds))

-- 1 also where it is no signed 64-bit number
abbrev pub nanos_until : Date → Date → Outcome ℤ
nanos_until a b = of_both a b (duration_of (days_between a b *ℤ pos (day_seconds * second)))
