-- A date and a time of day in UTC, the fields of a count, and the count of any fields.
use Rattle.std.specs.Prelude.{cond, ℕ, ◌+◌, ◌*◌, ◌/◌, ◌%◌, ℤ, pos, nat_abs, ◌-ℤ◌}
use Rattle.std.specs.Int.Signed.{non_neg}
use Rattle.refusals.specs.Outcome.{Outcome, refused}
use Rattle.counts.specs.Exact.{count_of}
use Rattle.counts.specs.Units as units
use Rattle.calendar.specs.Calendar as calendar
use Rattle.calendar.specs.Formula.{day_of}
use Rattle.calendar.specs.Dates.{utc_epoch_day}
use Rattle.civil.specs.declared.CivilDateTime.{CivilDateTime}

-- fields one by one, whether or not a clock shows them
abbrev pub fields : ℤ → ℕ → ℕ → ℕ → ℕ → ℕ → ℕ → CivilDateTime
fields y mo d h mi s n = record { year = y; month = mo; day = d; hour = h; minute = mi; second = s; nanos = n }

abbrev pub date_in : CivilDateTime → calendar.Date
date_in c = calendar.on c.year c.month c.day

-- the fields of a date and of the time of day after s seconds and n nanoseconds
abbrev pub fields_on : calendar.Date → ℕ → ℕ → CivilDateTime
fields_on d s n = fields d.year d.month d.day (s % units.day_seconds / 3600) (s % 3600 / 60) (s % 60) n

-- the fields of the UTC second s, counted from 1972-01-01, and of n nanoseconds after it
abbrev pub fields_at : ℕ → ℕ → CivilDateTime
fields_at s n = fields_on (calendar.date_of (pos (s / units.day_seconds + utc_epoch_day))) s n

-- the fields of a count
abbrev pub fields_of : ℕ → CivilDateTime
fields_of n = fields_at (n / units.second) (n % units.second)

-- the nanoseconds of the time of day, whatever its fields
abbrev pub time_of : CivilDateTime → ℕ
time_of c = (c.hour * 3600 + c.minute * 60 + c.second) * units.second + c.nanos

-- the count of a time on a day from 1972-01-01 on: 1 before it, and where the sum is no count
abbrev pub on_day : ℤ → ℕ → Outcome ℕ
on_day d t = cond (non_neg d) (count_of (pos (nat_abs d * (units.day_seconds * units.second) + t))) (refused 1)

-- the count of any fields, by the day that the formula gives their date
abbrev pub count_at : CivilDateTime → Outcome ℕ
count_at c = on_day (day_of (date_in c) -ℤ pos utc_epoch_day) (time_of c)
