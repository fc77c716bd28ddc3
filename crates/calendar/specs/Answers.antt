-- What a date says in plain values.
use Rattle.calendar.specs.Calendar.{Date, on}
use Rattle.calendar.specs.declared.CivilDate.{CivilDate}

abbrev pub date_in : CivilDate → Date
date_in d = on d.year d.month d.day
