-- Each constant is what the formula, computed, says between its two epochs.
use Rattle.calendar.specs.Formula.{era, yoe, doy, doe, formula}
use Rattle.calendar.proofs.epochs.EpochSpan.length.Goals as goal

pub returns-in-DaysUnixToGps : goal.returns-in-DaysUnixToGps
unfolding era yoe doy doe formula
returns-in-DaysUnixToGps c = rw c.in-DaysUnixToGps.is

pub returns-in-DaysGpsToGlonass : goal.returns-in-DaysGpsToGlonass
unfolding era yoe doy doe formula
returns-in-DaysGpsToGlonass c = rw c.in-DaysGpsToGlonass.is

pub returns-in-DaysGpsToGalileo : goal.returns-in-DaysGpsToGalileo
unfolding era yoe doy doe formula
returns-in-DaysGpsToGalileo c = rw c.in-DaysGpsToGalileo.is

pub returns-in-DaysGpsToBeidou : goal.returns-in-DaysGpsToBeidou
unfolding era yoe doy doe formula
returns-in-DaysGpsToBeidou c = rw c.in-DaysGpsToBeidou.is

pub returns-in-SecondsUnixToUtc : goal.returns-in-SecondsUnixToUtc
unfolding era yoe doy doe formula
returns-in-SecondsUnixToUtc c = rw c.in-SecondsUnixToUtc.is

pub returns-in-SecondsUnixToGps : goal.returns-in-SecondsUnixToGps
unfolding era yoe doy doe formula
returns-in-SecondsUnixToGps c = rw c.in-SecondsUnixToGps.is

pub returns-in-NanosUnixToUtc : goal.returns-in-NanosUnixToUtc
unfolding era yoe doy doe formula
returns-in-NanosUnixToUtc c = rw c.in-NanosUnixToUtc.is

pub returns-in-NanosGpsToGalileo : goal.returns-in-NanosGpsToGalileo
unfolding era yoe doy doe formula
returns-in-NanosGpsToGalileo c = rw c.in-NanosGpsToGalileo.is

pub returns-in-NanosGpsToBeidou : goal.returns-in-NanosGpsToBeidou
unfolding era yoe doy doe formula
returns-in-NanosGpsToBeidou c = rw c.in-NanosGpsToBeidou.is
