-- The year and the month that hold the day give its date.
use Rattle.std.proofs.Common.{◌∙◌, ◌+◌, arith}
use Rattle.calendar.proofs.DateOfDay.{early, late}
use Rattle.calendar.proofs.engine.date_of_utc_day.Goals as goal

pub returns-then-month-lt10 : goal.returns-then-month-lt10
returns-then-month-lt10 c =
    c.date_of.ensures
    ∙ early (c.args.day + 720198) (c.args.day + 730) c.year_holding-held.result.year c.month_holding-month.result
    c.year_holding-held.result.day c.days_before_month.result (omega arith) c.year_holding-held.ensures
    c.month_holding-month.ensures c.days_before_month.ensures c.if-month-lt10.true

pub returns-else-month-lt10 : goal.returns-else-month-lt10
returns-else-month-lt10 c =
    c.date_of-else-month-lt10.ensures
    ∙ late (c.args.day + 720198) (c.args.day + 730) c.year_holding-held.result.year c.month_holding-month.result
    c.year_holding-held.result.day c.days_before_month.result (omega arith) c.year_holding-held.ensures
    c.month_holding-month.ensures c.days_before_month.ensures c.if-month-lt10.false
