-- The dates that the calendar has. Whether it has one is a test that computes.
use mathlib.Core.Path.{◌≡◌, sym, subst}
use mathlib.Core.Bool.{Bool, true, ◌&&◌}
use Prim.Native.Nat.{◌≤◌}
use borrow.Author.Tests.{le-leb}
use lib.Dec.{T, leb, leb→le}
use mir.Facts.{and_yes}
use Rattle.calendar.specs.Calendar.{Date, month_length, has_month, has_day}

-- a date that the calendar has
pub record Real (d : Date) : Type 0 where
  pub month_from : 1 ≤ d.month
  pub month_to : d.month ≤ 12
  pub day-from : 1 ≤ d.day
  pub day_to : d.day ≤ month_length d.year d.month

abbrev pub is_real : Date → Bool
is_real d = has_month d && has_day d

tested : (d : Date) → T (has_month d) → T (has_day d) → Real d
tested d m e =
    let month = and_yes (leb 1 d.month) (leb d.month 12) m in
    let day = and_yes (leb 1 d.day) (leb d.day (month_length d.year d.month)) e in
    record {
      month_from = leb→le 1 d.month month.0;
      month_to = leb→le d.month 12 month.1;
      day-from = leb→le 1 d.day day.0;
      day_to = leb→le d.day _ day.1;
    }

pub real : (d : Date) → T (is_real d) → Real d
real d t = let both = and_yes (has_month d) (has_day d) t in tested d both.0 both.1

pub both_pass : (d : Date) → has_month d ≡ true → has_day d ≡ true → Real d
both_pass d m e = tested d (subst T (sym m) tt) (subst T (sym e) tt)

module _ {d : Date} (r : Real d) where
  pub month_passes : has_month d ≡ true
  month_passes = rw (le-leb 1 d.month r.month_from, le-leb d.month 12 r.month_to)

  pub day_passes : has_day d ≡ true
  day_passes = rw (le-leb 1 d.day r.day-from, le-leb d.day (month_length d.year d.month) r.day_to)

  pub is_real_lem : is_real d ≡ true
  is_real_lem = rw (month_passes, day_passes)
