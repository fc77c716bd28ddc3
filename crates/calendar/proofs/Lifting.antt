-- Years of 32 bits counted from 5,368,710 eras before year 0, and the days between two dates counted in naturals.
use mathlib.Core.Path.{◌≡◌, refl, sym, ap, subst, ◌∙◌}
use Prim.Native.Nat.{ℕ, suc, ◌+◌, ◌-◌, ◌*◌, ◌<◌, ◌^◌}
use native.Mathlib.Omega.{arith}
use mathlib.Core.Bool.{Bool, true, false, cond}
use lib.Dec.{ltb}
use lib.IntN.{ℤ, pos, negsuc, sub_ℕ, ◌+ℤ◌, ◌-ℤ◌, ◌*ℤ◌}
use lib.Signed.{mag}
use mir.Syntax.{w64}
use mir.Val.{SFits}
use Rattle.counts.proofs.Difference.{not_below, below, same}
use Rattle.counts.specs.Units.{day_seconds}
use Rattle.calendar.specs.Calendar.{Date}
use Rattle.calendar.specs.Formula.{month_start, day_of}
use Rattle.calendar.specs.March.{days_in_years, epoch_number, lift_eras, Lifted}
use Rattle.calendar.specs.Dates.{days_between}
use Rattle.calendar.proofs.Sums.{difference, times, magnitude}
use Rattle.calendar.proofs.Eras.{day_number, counted}

pub record Raised (z : ℤ) : Type 0 where
  pub by : ℕ
  pub sum : z +ℤ pos 2147484000 ≡ pos by
  pub lifted : Lifted z by

pub raised : (z : ℤ) → mag z < 2 ^ 31 → Raised z
raised (pos a) h =
    record {
      by = a + 2147484000;
      sum = refl;
      lifted = record {
        is = sym (not_below (a + 2147484000) 2147484000 (omega arith) ∙ ap pos (omega arith));
        low = omega arith;
        high = omega arith;
      };
    }
raised (negsuc a) h =
    record {
      by = 2147483999 - a;
      sum = not_below 2147484000 (suc a) (omega arith) ∙ ap pos (omega arith);
      lifted = record { is = sym (below (2147483999 - a) 2147484000 (omega arith) ∙ ap negsuc (omega arith)); low = omega arith; high = omega arith };
    }

-- a date whose fields fit their types
pub record Sized (d : Date) : Type 0 where
  pub year : mag d.year < 2 ^ 31
  pub month : d.month < 256
  pub day : d.day < 256

pub record NaturalDay (z : ℤ) : Type 0 where
  pub day : ℕ
  pub is : z ≡ sub_ℕ day (epoch_number lift_eras)
  pub small : day < 2 ^ 42

pub natural_day : (d : Date) → Sized d → NaturalDay (day_of d)
natural_day d s =
    let r = raised d.year s.year in
    record {
      day = day_number r.by d.month d.day;
      is = counted d.year d.month d.day r.by lift_eras r.lifted.is r.lifted.low;
      small = bound (ltb 2 d.month) r.by d.month d.day r.lifted.high s.month s.day;
    }
  where
    bound : (b : Bool) (n m d : ℕ) → n < 2 ^ 33 → m < 256 → d < 256
        → days_in_years (cond b n (n - 1)) + (month_start (cond b (m - 3) (m + 9)) + d) < 2 ^ 42
    bound true n m d h k l = omega arith
    bound false n m d h k l = omega arith

-- the days from one date to another
pub record Apart (z : ℤ) : Type 0 where
  pub from : ℕ
  pub to : ℕ
  pub is : z ≡ sub_ℕ to from
  pub from_small : from < 2 ^ 42
  pub to_small : to < 2 ^ 42

pub apart : (a b : Date) → Sized a → Sized b → Apart (days_between a b)
apart a b s t =
    let x = natural_day a s in
    let y = natural_day b t in
    record {
      from = x.day;
      to = y.day;
      is = (λ i. y.is i -ℤ x.is i) ∙ difference y.day (epoch_number lift_eras) x.day (epoch_number lift_eras)
          ∙ same (y.day + (epoch_number lift_eras)) (epoch_number lift_eras + x.day) y.day x.day (omega arith);
      from_small = x.small;
      to_small = y.small;
    }

module _ {z : ℤ} (a : Apart z) where
  pub days_fit : SFits w64 z
  days_fit =
      subst (SFits w64) (sym a.is) (record {
        sfits = magnitude a.to a.from _ (omega (arith, a.to_small))
            (omega (arith, a.from_small));
      })

  pub seconds_fit : SFits w64 (z *ℤ pos day_seconds)
  seconds_fit =
      subst (SFits w64) (sym (ap (λ (x : ℤ). x *ℤ pos day_seconds) a.is ∙ times a.to a.from day_seconds))
      (record { sfits = magnitude (a.to * day_seconds) (a.from * day_seconds) _ (omega (arith, a.to_small)) (omega (arith, a.from_small)) })
