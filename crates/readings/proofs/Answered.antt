-- Fields that GPS to civil answers are the reading of the count.
use mathlib.Core.Path.{◌≡◌, refl}
use mathlib.Core.Bool.{Bool, true, false, cond}
use mathlib.Core.List.{List}
use Prim.Native.Nat.{ℕ}
use Rattle.refusals.specs.Outcome.{Outcome, answered, refused, changed}
use Rattle.refusals.proofs.Given.{no_refusal}
use Rattle.civil.specs.declared.CivilDateTime.{CivilDateTime}
use Rattle.tables.specs.Entries.{Entry, on_days}
use Rattle.conversions.specs.Conversions.{gps_to_utc}
use Rattle.readings.specs.Readings.{reading_of, gps_to_civil}

pub is_reading : (es : List Entry) (gps : ℕ) (c : CivilDateTime) → gps_to_civil es gps ≡ answered c → reading_of es gps ≡ c
is_reading es gps c = go (on_days es) (gps_to_utc es gps)
  where
    go : (d : Bool) (o : Outcome ℕ) → cond d (changed (λ (utc : ℕ). reading_of es gps) o) (refused 13) ≡ answered c
        → reading_of es gps ≡ c
    go true (answered utc) e = cc
    go true (refused k) e = absurd (no_refusal _ e refl)
    go false o e = absurd (no_refusal _ e refl)
