-- The TAI reading at which an answer may be stale may be named by the count that was given or answered.
use mathlib.Core.Path.{◌≡◌, refl, ap}
use mathlib.Core.Bool.{Bool, true, false, cond}
use mathlib.Core.List.{List}
use Prim.Native.Nat.{ℕ, ◌+◌, ◌^◌, ◌<◌}
use lib.Dec.{ltb}
use Rattle.refusals.specs.Outcome.{Outcome, answered, refused, value_in, then, changed}
use Rattle.counts.specs.Exact.{up}
use Rattle.counts.proofs.Fitting.{is_count}
use Rattle.scales.specs.Scales.{tai_minus_gps}
use Rattle.civil.specs.declared.CivilDateTime.{CivilDateTime}
use Rattle.tables.specs.Entries.{Entry, on_days, offset_at}
use Rattle.tables.specs.Expiry.{stale_at, dated}
use Rattle.conversions.specs.Conversions.{utc_at_offset}
use Rattle.readings.specs.Readings.{reading_of, gps_to_civil}

-- where a GPS count has no TAI reading it is refused, and not stale
pub at_count : (x : ℕ) (es : List Entry) (g : ℕ) → on_days es ≡ true
    → dated (stale_at x (value_in 0 (up tai_minus_gps g))) (gps_to_civil es g)
    ≡ dated (stale_at x (g + tai_minus_gps)) (gps_to_civil es g)
at_count x es g d = rw d (go (ltb (g + tai_minus_gps) (2 ^ 64)))
  where
    go : (fits : Bool) → let tai = cond fits (answered (g + tai_minus_gps)) (refused 1) in
        let o : Outcome CivilDateTime = changed (λ (u : ℕ). reading_of es g) (then tai (λ t. utc_at_offset (offset_at es t) g)) in
        dated (stale_at x (value_in 0 tai)) o ≡ dated (stale_at x (g + tai_minus_gps)) o
    go true = refl
    go false = refl

-- a GPS count that is answered has a TAI reading
pub at-answer : (x : ℕ) (o : Outcome ℕ) → ((g : ℕ) → o ≡ answered g → g + tai_minus_gps < 2 ^ 64)
    → dated (stale_at x (value_in 0 (then o (up tai_minus_gps)))) o ≡ dated (stale_at x (value_in 0 o + tai_minus_gps)) o
at-answer x (refused k) fits = refl
at-answer x (answered g) fits = ap (λ (t : Outcome ℕ). dated (stale_at x (value_in 0 t)) (answered g)) (is_count _ (fits g refl))
