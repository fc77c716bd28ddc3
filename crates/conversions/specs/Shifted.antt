-- Conversions of a scale whose counts are those of GPS less a fixed number d of nanoseconds: it begins where the GPS
-- count is d.
use Rattle.std.specs.Prelude.{Bool, false, cond, ◌&&◌, List, ℕ, ◌+◌, leb, eqb}
use Rattle.refusals.specs.Outcome.{Outcome, answered, refused, value_in, then, changed}
use Rattle.counts.specs.Exact.{up, down}
use Rattle.counts.specs.Units.{second}
use Rattle.scales.specs.Scales.{tai_minus_gps}
use Rattle.tables.specs.Entries.{Entry, regular}
use Rattle.conversions.specs.Conversions.{glonass_epoch, gps_to_utc, last_reading, utc_to_gps}

abbrev pub shifted_to_utc : ℕ → List Entry → ℕ → Outcome ℕ
shifted_to_utc d es n = then (up d n) (gps_to_utc es)

-- whether two outcomes are the same answer
abbrev pub same_answer : Outcome ℕ → Outcome ℕ → Bool
same_answer (answered m) (answered n) = eqb m n
same_answer (answered m) (refused k) = false
same_answer (refused k) o = false

-- the later of two GPS counts that share a UTC count under a regular table, a second after the earlier; 1 where there
-- is none
abbrev pub later_of : List Entry → ℕ → Outcome ℕ
later_of es earlier =
    let later = earlier + second in
    cond (regular es && same_answer (gps_to_utc es earlier) (gps_to_utc es later)) (answered later) (refused 1)

-- by the later GPS count where the earlier is before the scale's epoch
abbrev pub utc_to_shifted : ℕ → List Entry → ℕ → Outcome ℕ
utc_to_shifted d es utc =
    then (utc_to_gps es utc) (λ gps. then (cond (leb d gps) (answered gps) (later_of es gps)) (down d))

-- and the TAI reading that is looked up last: that of the later count where the earlier is before the scale's epoch
abbrev pub shifted_reading : ℕ → List Entry → ℕ → ℕ
shifted_reading d es utc =
    value_in 0 (changed (λ gps. cond (leb d gps) (last_reading es utc) (gps + second + tai_minus_gps)) (utc_to_gps es utc))

-- ---- by way of UTC
abbrev pub shifted_to_glonass : ℕ → List Entry → ℕ → Outcome ℕ
shifted_to_glonass d es n = then (shifted_to_utc d es n) (down glonass_epoch)

abbrev pub glonass_to_shifted : ℕ → List Entry → ℕ → Outcome ℕ
glonass_to_shifted d es glonass = then (up glonass_epoch glonass) (utc_to_shifted d es)
