-- What an answer by a table says in plain values.
use Rattle.std.specs.Prelude.{Bool, ℕ}
use Rattle.refusals.specs.Outcome.{Outcome, outcome_in, changed}
use Rattle.scales.specs.declared.gps.Gps.{Gps}
use Rattle.scales.specs.declared.utc.Utc.{Utc}
use Rattle.scales.specs.declared.glonass.Glonass.{Glonass}
use Rattle.tables.specs.declared.Dated.{Dated}

-- on a scale, by its counts
abbrev pub dated_on : {S : Type 0} → (S → ℕ) → Dated S → Outcome ℕ × Bool
dated_on count r = (changed count (outcome_in r.answer), r.stale)

abbrev pub dated_gps_in : Dated Gps → Outcome ℕ × Bool
dated_gps_in = dated_on (λ t. t.0)

abbrev pub dated_utc_in : Dated Utc → Outcome ℕ × Bool
dated_utc_in = dated_on (λ t. t.0)

abbrev pub dated_glonass_in : Dated Glonass → Outcome ℕ × Bool
dated_glonass_in = dated_on (λ t. t.0)
