-- What an answer on each scale says in plain values.
use Rattle.std.specs.Prelude.{ℕ, Result}
use Rattle.refusals.specs.Outcome.{Outcome, outcome_in, changed}
use Rattle.refusals.specs.declared.Refusal.{Refusal}
use Rattle.scales.specs.declared.gps.Gps.{Gps}
use Rattle.scales.specs.declared.utc.Utc.{Utc}
use Rattle.scales.specs.declared.glonass.Glonass.{Glonass}
use Rattle.scales.specs.declared.tai.Tai.{Tai}
use Rattle.scales.specs.declared.galileo.Galileo.{Galileo}
use Rattle.scales.specs.declared.beidou.Beidou.{Beidou}

abbrev pub gps_in : Result Gps Refusal → Outcome ℕ
gps_in r = changed (λ t. t.0) (outcome_in r)

abbrev pub utc_in : Result Utc Refusal → Outcome ℕ
utc_in r = changed (λ t. t.0) (outcome_in r)

abbrev pub glonass_in : Result Glonass Refusal → Outcome ℕ
glonass_in r = changed (λ t. t.0) (outcome_in r)

abbrev pub tai_in : Result Tai Refusal → Outcome ℕ
tai_in r = changed (λ t. t.0) (outcome_in r)

abbrev pub galileo_in : Result Galileo Refusal → Outcome ℕ
galileo_in r = changed (λ t. t.0) (outcome_in r)

abbrev pub beidou_in : Result Beidou Refusal → Outcome ℕ
beidou_in r = changed (λ t. t.0) (outcome_in r)
