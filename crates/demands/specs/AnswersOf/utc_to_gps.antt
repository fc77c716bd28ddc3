-- `conversions::utc_to_gps`: what its contract says of the answer.
use Rattle.std.specs.Prelude.{Result}
use Rattle.refusals.specs.declared.Refusal.{Refusal}
use Rattle.conversions.proofs.utc_to_gps.Reads as call
use Rattle.demands.specs.AnswersOf.{About, OfAnswer}
use Rattle.scales.specs.declared.gps.Gps.{Gps}

abbrev pub Post : About call.Post (Result Gps Refusal)
Post = OfAnswer call.Post (λ κ d. d.answer)
