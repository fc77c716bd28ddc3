-- `readings::by_image::gps_to_civil`: what its contract says of the answer.
use Rattle.std.specs.Prelude.{Result}
use Rattle.refusals.specs.declared.Refusal.{Refusal}
use Rattle.readings.proofs.by_image.gps_to_civil.Reads as call
use Rattle.demands.specs.AnswersOf.{About, OfAnswer}
use Rattle.civil.specs.declared.CivilDateTime.{CivilDateTime}

abbrev pub Post : About call.Post (Result CivilDateTime Refusal)
Post = OfAnswer call.Post (λ κ d. d.answer)
