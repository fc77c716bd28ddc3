-- `images::table::gps_from_utc`: what its contract says of the answer.
use Rattle.std.specs.Prelude.{Result, ℕ}
use Rattle.refusals.specs.declared.Refusal.{Refusal}
use Rattle.images.proofs.table.gps_from_utc.Reads as call
use Rattle.demands.specs.AnswersOf.{About, OfAnswer}

abbrev pub Post : About call.Post (Result ℕ Refusal)
Post = OfAnswer call.Post (λ κ d. d.answer)
