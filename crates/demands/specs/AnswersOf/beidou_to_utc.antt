-- `to_utc` of `conversions::ByTable` for `Beidou`: what its contract says of the answer.
use Rattle.std.specs.Prelude.{Result}
use Rattle.refusals.specs.declared.Refusal.{Refusal}
use Rattle.conversions.proofs.by_table.BeidouByTable.to_utc.Reads as call
use Rattle.demands.specs.AnswersOf.{About, OfAnswer}
use Rattle.scales.specs.declared.utc.Utc.{Utc}

abbrev pub Post : About call.Post (Result Utc Refusal)
Post = OfAnswer call.Post (λ κ d. d.answer)
