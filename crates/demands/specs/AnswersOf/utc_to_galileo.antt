-- `Galileo::from_utc` of `conversions::ByTable`: what its contract says of the answer.
use Rattle.std.specs.Prelude.{Result}
use Rattle.refusals.specs.declared.Refusal.{Refusal}
use Rattle.conversions.proofs.by_table.GalileoByTable.from_utc.Reads as call
use Rattle.demands.specs.AnswersOf.{About, OfAnswer}
use Rattle.scales.specs.declared.galileo.Galileo.{Galileo}

abbrev pub Post : About call.Post (Result Galileo Refusal)
Post = OfAnswer call.Post (λ κ d. d.answer)
