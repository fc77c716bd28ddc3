-- For each input the call on leap-second events leaves one refusal number and one written value.
use Rattle.refusals.proofs.OneAnswer.{OneAnswerAndEnd, both}
use Rattle.plaitgate.proofs.leap_events.plaitgate_entry_of_event.Reads as entry_of_event_contract

pub entry_of_event_lem : OneAnswerAndEnd entry_of_event_contract.Post (λ κ e. e.1.1.1.1.0.now)
entry_of_event_lem κ a x y e f p q = both p q
