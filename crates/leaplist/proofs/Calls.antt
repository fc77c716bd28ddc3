-- The report on a file, and the line on two files, are one answer and one output for each input.
use Rattle.refusals.proofs.OneAnswer.{OneAnswerAndEnd, both}
use Rattle.leaplist.proofs.report.Reads as report_contract
use Rattle.leaplist.proofs.since.Reads as since_contract

pub leaplist_report : OneAnswerAndEnd report_contract.Post (λ κ e. e.1.0.now)
leaplist_report κ a x y e f p q = both p q

pub leaplist_since : OneAnswerAndEnd since_contract.Post (λ κ e. e.1.1.0.now)
leaplist_since κ a x y e f p q = both p q
