-- `answer_and_write`: what is written are the answers to what is taken.
use Rattle.lines.proofs.Runs.{block_answered}
use Rattle.lines.proofs.inner.runs.answer_and_write.Goals as goal

pub returns-clause-answers : goal.returns-clause-answers
returns-clause-answers g c =
    block_answered c.args.place c.answer_block-done.result c.requires.within c.answer_block-done.ensures
    c.in_ok-write_out.ensures
