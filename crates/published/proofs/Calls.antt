-- `read` leaves one answer for each list of bytes: one refusal or none, one line, one number of dropped lines and one
-- table.
use mathlib.Core.Path.{◌≡◌}
use Rattle.refusals.proofs.OneAnswer.{OneAnswer, viewed}
use Rattle.tables.proofs.Tells.{taken_tells}
use Rattle.published.specs.Places.{reading_in}
use Rattle.published.specs.declared.ListAnswer.{ListAnswer}
use Rattle.published.proofs.read.Reads as read_contract

-- by its fields
reading_tells : (x y : ListAnswer) → reading_in x ≡ reading_in y → x ≡ y
reading_tells x y e =
    λ i. record {
      answer = taken_tells x.answer y.answer (λ j. (e j).number) i;
      line = (e i).line;
      dropped = (e i).dropped;
      table = (e i).table;
    }

pub read : OneAnswer read_contract.Post
read κ a x y e f p q = viewed reading_tells x y p q
