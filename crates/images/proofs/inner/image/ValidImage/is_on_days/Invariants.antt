-- The slots before `i` are a day or more apart and begin a day, so those that are left pass exactly if all do.
use Rattle.images.specs.Image.{table_in}
use Rattle.images.proofs.DaysPassed.{Pass}
use Rattle.images.proofs.inner.image.ValidImage.is_on_days.Given as goal

abbrev pub invariant-loop-i : goal.invariant-loop-i
invariant-loop-i l = Pass (table_in l.image.bytes.now).thresholds (table_in l.image.bytes.now).offsets l.n l.i l.before
