-- The first `i` slots are valid, and the entry in force among them is at `place`.
use Rattle.std.proofs.Common.{of_z, w64}
use Rattle.images.proofs.OnePass.{Pass}
use Rattle.images.proofs.inner.image.Image.checked_look_up.Given as goal

abbrev pub invariant-loop-i : goal.invariant-loop-i
invariant-loop-i l = Pass l.self.bytes.now l.tai l.n l.i l.before (of_z w64 l.one_more) l.place
