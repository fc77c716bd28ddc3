-- The slots from `i` on, and then the expiry, written over the bytes so far make the image.
use Rattle.std.proofs.Common.{◌≡◌, ◌≤◌, length}
use Rattle.images.specs.Image.{image_of}
use Rattle.images.proofs.Whole.{written_from}
use Rattle.images.proofs.inner.put_table.Given as goal

abbrev pub invariant-loop-i : goal.invariant-loop-i
invariant-loop-i l = (l.i ≤ 64) × (length l.image ≡ 784) × (written_from l.table l.i l.image ≡ image_of l.table)
