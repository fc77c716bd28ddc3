-- `put_bytes`: the part is put back with the bytes in it.
use Rattle.std.proofs.Common.{◌≡◌, ◌+◌, ◌-◌, length, refl, arith}
use Rattle.words.proofs.Stores.{part_put}
use Rattle.lines.proofs.inner.put.put_bytes.Goals as goal

pub returns : goal.returns
returns c =
    let a = c.args in
    let size : a.at + length a.s.now - a.at ≡ length a.s.now = omega arith in
    rw (size, c.copy_from_slice.ensures.after) (part_put a.out.now a.s.now a.at (length a.s.now) refl (omega arith))
