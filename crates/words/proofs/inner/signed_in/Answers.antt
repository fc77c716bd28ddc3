-- `signed_in` takes the first bit as the sign.
use Rattle.std.proofs.Common.{ℕ, ◌≡◌, ◌-◌, ◌*◌, ◌/◌, ◌^◌, suc, sym, ap, ◌∙◌, to_z, w64, arith}
use borrow.Author.Tests.{lt-ltb, le-ltb}
use mir.Facts.{to_z_pos, to_z-neg}
use Rattle.words.proofs.Complement.{width}
use Rattle.words.proofs.inner.signed_in.Goals as goal

pub overflow_sub-result : goal.overflow_sub-result
overflow_sub-result c = omega (arith, width c.args.width c.requires.width_nonzero c.requires.width_bound)

pub returns-then-n-all_ones : goal.returns-then-n-all_ones
returns-then-n-all_ones c =
    let a = c.args in
    let k = width a.width c.requires.width_nonzero c.requires.width_bound in
    to_z_pos w64 {n = a.n} (omega arith) ∙ sym (rw (lt-ltb (2 * a.n) (256 ^ a.width) (omega arith)))

pub returns-else-n-all_ones : goal.returns-else-n-all_ones
returns-else-n-all_ones c =
    let a = c.args in
    let h = width a.width c.requires.width_nonzero c.requires.width_bound in
    let k = 256 ^ a.width - suc a.n in
    let ones : ℕ = 18446744073709551615 in
    let bits : ones - (ones / 2 ^ (64 - 8 * a.width) - a.n) ≡ 2 ^ 64 - suc k = omega arith in
    ap (to_z w64) bits ∙ to_z-neg w64 k (omega arith) ∙ sym (rw (le-ltb (2 * a.n) (256 ^ a.width) (omega arith)))
