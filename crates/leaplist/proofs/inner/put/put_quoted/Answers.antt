-- `put_quoted`: a mark, the bytes and a mark, each from where the part before ends.
use Rattle.std.proofs.Common.{◌≡◌, ◌+◌, [], ◌∷◌, ◌++◌, refl, sym, ◌∙◌}
use mathlib.Core.Bool.{true}
use Rattle.leaplist.specs.Report.{all_text}
use Rattle.leaplist.proofs.OneAfterOther.{then_puts}
use Rattle.leaplist.proofs.inner.put.put_quoted.Goals as goal

pub returns : goal.returns
returns c =
    let a = c.args in
    let line = a.line.now in
    let yes : all_text line ≡ true = sym c.is_text.ensures ∙ c.if-not-is_text.false in
    rw yes
    (then_puts a.out.now a.at (58 ∷ 32 ∷ 34 ∷ []) (line ++ (34 ∷ [])) (refl, c.put_bytes.ensures)
    (then_puts c.put_bytes.new.out (a.at + 3) line (34 ∷ []) (refl, c.put_bytes-2.ensures) (refl, refl)))
