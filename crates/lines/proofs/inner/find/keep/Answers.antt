-- `keep`: it stores as many bytes as there is room for.
use Rattle.std.proofs.Common.{◌≡◌, ℕ, ◌+◌, ◌-◌, take, drop, length-drop, ap, ◌∙◌, arith}
use Rattle.std.proofs.lemmas.List.Edits.{sets}
use Rattle.lines.proofs.Blocks.{stored}
use Rattle.lines.proofs.inner.find.keep.Goals as goal

pub returns : goal.returns
returns c =
    let a = c.args in
    let k = c.min-kept.result in
    let line = a.line.now in
    let rest = drop a.at a.block.now in
    let few : a.at + k - a.at ≡ k = omega arith in
    let long = length-drop a.at a.block.now in (
      ap (take (a.used + k)) (c.put_bytes.ensures ∙ ap (λ (j : ℕ). sets line a.used (take j rest)) few)
          ∙ stored line a.used rest (a.end - a.at) k (omega arith) (omega arith) (omega arith) c.min-kept.ensures,
      omega (arith, c.min-kept.ensures),
    )
