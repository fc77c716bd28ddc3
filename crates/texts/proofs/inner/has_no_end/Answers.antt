-- `has_no_end`: the bytes are tested one after the other.
use Rattle.std.proofs.Common.{◌≡◌, true, not, ◌&&◌, ◌∙◌, rules}
use Rattle.std.proofs.lemmas.Grind.{common_steps}
use Rattle.std.specs.List.{fold}
use Rattle.std.specs.Prelude.{◌==◌}
use Rattle.texts.proofs.LineEnds.{folded}
use Rattle.texts.proofs.inner.has_no_end.Goals as goal

pub returns : goal.returns
returns c =
    let tested : c.fold.result ≡ fold (λ none b. none && not (b == 10)) true c.args.s.now = search (rules, common_steps) in
    tested ∙ folded c.args.s.now true
