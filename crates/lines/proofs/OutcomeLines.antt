-- A program's answer to a line is an outcome as a line: it has at most 31 bytes where the text in it has at most 30.
use mathlib.Core.Path.{◌≡◌, ap}
use Prim.Native.Nat.{ℕ, ◌≤◌, ◌<◌}
use mathlib.Core.List.{List, [], ◌∷◌}
use native.Mathlib.Omega.{arith}
use lib.ListN.{length, length-append}
use Rattle.refusals.specs.Outcome.{Outcome, answered, refused, changed}
use Rattle.words.specs.Decimal.{decimal}
use Rattle.words.proofs.WayBack.{decimal_length}
use Rattle.lines.specs.OutcomeLine.{line_of}
use Rattle.lines.specs.Lines.{AnswersLines}
use Rattle.lines.proofs.WholeInput.{alike}

module _ {A : Type 0} (text : A → List ℕ) (few : (a : A) → length (text a) ≤ 30) where
  line-short : (o : Outcome A) → length (line_of (changed text o)) ≤ 31
  line-short (answered a) = omega (arith, few a, length-append (text a) (10 ∷ []))
  line-short (refused k) = omega (arith, length-append (decimal k) (10 ∷ []), decimal_length k)

  -- a line of more than 127 bytes is refused
  pub answers_lines : (read : List ℕ → Outcome A) → ((l : List ℕ) → 127 < length l → read l ≡ refused 10)
      → AnswersLines 31 (λ l. line_of (changed text (read l)))
  answers_lines read long = record {
    short = λ l. line-short (read l);
    first_128 = alike (λ l h. ap (λ (o : Outcome A). line_of (changed text o)) (long l h));
  }
