-- How long the line on two files is, and which line is due by what the reader and `alike` answer.
use mathlib.Core.Path.{◌≡◌, sym, ap, ◌∙◌}
use mathlib.Core.Bool.{Bool, true, false, cond}
use mathlib.Core.List.{List, [], ◌∷◌, ◌++◌}
use Prim.Native.Nat.{ℕ, ◌≤◌}
use native.Mathlib.Omega.{arith}
use borrow.Author.Tests.{ne_eqb}
use lib.Dec.{eqb}
use lib.ListN.{length, length-append}
use Rattle.refusals.specs.Number.{number_of}
use Rattle.refusals.specs.Outcome.{Outcome, answered, refused, changed}
use Rattle.refusals.specs.declared.Refusal.{Refusal}
use Rattle.refusals.proofs.Tells.{number_not_zero}
use Rattle.words.specs.Decimal.{decimal}
use Rattle.words.proofs.WayBack.{decimal_length}
use Rattle.tables.specs.Answers.{taken_in}
use Rattle.tables.specs.Slots.{entries_of, of_valid}
use Rattle.tables.specs.declared.LeapTable.{LeapTable}
use Rattle.alike.specs.Alike.{alike}
use Rattle.alike.specs.declared.Alike.{Alike}
use Rattle.alike.specs.declared.Alike.TheVariants as how
use Rattle.published.specs.LeapSecondsList.{Reading, list_read}
use Rattle.published.specs.Places.{reading_in}
use Rattle.published.specs.declared.ListAnswer.{ListAnswer}
use Rattle.lines.specs.OutcomeLine.{line_of}
use Rattle.leaplist.specs.Report.{refusal_report}
use Rattle.leaplist.specs.Since.{words_for, fewer, alike_line, old_word, new_word, line_with_new, line_with_old}
use Rattle.leaplist.specs.Since.{since_line}
use Rattle.leaplist.proofs.Lengths.{refusal_short}

-- ---- how long
pub words_short : (lacking : Bool) (told : Alike) → length (words_for lacking told) ≤ 66
words_short lacking how.Everywhere = omega arith
words_short true (how.Before c) = omega arith
words_short false (how.Before c) = omega arith
words_short lacking (how.Apart c) = omega arith
words_short lacking how.Irregular = omega arith

alike-short : (lacking : Bool) (o : Outcome Alike) → length (line_of (changed (words_for lacking) o)) ≤ 67
alike-short lacking (answered told) =
    omega (arith, length-append (words_for lacking told) (10 ∷ []), words_short lacking told)
alike-short lacking (refused k) = omega (arith, length-append (decimal k) (10 ∷ []), decimal_length k)

either : (test : Bool) (x y : List ℕ) → length x ≤ 106 → length y ≤ 106 → length (cond test x y) ≤ 106
either true x y h k = h
either false x y h k = k

new_short : (old : LeapTable) (bs : List ℕ) (r : Reading) → length (line_with_new old bs r) ≤ 106
new_short old bs r =
    let new = r.table in
    let told = of_valid old (of_valid new (alike (entries_of old) (entries_of new))) in
    either (eqb r.number 0) _ _ (omega (arith, alike-short (fewer (entries_of new) (entries_of old)) told))
    (omega (arith, refusal_short r.number r.line bs))

pub since_short : (old new : List ℕ) → length (since_line old new) ≤ 106
unfolding since_line
since_short old new =
    let r = list_read old in
    either (eqb r.number 0) _ _ (new_short r.table new (list_read new))
    (omega (arith, refusal_short r.number r.line old))

-- ---- the line by what `alike` answers
pub line_is : (old new : LeapTable) (o : Outcome Alike)
    → o ≡ of_valid old (of_valid new (alike (entries_of old) (entries_of new)))
    → alike_line old new ≡ line_of (changed (words_for (fewer (entries_of new) (entries_of old))) o)
line_is old new o is =
    ap (λ (a : Outcome Alike). line_of (changed (words_for (fewer (entries_of new) (entries_of old))) a)) (sym is)

-- ---- the line by what the reader answers
module _ (bs : List ℕ) (x : ListAnswer) (is : reading_in x ≡ list_read bs) where
  pub new_accepted : (old : LeapTable) → taken_in x.answer ≡ 0
      → line_with_new old bs (list_read bs) ≡ alike_line old x.table
  new_accepted old z = ap (line_with_new old bs) (sym is) ∙ rw z

  pub new_refused : (old : LeapTable) (r : Refusal) → taken_in x.answer ≡ number_of r
      → line_with_new old bs (list_read bs) ≡ new_word ++ refusal_report (number_of r) x.line bs
  new_refused old r e = ap (line_with_new old bs) (sym is) ∙ rw (e, ne_eqb (number_of r) 0 (number_not_zero r))

  pub old_accepted : (new : List ℕ) → taken_in x.answer ≡ 0
      → since_line bs new ≡ line_with_new x.table new (list_read new)
  unfolding since_line
  old_accepted new z = ap (λ (r : Reading). line_with_old bs r new) (sym is) ∙ rw z

  pub old_refused : (new : List ℕ) (r : Refusal) → taken_in x.answer ≡ number_of r
      → since_line bs new ≡ old_word ++ refusal_report (number_of r) x.line bs
  unfolding since_line
  old_refused new r e =
      ap (λ (s : Reading). line_with_old bs s new) (sym is) ∙ rw (e, ne_eqb (number_of r) 0 (number_not_zero r))
