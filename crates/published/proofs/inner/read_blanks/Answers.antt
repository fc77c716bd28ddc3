-- A line of blanks passes; any other that begins with neither a digit nor a comment is malformed.
use Rattle.std.proofs.Common.{drop, refl, sym, ◌∙◌, arith}
use Rattle.published.specs.LeapSecondsList.{is_blank}
use Rattle.published.proofs.Parts.{is_rest, passed_all}
use Rattle.published.proofs.Expiries.{line_ends, line_goes_on}
use Rattle.published.proofs.LineKinds.{blanks_pass, blanks_fail}
use Rattle.published.proofs.inner.read_blanks.Goals as goal

pub returns-then-may_end-clause-is : goal.returns-then-may_end-clause-is
returns-then-may_end-clause-is c =
    let s = c.args.s.now in
    let end = c.blanks-end.result in
    let ended = rw (is_rest s end) at c.may_end.ensures in
    blanks_pass s c.requires.some c.requires.hash end (passed_all is_blank refl s end c.blanks-end.ensures.value)
    (line_ends (drop end s) (sym ended ∙ c.if-may_end.true))

pub returns-then-may_end-clause-ends : goal.returns-then-may_end-clause-ends
returns-then-may_end-clause-ends c =
    let s = c.args.s.now in
    let end = c.blanks-end.result in
    let ended = rw (is_rest s end) at c.may_end.ensures in
    let none = line_ends (drop end s) (sym ended ∙ c.if-may_end.true) in
    let blanks = passed_all is_blank refl s end c.blanks-end.ensures.value in
    (omega (arith, blanks.1.0, none), tt)

pub returns-else-may_end-clause-is : goal.returns-else-may_end-clause-is
returns-else-may_end-clause-is c =
    let s = c.args.s.now in
    let end = c.blanks-end.result in
    let ended = rw (is_rest s end) at c.may_end.ensures in
    blanks_fail s c.requires.some c.requires.hash end (passed_all is_blank refl s end c.blanks-end.ensures.value)
    c.requires.digit (line_goes_on (drop end s) (sym ended ∙ c.if-may_end.false))
