-- The number, then the offset in the text after it, then the end of the line from where the offset ends.
use Rattle.std.proofs.Common.{◌≡◌, ℕ, ◌+◌, List, drop, refl, sym, ap, ◌∙◌, arith}
use lib.Seq.{length-take-le}
use Rattle.words.specs.Decimal.{is_digit}
use Rattle.texts.specs.Ends.{until_end, NoEndBetween}
use Rattle.texts.proofs.FirstLine.{until_within}
use Rattle.published.specs.LeapSecondsList.{holds, ends_in_return}
use Rattle.published.specs.Places.{line_found}
use Rattle.published.proofs.Parts.{Passed, is_rest, passed_all}
use Rattle.published.proofs.Fields.{both_in_line}
use Rattle.published.proofs.LineKinds.{line_to, data_no_number, data_returns, data_no_offset, data_holds}
use Rattle.published.proofs.inner.read_data.Goals as goal

-- the line's end is found from a place after the digits, in the same line
ends : (s : List ℕ) (width used end : ℕ) → Passed is_digit s width → NoEndBetween (drop width s) 0 used
    → end ≡ width + used + until_end (drop (width + used) s) → end ≡ until_end s
ends s width used end digits offset e =
    omega (arith, e, (both_in_line s width used digits.1 offset).0)

pub returns-in_err-ntp-clause-is : goal.returns-in_err-ntp-clause-is
returns-in_err-ntp-clause-is c =
    ap line_found c.from_residual.ensures
    ∙ data_no_number c.args.s.now c.requires.some c.requires.digit c.in_err-ntp.ensures.is

pub returns-in_err-offset-clause-is : goal.returns-in_err-offset-clause-is
returns-in_err-offset-clause-is c =
    let s = c.args.s.now in
    let n = c.in_ok-ntp in
    ap line_found c.from_residual-in_err-offset.ensures
    ∙ data_no_offset s c.requires.some c.requires.digit n.ntp n.width n.ensures.is
    (passed_all is_digit refl s n.width n.ensures.ends.0) (rw (is_rest s n.width) at c.in_err-offset.ensures.is)

pub slice_bounds-ends_in_return-end : goal.slice_bounds-ends_in_return-end
slice_bounds-ends_in_return-end c =
    let s = c.args.s.now in
    let n = c.in_ok-ntp in
    let o = c.in_ok-offset in
    let offset_ends = rw (is_rest s n.width) at o.ensures.ends in
    let e = ends s n.width o.used _ (passed_all is_digit refl s n.width n.ensures.ends.0) offset_ends.0 c.next_end-end.ensures in
    sym (length-take-le c.next_end-end.result s (omega (arith, e, until_within s)))

pub returns-then-ends_in_return-clause-is : goal.returns-then-ends_in_return-clause-is
returns-then-ends_in_return-clause-is c =
    let s = c.args.s.now in
    let n = c.in_ok-ntp in
    let o = c.in_ok-offset in
    let offset_ends = rw (is_rest s n.width) at o.ensures.ends in
    let e = ends s n.width o.used _ (passed_all is_digit refl s n.width n.ensures.ends.0) offset_ends.0 c.next_end-end.ensures in
    let is_line = ap ends_in_return (line_to s c.next_end-end.result e) in
    data_returns s c.requires.some c.requires.digit (sym is_line ∙ sym c.if-ends_in_return.ensures)

pub returns-else-ends_in_return-clause-is : goal.returns-else-ends_in_return-clause-is
returns-else-ends_in_return-clause-is c =
    let s = c.args.s.now in
    let n = c.in_ok-ntp in
    let o = c.in_ok-offset in
    let digits = passed_all is_digit refl s n.width n.ensures.ends.0 in
    let offset_ends = rw (is_rest s n.width) at o.ensures.ends in
    let e = ends s n.width o.used _ digits offset_ends.0 c.next_end-end.ensures in
    let is_line = ap ends_in_return (line_to s c.next_end-end.result e) in
    ap holds c.record_at.ensures.is
    ∙ data_holds s c.requires.some c.requires.digit n.ntp n.width n.ensures.is digits o.offset
    (rw (is_rest s n.width) at o.ensures.is) (sym is_line ∙ sym c.if-ends_in_return.ensures)

pub returns-else-ends_in_return-clause-ends : goal.returns-else-ends_in_return-clause-ends
returns-else-ends_in_return-clause-ends c =
    let s = c.args.s.now in
    let n = c.in_ok-ntp in
    let o = c.in_ok-offset in
    let offset_ends = rw (is_rest s n.width) at o.ensures.ends in
    let e = ends s n.width o.used _ (passed_all is_digit refl s n.width n.ensures.ends.0) offset_ends.0 c.next_end-end.ensures in
    (e, c.record_at.ensures.fits)
