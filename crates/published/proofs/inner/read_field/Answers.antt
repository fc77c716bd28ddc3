-- What is found in the text is what is in the line.
use Rattle.std.proofs.Common.{◌+◌, drop, refl, sym, ap, ◌∙◌}
use Rattle.words.specs.Decimal.{is_digit}
use Rattle.published.specs.LeapSecondsList.{is_blank}
use Rattle.published.specs.Places.{number_found}
use Rattle.published.proofs.Parts.{is_rest, none_leads, one_leads, passed_all}
use Rattle.published.proofs.Fields.{no_blank, no_number, not_ended, is_field, ends}
use Rattle.published.proofs.inner.read_field.Goals as goal

pub returns-then-start-eq0-clause-is : goal.returns-then-start-eq0-clause-is
returns-then-start-eq0-clause-is c =
    let s = c.args.rest.now in
    no_blank c.args.comment s (none_leads is_blank s (sym c.blanks-start.ensures.value ∙ c.if-start-eq0.true))

pub returns-in_err-number-clause-is : goal.returns-in_err-number-clause-is
returns-in_err-number-clause-is c =
    let s = c.args.rest.now in
    let start = c.blanks-start.result in
    ap number_found c.from_residual.ensures
    ∙ no_number c.args.comment s start (passed_all is_blank refl s start c.blanks-start.ensures.value)
    (rw (is_rest s start) at c.in_err-number.ensures.is)

pub returns-then-may_end-clause-is : goal.returns-then-may_end-clause-is
returns-then-may_end-clause-is c =
    let s = c.args.rest.now in
    let start = c.blanks-start.result in
    let n = c.in_ok-number in
    let digits = rw (is_rest s start) at n.ensures.ends.0 in
    let more = rw (is_rest s (start + n.width)) at c.blanks.ensures.value in
    let ended = rw (is_rest s (start + n.width + c.blanks.result)) at c.may_end.ensures in
    is_field c.args.comment s start (passed_all is_blank refl s start c.blanks-start.ensures.value) n.number n.width
    (rw (is_rest s start) at n.ensures.is) (passed_all is_digit refl (drop start s) n.width digits) c.blanks.result
    (passed_all is_blank refl (drop (start + n.width) s) c.blanks.result more)
    (one_leads is_blank s (λ z. c.if-start-eq0.false (c.blanks-start.ensures.value ∙ z))) (sym ended ∙ c.if-may_end.true)

pub returns-then-may_end-clause-ends : goal.returns-then-may_end-clause-ends
returns-then-may_end-clause-ends c =
    let s = c.args.rest.now in
    let start = c.blanks-start.result in
    let n = c.in_ok-number in
    let digits = rw (is_rest s start) at n.ensures.ends.0 in
    let more = rw (is_rest s (start + n.width)) at c.blanks.ensures.value in
    let ended = rw (is_rest s (start + n.width + c.blanks.result)) at c.may_end.ensures in (
      ends c.args.comment s start (passed_all is_blank refl s start c.blanks-start.ensures.value) n.number n.width
          (rw (is_rest s start) at n.ensures.is) (passed_all is_digit refl (drop start s) n.width digits) c.blanks.result
          (passed_all is_blank refl (drop (start + n.width) s) c.blanks.result more),
      sym ended ∙ c.if-may_end.true,
    )

pub returns-else-may_end-clause-is : goal.returns-else-may_end-clause-is
returns-else-may_end-clause-is c =
    let s = c.args.rest.now in
    let start = c.blanks-start.result in
    let n = c.in_ok-number in
    let digits = rw (is_rest s start) at n.ensures.ends.0 in
    let more = rw (is_rest s (start + n.width)) at c.blanks.ensures.value in
    let ended = rw (is_rest s (start + n.width + c.blanks.result)) at c.may_end.ensures in
    not_ended c.args.comment s start (passed_all is_blank refl s start c.blanks-start.ensures.value) n.number n.width
    (rw (is_rest s start) at n.ensures.is) (passed_all is_digit refl (drop start s) n.width digits) c.blanks.result
    (passed_all is_blank refl (drop (start + n.width) s) c.blanks.result more) (sym ended ∙ c.if-may_end.false)
