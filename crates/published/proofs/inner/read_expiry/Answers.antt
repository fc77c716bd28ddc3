-- The field after the two bytes of the sign.
use Rattle.std.proofs.Common.{ap, ◌∙◌}
use Rattle.published.specs.Places.{line_found}
use Rattle.published.proofs.Parts.{is_rest}
use Rattle.published.proofs.Expiries.{no_expiry_lem, is_expiry_lem, ends_here}
use Rattle.published.proofs.inner.read_expiry.Goals as goal

pub returns-in_err-ntp-clause-is : goal.returns-in_err-ntp-clause-is
returns-in_err-ntp-clause-is c =
    let s = c.args.s.now in
    ap line_found c.from_residual.ensures
    ∙ no_expiry_lem s c.requires.long c.requires.hash c.requires.sign (rw (is_rest s 2) at c.in_err-ntp.ensures.is)

pub returns-clause-is : goal.returns-clause-is
returns-clause-is c =
    let s = c.args.s.now in
    is_expiry_lem s c.requires.long c.requires.hash c.requires.sign c.in_ok-ntp.ntp
    (rw (is_rest s 2) at c.in_ok-ntp.ensures.is)

pub returns-clause-ends : goal.returns-clause-ends
returns-clause-ends c =
    let s = c.args.s.now in
    let e = rw (is_rest s 2) at c.in_ok-ntp.ensures.ends in
    (ends_here s c.requires.long c.requires.hash c.requires.sign c.in_ok-ntp.used e.0 e.1, tt)
