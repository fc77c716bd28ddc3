-- `put_second`: the form fills the 30 bytes, and the first 19 of them are written.
use Rattle.std.proofs.Common.{◌≡◌, ℕ, ◌+◌, ◌/◌, List, take, refl, sym, ap, subst, ◌∙◌, arith}
use Rattle.std.proofs.lemmas.List.Edits.{sets}
use lib.ListN.{replicate}
use Rattle.civil.specs.declared.CivilDateTime.{CivilDateTime}
use Rattle.stamps.specs.Form.{Fits, written}
use Rattle.stamps.proofs.Years.{fits_on_day}
use Rattle.leaplist.proofs.inner.since.put_second.Goals as goal

over_zeros : (f : CivilDateTime) → sets (replicate 30 0) 0 (written f) ≡ written f
over_zeros f = refl

pub put-requires-clause-fits : goal.put-requires-clause-fits
put-requires-clause-fits c =
    let second = c.args.utc / 1000000000 in
    let fits = fits_on_day (second / 86400 + 730) second 0 (omega arith) (omega arith) (omega arith) in
    subst Fits (sym c.fields_at.ensures) fits

pub returns : goal.returns
returns c =
    let is = c.put.ensures ∙ over_zeros c.fields_at.result ∙ ap written c.fields_at.ensures in
    (refl, c.put_bytes.ensures ∙ ap (λ (l : List ℕ). sets c.args.out.now c.args.at (take 19 l)) is)
