-- `put_expiry`: the word, and then `none` or the form, each with a line end.
use Rattle.std.proofs.Common.{◌≡◌, ℕ, ◌+◌, ◌/◌, List, [], ◌∷◌, ◌++◌, refl, sym, ap, subst, ◌∙◌, eq-eqb, arith}
use Rattle.std.proofs.lemmas.List.Edits.{sets}
use borrow.Author.Tests.{ne_eqb}
use lib.ListN.{set}
use Rattle.civil.specs.Fields.{fields_at}
use Rattle.civil.specs.declared.CivilDateTime.{CivilDateTime}
use Rattle.tables.specs.Slots.{no_expiry}
use Rattle.stamps.specs.Form.{Fits, written}
use Rattle.stamps.proofs.Years.{fits_on_day}
use Rattle.leaplist.specs.Report.{utc_second, expires_word, none_word, expiry_line}
use Rattle.leaplist.specs.Writing.{PutsAt}
use Rattle.leaplist.proofs.OneAfterOther.{then_puts}
use Rattle.leaplist.proofs.inner.put.put_expiry.Goals as goal

none_puts : {x y : List ℕ} (out : List ℕ) (at e n : ℕ) → e ≡ no_expiry → x ≡ sets out at expires_word
    → y ≡ sets x (at + 8) (none_word ++ (10 ∷ [])) → PutsAt at (expiry_line e n) out y (at + 13)
unfolding expiry_line
none_puts out at e n is word none =
    rw (eq-eqb e no_expiry is)
    (then_puts out at expires_word (none_word ++ (10 ∷ [])) (refl, word) (omega arith, none))

stamp_puts : {x y : List ℕ} (out : List ℕ) (at e n : ℕ) (f : CivilDateTime) → (e ≡ no_expiry → ⊥)
    → f ≡ fields_at (utc_second e n) 0 → x ≡ sets out at expires_word → y ≡ sets x (at + 8) (written f)
    → PutsAt at (expiry_line e n) out (set y (at + 38) 10) (at + 39)
unfolding expiry_line
stamp_puts {x} {y} out at e n f some is word form =
    let put : PutsAt at (expires_word ++ (written f ++ (10 ∷ []))) out (set y (at + 38) 10) (at + 39) =
    then_puts out at expires_word (written f ++ (10 ∷ [])) (refl, word)
    (then_puts {p = at + 38} x (at + 8) (written f) (10 ∷ []) (omega arith, form) (omega arith, refl)) in
    rw (ne_eqb e no_expiry some)
    (subst (λ (g : CivilDateTime). PutsAt at (expires_word ++ (written g ++ (10 ∷ []))) out (set y (at + 38) 10) (at + 39))
    is put)

pub returns-then-none : goal.returns-then-none
returns-then-none c =
    let a = c.args in
    none_puts a.out.now a.at a.expiry a.offset c.if-none.true c.put_bytes.ensures
    c.put_bytes-then-none.ensures

pub put-requires-clause-fits : goal.put-requires-clause-fits
put-requires-clause-fits c =
    let day = c.utc_second.result / 86400 + 730 in
    let fits = fits_on_day day c.utc_second.result 0 (omega arith) (omega arith) (omega arith) in
    subst Fits (sym c.fields_at.ensures) fits

pub returns : goal.returns
returns c =
    let a = c.args in
    let is = c.fields_at.ensures ∙ ap (λ (u : ℕ). fields_at u 0) c.utc_second.ensures in
    stamp_puts a.out.now a.at a.expiry a.offset c.fields_at.result c.if-none.false is
    c.put_bytes.ensures c.put.ensures
