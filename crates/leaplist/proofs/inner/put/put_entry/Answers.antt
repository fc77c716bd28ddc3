-- `put_entry`: the form, a space, and the two numbers, each from where the part before ends.
use Rattle.std.proofs.Common.{◌≡◌, ℕ, ◌+◌, ◌/◌, List, [], ◌∷◌, ◌++◌, refl, sym, ap, subst, ◌∙◌, length-set, arith}
use Rattle.std.proofs.lemmas.List.Edits.{sets}
use lib.IntN.{ℤ, nat_abs}
use lib.ListN.{set}
use mir.Facts.{to_z-of_z}
use Rattle.civil.specs.Fields.{fields_at}
use Rattle.civil.specs.declared.CivilDateTime.{CivilDateTime}
use Rattle.tables.specs.Entries.{entry}
use Rattle.stamps.specs.Form.{Fits, written}
use Rattle.stamps.proofs.Years.{fits_on_day}
use Rattle.leaplist.specs.Report.{number_and, utc_second, entry_line}
use Rattle.leaplist.specs.Writing.{PutsAt}
use Rattle.leaplist.proofs.Lengths.{number_short}
use Rattle.leaplist.proofs.OneAfterOther.{then_puts}
use Rattle.leaplist.proofs.inner.put.put_entry.Goals as goal

-- the parts one after the other, for any size and fields
parts : {x y z : List ℕ} {p q : ℕ} (out : List ℕ) (at t n : ℕ) (f : CivilDateTime) → x ≡ sets out at (written f)
    → PutsAt (at + 31) (number_and n 32) (set x (at + 30) 32) y p → PutsAt p (number_and t 10) y z q
    → PutsAt at (written f ++ (32 ∷ (number_and n 32 ++ number_and t 10))) out z q
parts {x} out at t n f form first second =
    let numbers = number_and n 32 ++ number_and t 10 in
    then_puts out at (written f) (32 ∷ numbers) (refl, form)
    (then_puts x (at + 30) (32 ∷ []) numbers (omega arith, refl)
    (then_puts (set x (at + 30) 32) (at + 31) (number_and n 32) (number_and t 10) first second))

-- and for those of an entry
entry_puts : {x y z : List ℕ} {p q : ℕ} (out : List ℕ) (at t n : ℕ) (o : ℤ) (f : CivilDateTime) → n ≡ nat_abs o
    → f ≡ fields_at (utc_second t n) 0 → x ≡ sets out at (written f)
    → PutsAt (at + 31) (number_and n 32) (set x (at + 30) 32) y p → PutsAt p (number_and t 10) y z q
    → PutsAt at (entry_line (entry t o)) out z q
unfolding entry_line
entry_puts {z = z} {q = q} out at t n o f size is form first second =
    let numbers = number_and n 32 ++ number_and t 10 in
    let all = parts out at t n f form first second in
    let by_second = subst (λ (x : CivilDateTime). PutsAt at (written x ++ (32 ∷ numbers)) out z q) is all in
    subst
    (λ (k : ℕ). PutsAt at (written (fields_at (utc_second t k) 0) ++ (32 ∷ (number_and k 32 ++ number_and t 10))) out z q)
    size by_second

pub put-requires-clause-fits : goal.put-requires-clause-fits
put-requires-clause-fits c =
    let day = c.utc_second.result / 86400 + 730 in
    let fits = fits_on_day day c.utc_second.result 0 (omega arith) (omega arith) (omega arith) in
    subst Fits (sym c.fields_at.ensures) fits

pub put_number_and-requires : goal.put_number_and-requires
put_number_and-requires c =
    let kept = simp length-set at c.put_number_and-end.auto.out in
    omega (arith, kept, number_short c.size_of-size.result 32, c.put_number_and-end.ensures.0)

pub returns : goal.returns
returns c =
    let a = c.args in
    let is = c.fields_at.ensures ∙ ap (λ (u : ℕ). fields_at u 0) c.utc_second.ensures in
    let same = c.size_of-size.ensures ∙ ap nat_abs (to_z-of_z c.ranges.offset) in
    entry_puts a.out.now a.at a.threshold c.size_of-size.result a.offset c.fields_at.result
    same is c.put.ensures c.put_number_and-end.ensures c.put_number_and.ensures
