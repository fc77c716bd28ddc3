-- The entries that are left part where all do.
use Rattle.std.proofs.Common.{◌≡◌, ◌&&◌, ℤ, Bool, true, false, not, eqb, int_eq, refl, sym, ap, ◌∙◌, add-one, arith}
use Rattle.std.specs.Bool.{one_answer}
use Rattle.std.proofs.lemmas.Bool.Decides.{Decides-int_eq}
use Rattle.tables.specs.Entries.{Entry, threshold, offset, equal}
use Rattle.tables.proofs.Integers.{equal_true, equal_yes}
use Rattle.alike.specs.Alike.{same_entry}
use Rattle.alike.specs.declared.inner.Parting.TheVariants as parts
use Rattle.alike.proofs.Parted.{one_goes_on, other_goes_on, neither_goes_on, ended, parts_here, goes_on}
use Rattle.alike.proofs.inner.parting_of.Goals as goal

-- the test that `==` makes of two integers is that of the definition
same_test : (x y : ℤ) → int_eq x y ≡ equal x y
same_test x y = one_answer _ _ (Decides-int_eq x y) (equal_true x y, equal_yes x y)

module _ (e f : Entry) {b : Bool} (is : b ≡ not (eqb (threshold e) (threshold f) && int_eq (offset e) (offset f))) where
  told_apart : b ≡ not (same_entry e f)
  told_apart = is ∙ ap (λ (t : Bool). not (eqb (threshold e) (threshold f) && t)) (same_test (offset e) (offset f))

  differs : b ≡ true → same_entry e f ≡ false
  differs t = by_test (same_entry e f) (sym told_apart ∙ t)
    where
      by_test : (same : Bool) → not same ≡ true → same ≡ false
      by_test true e = sym e
      by_test false e = refl

  agrees : b ≡ false → same_entry e f ≡ true
  agrees t = by_test (same_entry e f) (sym told_apart ∙ t)
    where
      by_test : (same : Bool) → not same ≡ false → same ≡ true
      by_test true e = refl
      by_test false e = sym e

pub returns-then-ne : goal.returns-then-ne
returns-then-ne c =
    let a = c.in-Some-Some in
    let differ : same_entry a.one a.other ≡ false = differs a.one a.other c.ne.ensures c.if-ne.true in
    ap parts.Apart c.earlier.ensures
    ∙ parts_here c.args.old.now c.args.new.now c.loop-place.place c.loop-place.invariant a.one a.other (rw a.is-0 at c.get.ensures) (rw a.is-1 at c.get-in-loop-place.ensures) differ

pub returns-in-Some-None : goal.returns-in-Some-None
returns-in-Some-None c =
    let a = c.in-Some-None in
    one_goes_on c.args.old.now c.args.new.now c.loop-place.place c.loop-place.invariant a.next (rw a.is-0 at c.get.ensures) (rw a.is-1 at c.get-in-loop-place.ensures)

pub returns-in-None-Some : goal.returns-in-None-Some
returns-in-None-Some c =
    let a = c.in-None-Some in
    other_goes_on c.args.old.now c.args.new.now c.loop-place.place c.loop-place.invariant a.next (rw a.is-0 at c.get.ensures) (rw a.is-1 at c.get-in-loop-place.ensures)

pub returns-in-None-None : goal.returns-in-None-None
returns-in-None-None c =
    let a = c.in-None-None in
    neither_goes_on c.args.old.now c.args.new.now c.loop-place.place c.loop-place.invariant (rw a.is-0 at c.get.ensures) (rw a.is-1 at c.get-in-loop-place.ensures)

pub loop-place-preserved : goal.loop-place-preserved
loop-place-preserved c =
    let a = c.in-Some-Some in
    let agree : same_entry a.one a.other ≡ true = agrees a.one a.other c.ne.ensures c.if-ne.false in
    rw add-one
    (goes_on c.args.old.now c.args.new.now c.loop-place.place c.loop-place.invariant a.one a.other (rw a.is-0 at c.get.ensures) (rw a.is-1 at c.get-in-loop-place.ensures) agree)

pub returns : goal.returns
returns c =
    ended c.args.old.now c.args.new.now c.loop-place.place c.loop-place.invariant (omega (arith, c.max-place-end.ensures, c.len.ensures, c.len-2.ensures))
    (omega (arith, c.max-place-end.ensures, c.len.ensures, c.len-2.ensures))
