-- One pass tests the slots and finds the place of the entry in force.
use Rattle.std.proofs.Common.{◌≡◌, ℕ, ◌<◌, List, ℤ, pos, ◌+ℤ◌, sym, ap, ◌∙◌, rules, arith, w32, w64, Fits, SFits, to_z, of_z}
use mir.Facts.{to_z-of_z, of_z-to_z, sfits_widen}
use Rattle.tables.specs.Entries.{threshold, offset}
use Rattle.images.proofs.Judged.{slot}
use Rattle.images.proofs.OnePass.{Pass, Step, more_fits, begins, none_told, told, not_above, not_one_more, further}
use Rattle.images.proofs.inner.image.Image.checked_look_up.Goals as goal
use Rattle.images.proofs.inner.image.Image.checked_look_up.Goals.{then-next-tai, else-next-tai}

pub returns-then-n-eq0 : goal.returns-then-n-eq0
returns-then-n-eq0 c =
    none_told
    (record { size = c.args.self.size; len = c.len-n.ensures; few = c.if-n-gt-RUNTIME_CAPACITY.false })
    _ c.if-n-eq0.true c.told.ensures

pub loop-i-init : goal.loop-i-init
loop-i-init c =
    let f : SFits w32 c.offset.result = search rules in
    rw (
      to_z-of_z {w = w32} {z = c.offset.result} f,
      to_z-of_z {w = w64} {z = c.offset.result} (sfits_widen {w = w32} {w' = w64} tt f),
      to_z-of_z {w = w64} {z = c.offset.result +ℤ pos 1} (more_fits c.offset.result f),
      c.threshold-before.ensures,
      c.offset.ensures,
    )
    (begins
    (record { size = c.args.self.size; len = c.len-n.ensures; few = c.if-n-gt-RUNTIME_CAPACITY.false })
    _ (omega (arith, c.if-n-eq0.false)) (rw c.offset.ensures at f))

pub returns-then-next-before : goal.returns-then-next-before
returns-then-next-before c =
    let next = c.threshold-next.ensures in
    not_above c.loop-i.invariant c.loop-i-test.true (omega arith)

pub returns-then-given-one_more : goal.returns-then-given-one_more
returns-then-given-one_more c =
    let next = c.threshold-next.ensures in
    let given : to_z w32 (of_z w32 c.offset-given.result) ≡ _ = to_z-of_z {w = w32} (search rules) ∙ c.offset-given.ensures in
    not_one_more c.loop-i.invariant c.loop-i-test.true (omega arith)
    (λ e. c.if-given-one_more.true (ap (of_z w64) given ∙ e ∙ of_z-to_z {w = w64} c.loop-i.auto.one_more))

-- a slot that follows the one before
step : {b : List ℕ} {t n i before bits place x : ℕ} {given : ℤ} → Fits w64 bits
    → Pass b t n i before (of_z w64 (to_z w64 bits)) place → i < n → x ≡ threshold (slot b i) → before < x
    → SFits w32 given → given ≡ offset (slot b i) → of_z w64 (to_z w32 (of_z w32 given)) ≡ bits
    → Step b t n i place (to_z w64 bits)
step {given = given} f p l next above g is e =
    rw (of_z-to_z {w = w64} f) at
    (further p l (omega arith) (rw is at g)
    (ap (of_z w64) (sym (to_z-of_z {w = w32} {z = given} g ∙ is)) ∙ e ∙ sym (of_z-to_z {w = w64} f)))

pub loop-i-preserved : goal.loop-i-preserved
loop-i-preserved c =
    let next = c.threshold-next.ensures in
    let s = step c.loop-i.auto.one_more c.loop-i.invariant c.loop-i-test.true next c.if-next-before.false (search rules)
    c.offset-given.ensures c.if-given-one_more.false in
    rw (to_z-of_z {w = w64} {z = to_z w64 c.loop-i.one_more-bits +ℤ pos 1} s.room, next)
    (elim c.if-next-tai.branch [
      | then-next-tai w ↦ rw w.place-is (s.at_or_below (omega (arith, next, w.if-next-tai.true)))
      | else-next-tai w ↦ rw w.place-is (s.above (omega (arith, next, w.if-next-tai.false)))
    ])

pub returns : goal.returns
returns c = told c.loop-i.invariant c.loop-i-test.false c.told-2.ensures
