-- `put_alike`: the words for what `alike` tells, and a line end.
use Rattle.std.proofs.Common.{◌≡◌, ◌≤◌, [], ◌∷◌, ◌++◌, length, refl, subst, arith, rules}
use mathlib.Core.Bool.{Bool}
use lib.Dec.{ltb}
use Rattle.tables.specs.Slots.{entries_of}
use Rattle.tables.specs.declared.LeapTable.{LeapTable}
use Rattle.tables.proofs.FirstSlots.{slots_length}
use Rattle.leaplist.specs.Since.{fewer, words_for}
use Rattle.leaplist.specs.Writing.{PutsAt}
use Rattle.leaplist.proofs.OneAfterOther.{then_puts, from_start}
use Rattle.leaplist.proofs.SinceLines.{line_is}
use Rattle.leaplist.proofs.inner.since.put_alike.Goals as goal

-- tables whose arrays have 64 slots have as many entries as they say
lacking_is : (old new : LeapTable) → length old.thresholds ≡ 64 → length old.offsets ≡ 64 → length new.thresholds ≡ 64
    → length new.offsets ≡ 64 → old.len ≤ 64 → new.len ≤ 64 → ltb new.len old.len ≡ fewer (entries_of new) (entries_of old)
lacking_is old new ts ns us ms few less =
    rw (
      slots_length old.thresholds old.offsets old.len (omega arith) (omega arith),
      slots_length new.thresholds new.offsets new.len (omega arith) (omega arith),
    )

pub returns-in-Ok : goal.returns-in-Ok
returns-in-Ok c =
    let a = c.args in
    let out = a.out.now in
    let told = c.in-Ok.told in
    let text = words_for (fewer (entries_of a.new) (entries_of a.old)) told in
    let lacking = lacking_is a.old a.new (search rules) (search rules) (search rules) (search rules) (omega arith) (omega arith) in
    let words = subst (λ (b : Bool). PutsAt 0 (words_for b told) out c.put_told-end.new.out c.put_told-end.result)
    lacking c.put_told-end.ensures in
    rw (line_is a.old a.new _ c.in-Ok.ensures)
    (from_start out (text ++ (10 ∷ [])) (then_puts out 0 text (10 ∷ []) words (refl, refl)))
