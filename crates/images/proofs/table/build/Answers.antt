-- Thresholds and offsets are read apart, and they are the entries listed.
use Rattle.std.proofs.Common.{◌≡◌, refl, ap, ◌∙◌, ◌*◌, ◌+◌, ◌/◌, ℕ, length, List, drop, take, arith, to_z, w32}
use Rattle.std.proofs.Math.Nat.{add_comm}
use Rattle.std.proofs.Math.Seq.{drop-drop}
use mir.Facts.{to_z-of_z}
use Rattle.words.specs.Words.{number_in}
use Rattle.tables.specs.Entries.{threshold, offset}
use Rattle.tables.specs.Slots.{built}
use Rattle.tables.proofs.Growing.{too_many}
use Rattle.images.specs.Listed.{entries_in}
use Rattle.images.proofs.Fields.{none_kept, field-kept, map_itself}
use Rattle.images.proofs.ListedEntries.{entries_paired, entries_count}
use Rattle.images.proofs.table.build.Goals as goal

pub returns-then-n-gt-RUNTIME_CAPACITY : goal.returns-then-n-gt-RUNTIME_CAPACITY
returns-then-n-gt-RUNTIME_CAPACITY c =
    let list = c.in-Ok.list in
    rw (← c.in-Ok.ensures, list.whole)
    (c.no_table-then-n-gt-RUNTIME_CAPACITY.ensures
    ∙ too_many (entries_in list.bytes.now) (rw (entries_count, ← c.len-n.ensures) c.if-n-gt-RUNTIME_CAPACITY.true))

pub loop-i-init : goal.loop-i-init
loop-i-init c = (none_kept refl, none_kept refl)

pub loop-i-preserved : goal.loop-i-preserved
loop-i-preserved c =
    let s = c.loop-i in
    let b = c.in-Ok.list.bytes.now in
    let first : 0 + 12 * s.i ≡ 12 * s.i = omega arith in
    let at : drop 8 (drop (12 * s.i) b) ≡ drop (8 + 12 * s.i) b
    = drop-drop 8 (12 * s.i) b ∙ ap (λ (k : ℕ). drop k b) (add_comm (12 * s.i) 8) in (
      field-kept s.invariant.0 (omega arith) (rw first (ap threshold c.entry-entry.ensures.is)),
      field-kept s.invariant.1 (omega arith)
          (to_z-of_z {w = w32} c.entry-entry.ensures.fits ∙ ap offset c.entry-entry.ensures.is
          ∙ ap (λ (l : List ℕ). to_z w32 (number_in (take 4 l))) at),
    )

pub returns : goal.returns
returns c =
    let list = c.in-Ok.list in
    let kept = c.loop-i.invariant in
    let all : c.loop-i.i ≡ length list.bytes.now / 12 = omega (arith, c.len-n.ensures) in
    let thresholds_are = kept.0.first ∙ map_itself _ in
    rw (← c.in-Ok.ensures, list.whole)
    (c.from_lists.ensures
    ∙ ap built
    (entries_paired _ list.bytes.now (rw (c.len-n.ensures, ← all) thresholds_are)
    (rw (c.len-n.ensures, ← all) kept.1.first)))
