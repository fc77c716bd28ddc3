-- `put_table`: the lines of the entries, the line of the expiry, and then the line of those that were dropped.
use Rattle.std.proofs.Common.{◌≡◌, ℕ, ◌+◌, ◌-◌, ◌≤◌, List, ◌++◌, length, get_or, sym, ap, subst, ◌∙◌, arith, rules}
use Prim.Native.Nat.{zero, suc}
use mathlib.Core.Bool.{cond}
use lib.Dec.{eqb, eqb-suc-zero}
use lib.IntN.{ℤ, pos, nat_abs}
use Rattle.tables.specs.Entries.{current_offset}
use Rattle.tables.specs.Slots.{slots, entries_of}
use Rattle.tables.proofs.FirstSlots.{slots_length}
use Rattle.tables.proofs.Joining.{current_slot, none_current}
use Rattle.leaplist.specs.Report.{number_and, entry_lines, expiry_line, dropped_word}
use Rattle.leaplist.specs.Writing.{PutsAt}
use Rattle.leaplist.proofs.Lengths.{lines_short, expiry_short}
use Rattle.leaplist.proofs.OneAfterOther.{then_puts, from_start}
use Rattle.leaplist.proofs.inner.put.put_table.Goals as goal

-- the last slot has the current offset
current : (ts : List ℕ) (ns : List ℤ) (n : ℕ) → n ≤ length ts → n ≤ length ns
    → cond (eqb n 0) (pos 19) (get_or ns (n - 1) (pos 0)) ≡ current_offset (slots ts ns n)
current ts ns zero h k = sym none_current
current ts ns (suc n) h k = rw (eqb-suc-zero n) (sym (current_slot ts ns (suc n) h k (omega arith)))

-- the lines of at most 64 entries
few_lines : {e : ℕ} (ts : List ℕ) (ns : List ℤ) (n : ℕ) → length ts ≡ 64 → length ns ≡ 64 → n ≤ 64
    → e ≡ 0 + length (entry_lines (slots ts ns n)) → e ≤ 4672
few_lines ts ns n us ms few is =
    let all : length (slots ts ns n) ≡ n = slots_length ts ns n (omega arith) (omega arith) in
    omega (arith, lines_short (slots ts ns n), all, is)

pub put_expiry-end-requires : goal.put_expiry-end-requires
put_expiry-end-requires c =
    let t = c.args.table in
    let us : length t.thresholds ≡ 64 = search rules in
    let ms : length t.offsets ≡ 64 = search rules in
    omega (arith, few_lines t.thresholds t.offsets t.len us ms (omega arith) c.put_entries-entries_end.ensures.0)

pub put_dropped-requires : goal.put_dropped-requires
put_dropped-requires c =
    let t = c.args.table in
    let us : length t.thresholds ≡ 64 = search rules in
    let ms : length t.offsets ≡ 64 = search rules in
    let lines = few_lines t.thresholds t.offsets t.len us ms (omega arith) c.put_entries-entries_end.ensures.0 in
    omega (arith, lines, c.put_expiry-end.ensures.0, expiry_short t.expiry c.last_size-last.result)

pub returns : goal.returns
returns c =
    let a = c.args in
    let t = a.table in
    let us : length t.thresholds ≡ 64 = search rules in
    let ms : length t.offsets ≡ 64 = search rules in
    let out = a.out.now in
    let es = entries_of t in
    let size = c.last_size-last.ensures ∙ ap nat_abs (current t.thresholds t.offsets t.len (omega arith) (omega arith)) in
    let count = dropped_word ++ number_and a.dropped 10 in
    let line = expiry_line t.expiry (nat_abs (current_offset es)) in
    let expiry_put = subst
    (λ (k : ℕ). PutsAt c.put_entries-entries_end.result (expiry_line t.expiry k) c.put_entries-entries_end.new.out
    c.put_expiry-end.new.out c.put_expiry-end.result) size c.put_expiry-end.ensures in
    from_start out (entry_lines es ++ (line ++ count))
    (then_puts out 0 (entry_lines es) (line ++ count) c.put_entries-entries_end.ensures
    (then_puts _ c.put_entries-entries_end.result line count expiry_put c.put_dropped.ensures))
