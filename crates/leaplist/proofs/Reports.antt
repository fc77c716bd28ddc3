-- How long the report on a file is, and which report is due by what the reader answers.
use mathlib.Core.Path.{◌≡◌, refl, sym, ap, subst, ◌∙◌}
use mathlib.Core.Bool.{Bool, true, false, cond, ◌&&◌, true≢false}
use mathlib.Core.List.{List, [], ◌∷◌, ◌++◌, append-nil}
use Prim.Native.Nat.{ℕ, ◌+◌, ◌≤◌, ◌<◌}
use native.Mathlib.Decide.{dec_le}
use native.Mathlib.Omega.{arith}
use borrow.Author.Tests.{leb-true, ne_eqb, lt-ltb}
use lib.Dec.{eqb, leb, ltb}
use lib.IntN.{pos}
use lib.ListN.{length, take, length-append, length-take}
use lib.Seq.{length-take-le}
use Rattle.std.proofs.Common.{None, Some, IfSome}
use Rattle.std.specs.Io.KnownBytes.{Appends, Consumes, IsAtEnd}
use Rattle.std.specs.declared.option.Option.{Option}
use Rattle.words.specs.Decimal.{decimal}
use Rattle.lines.specs.OutcomeLine.{refused_word}
use Rattle.refusals.specs.Number.{number_of}
use Rattle.refusals.specs.declared.Refusal.{Refusal}
use Rattle.refusals.proofs.Tells.{number_not_zero}
use Rattle.texts.specs.Lines.{lines_of}
use Rattle.tables.specs.Answers.{taken_in}
use Rattle.tables.specs.Entries.{valid}
use Rattle.tables.specs.Slots.{paired, entries_of, valid_table}
use Rattle.tables.specs.declared.LeapTable.{LeapTable}
use Rattle.records.specs.Records.{table_from}
use Rattle.records.proofs.KeptValid.{made_valid}
use Rattle.published.specs.LeapSecondsList.{first_malformed, records_in, first_expiry, last_offset, expiry_second}
use Rattle.published.specs.LeapSecondsList.{Reading, list_read}
use Rattle.published.specs.Places.{reading_in}
use Rattle.published.specs.declared.ListAnswer.{ListAnswer}
use Rattle.leaplist.specs.Report.{table_report, refusal_report, report_of, report}
use Rattle.leaplist.proofs.Lengths.{table_short, refusal_short}

-- ---- a table that is read has at most 64 entries
abbrev Few : Reading → Type 0
Few r = r.table.len ≤ 64

valid_few : (t : LeapTable) → valid_table t ≡ true → t.len ≤ 64
valid_few t v = by_test (leb t.len 64) refl v
  where
    by_test : (b : Bool) → leb t.len 64 ≡ b → (b && valid (entries_of t)) ≡ true → t.len ≤ 64
    by_test true e v = leb-true t.len 64 e
    by_test false e v = absurd (true≢false (sym v))

either : (test : Bool) (x y : Reading) → Few x → Few y → Few (cond test x y)
either true x y l m = l
either false x y l m = m

few_entries : (bs : List ℕ) → Few (list_read bs)
few_entries bs =
    let ls = lines_of bs in
    let rs = records_in ls in
    let expiry = expiry_second (first_expiry ls) (last_offset (pos 0) rs) in
    either (ltb 65_536 (length bs)) _ _ (omega arith)
    (either (eqb (first_malformed false 1 ls) 0) _ _ (valid_few (table_from 12 expiry rs).1 (made_valid 12 expiry rs (omega arith)))
    (omega arith))

-- 64 lines of 73 bytes, one of 39 and one of 29; a refusal has fewer
pub report-short : (bs : List ℕ) → length (report bs) ≤ 4740
unfolding report
report-short bs = by_number (eqb r.number 0)
  where
    r : Reading
    r = list_read bs

    by_number : (t : Bool)
        → length (cond t (table_report (entries_of r.table) r.table.expiry r.dropped) (refusal_report r.number r.line bs)) ≤ 4740
    by_number true =
        let slots = length-take r.table.len (paired r.table.thresholds r.table.offsets) in
        table_short (entries_of r.table) r.table.expiry r.dropped (omega (arith, few_entries bs, slots))
    by_number false = omega (arith, refusal_short r.number r.line bs)

-- ---- the report by what the reader answers
module _ (bs : List ℕ) (x : ListAnswer) (is : reading_in x ≡ list_read bs) where
  pub few_in_answer : x.table.len ≤ 64
  few_in_answer = subst Few (sym is) (few_entries bs)

  pub report_accepted : taken_in x.answer ≡ 0 → report bs ≡ table_report (entries_of x.table) x.table.expiry x.dropped
  unfolding report
  report_accepted z = ap (report_of bs) (sym is) ∙ rw z

  pub report_refused : (r : Refusal) → taken_in x.answer ≡ number_of r
      → report bs ≡ refusal_report (number_of r) x.line bs
  unfolding report
  report_refused r e = ap (report_of bs) (sym is) ∙ rw (e, ne_eqb (number_of r) 0 (number_not_zero r))

-- ---- the report on what is read of an input
-- a file that is too long is refused, whatever its bytes are
long_report : (bs : List ℕ) → 65_536 < length bs → report bs ≡ refused_word ++ (decimal 12 ++ (10 ∷ []))
unfolding report
long_report bs h = rw (lt-ltb 65_536 (length bs) h)

-- the report on the first bytes is that on all, where they are all, or more than the longest file has
pub report_read : (a b old new : Option (List ℕ)) (block : List ℕ) (n : ℕ) → n ≤ length block → 65_536 < length block
    → Consumes a b (take n block) → (n < length block → IsAtEnd b) → Appends old new (report (take n block))
    → IfSome a (λ all. Appends old new (report all))
report_read None b old new block n inside long first end put = tt
report_read (Some all) None old new block n inside long first end put = absurd first
report_read (Some all) (Some rest) old new block n inside long first end put = by_length (dec_le (length block) n)
  where
    by_length : Dec (length block ≤ n) → Appends old new (report all)
    by_length (yes h) =
        let read : length (take n block) ≡ n = length-take-le n block inside in
        let much : length all ≡ n + length rest = ap length first ∙ length-append (take n block) rest ∙ ap (λ (k : ℕ). k + length rest) read in
        let same = long_report (take n block) (omega (arith, read, h)) ∙ sym (long_report all (omega (arith, much, h))) in
        subst (λ (t : List ℕ). Appends old new t) same put
    by_length (no h) =
        let whole : all ≡ take n block = first ∙ rw (end (omega (arith, h))) (append-nil (take n block)) in
        subst (λ (t : List ℕ). Appends old new (report t)) (sym whole) put
