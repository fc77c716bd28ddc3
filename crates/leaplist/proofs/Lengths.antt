-- How long the parts of a report are, and the whole of it.
use mathlib.Core.Path.{◌≡◌, refl, sym, ap, ◌∙◌}
use mathlib.Core.Bool.{Bool, true, false, cond}
use mathlib.Core.List.{List, [], ◌∷◌, ◌++◌, append-nil, append_assoc}
use Prim.Native.Nat.{ℕ, ◌+◌, ◌*◌, ◌-◌, ◌≤◌}
use native.Mathlib.Nat.{sub-zero}
use native.Mathlib.Omega.{arith}
use borrow.Author.Tests.{ltb-false, le-ltb}
use lib.Dec.{eqb, ltb}
use lib.IntN.{nat_abs}
use lib.ListN.{length, get_or, take, length-append, length-take}
use lib.Seq.{sets-eq, take_at}
use Rattle.words.specs.Decimal.{decimal}
use Rattle.words.proofs.WayBack.{decimal_length}
use Rattle.texts.specs.Lines.{lines_of}
use Rattle.civil.specs.Fields.{fields_at}
use Rattle.stamps.specs.Form.{written}
use Rattle.tables.specs.Entries.{Entry, threshold, offset, current_offset}
use Rattle.tables.specs.Slots.{no_expiry}
use Rattle.lines.specs.OutcomeLine.{Puts, PutsWithRoom}
use Rattle.leaplist.specs.Report.{number_and, utc_second, entry_line, entry_lines, expires_word, none_word, expiry_line}
use Rattle.leaplist.specs.Report.{dropped_word, table_report}
use Rattle.leaplist.specs.Report.{all_text, quoted, at_line, start_of_line, place, refusal_report}

-- ---- of an accepted file
pub number_short : (n mark : ℕ) → length (number_and n mark) ≤ 21
number_short n mark = omega (arith, decimal_length n, length-append (decimal n) (mark ∷ []))

pub entry-short : (e : Entry) → length (entry_line e) ≤ 73
unfolding entry_line
entry-short e =
    let n = number_and (nat_abs (offset e)) 32 in
    let t = number_and (threshold e) 10 in
    omega (arith, length-append n t, number_short (nat_abs (offset e)) 32, number_short (threshold e) 10)

pub lines_short : (es : List Entry) → length (entry_lines es) ≤ 73 * length es
unfolding entry_lines
lines_short [] = omega arith
lines_short (e ∷ es) = omega (arith, length-append (entry_line e) (entry_lines es), entry-short e, lines_short es)

-- the line of one entry more
pub one_line_more : (es : List Entry) (e : Entry) → entry_lines (es ++ (e ∷ [])) ≡ entry_lines es ++ entry_line e
unfolding entry_lines
one_line_more [] e = append-nil (entry_line e)
one_line_more (f ∷ es) e =
    ap (λ (l : List ℕ). entry_line f ++ l) (one_line_more es e)
    ∙ sym (append_assoc (entry_line f) (entry_lines es) (entry_line e))

pub expiry_short : (x n : ℕ) → length (expiry_line x n) ≤ 39
unfolding expiry_line
expiry_short x n = by_test (eqb x no_expiry)
  where
    stamp : List ℕ
    stamp = written (fields_at (utc_second x n) 0)

    by_test : (t : Bool) → length (expires_word ++ (cond t none_word stamp ++ (10 ∷ []))) ≤ 39
    by_test true = omega arith
    by_test false = omega (arith, length-append stamp (10 ∷ []))

pub table_short : (es : List Entry) (x n : ℕ) → length es ≤ 64 → length (table_report es x n) ≤ 4740
table_short es x n few =
    let expiry = expiry_line x (nat_abs (current_offset es)) in
    let dropped = dropped_word ++ number_and n 10 in
    omega (
      arith,
      length-append (entry_lines es) (expiry ++ dropped),
      length-append expiry dropped,
      lines_short es,
      expiry_short x (nat_abs (current_offset es)),
      number_short n 10,
    )

-- ---- of a refused one
pub quoted-short : (bs : List ℕ) → length (quoted bs) ≤ 4 + length bs
quoted-short bs = by_test (all_text bs)
  where
    by_test : (t : Bool) → length (cond t (58 ∷ 32 ∷ 34 ∷ (bs ++ (34 ∷ []))) []) ≤ 4 + length bs
    by_test true = omega (arith, length-append bs (34 ∷ []))
    by_test false = omega arith

pub start-short : (k : ℕ) (bs : List ℕ) → length (start_of_line k bs) ≤ 40
start-short k bs = omega (arith, length-take 40 (get_or (lines_of bs) (k - 1) []))

place_short : (k : ℕ) (bs : List ℕ) → length (place k bs) ≤ 74
place_short k bs = by_test (eqb k 0)
  where
    text : List ℕ
    text = start_of_line k bs

    by_test : (t : Bool)
        → length (cond t (10 ∷ []) (at_line ++ (decimal k ++ (quoted text ++ (10 ∷ []))))) ≤ 74
    by_test true = omega arith
    by_test false =
        omega (
          arith,
          length-append (decimal k) (quoted text ++ (10 ∷ [])),
          length-append (quoted text) (10 ∷ []),
          decimal_length k,
          quoted-short text,
          start-short k bs,
        )

pub refusal_short : (number k : ℕ) (bs : List ℕ) → length (refusal_report number k bs) ≤ 102
refusal_short number k bs =
    omega (arith, length-append (decimal number) (place k bs), decimal_length number, place_short k bs)

-- ---- what is written has room, where no text is longer than the longest one
pub made_fits : (longest : ℕ) (text out out' : List ℕ) (made : ℕ) → length text ≤ longest
    → PutsWithRoom longest text out out' made → made ≤ length out
made_fits longest text out out' made short put = by_room (ltb (length out) longest) refl put.0
  where
    by_room : (t : Bool) → ltb (length out) longest ≡ t → made ≡ length (cond t [] text) → made ≤ length out
    by_room true e is = omega (arith, is)
    by_room false e is = omega (arith, is, ltb-false (length out) longest e, short)

-- and the bytes that are told are the text
pub made_is : (longest : ℕ) (text out out' : List ℕ) (made : ℕ) → length text ≤ longest → longest ≤ length out
    → PutsWithRoom longest text out out' made → take (made - 0) out' ≡ text
made_is longest text out out' made short room put =
    let puts : Puts text out out' made = rw (le-ltb (length out) longest room) at put in
    rw (sub-zero made, puts.0, puts.1, sets-eq text out 0 (omega arith)) (take_at text _ (length text) refl)
