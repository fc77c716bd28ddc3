-- `put_place`: the words, the number, the start of the line and the line end, each from where the part before ends.
use Rattle.std.proofs.Common.{◌≡◌, ℕ, ◌+◌, ◌≤◌, ◌<◌, List, [], ◌∷◌, ◌++◌, length, refl, subst, arith}
use Rattle.std.proofs.lemmas.List.Edits.{sets}
use borrow.Author.Tests.{ne_eqb}
use lib.ListN.{set}
use Rattle.words.specs.Decimal.{decimal}
use Rattle.words.proofs.WayBack.{decimal_length}
use Rattle.leaplist.specs.Report.{at_line, quoted, start_of_line, place}
use Rattle.leaplist.specs.Writing.{PutsAt}
use Rattle.leaplist.proofs.Lengths.{quoted-short, start-short}
use Rattle.leaplist.proofs.OneAfterOther.{then_puts}
use Rattle.leaplist.proofs.inner.put.put_place.Goals as goal

place_puts : {x y z : List ℕ} {p q : ℕ} (out : List ℕ) (at k : ℕ) (bs text : List ℕ) → (k ≡ 0 → ⊥)
    → text ≡ start_of_line k bs → x ≡ sets out at at_line → PutsAt (at + 9) (decimal k) x y p
    → PutsAt p (quoted text) y z q → PutsAt at (place k bs) out (set z q 10) (q + 1)
place_puts {x} {y} {z} {p} {q} out at k bs text told is word number line =
    rw (ne_eqb k 0 told)
    (then_puts out at at_line (decimal k ++ (quoted (start_of_line k bs) ++ (10 ∷ []))) (refl, word)
    (then_puts x (at + 9) (decimal k) (quoted (start_of_line k bs) ++ (10 ∷ [])) number
    (then_puts y p (quoted (start_of_line k bs)) (10 ∷ [])
    (subst (λ (l : List ℕ). PutsAt p (quoted l) y z q) is line) (refl, refl))))

-- the part that is quoted is short
few : {text : List ℕ} (k : ℕ) (bs : List ℕ) → text ≡ start_of_line k bs → length text ≤ 40
few k bs is = rw is (start-short k bs)

-- and there is room for the line end after it
room : {n p q : ℕ} (at k : ℕ) (text : List ℕ) → length text ≤ 40 → at + 74 ≤ n → p ≡ at + 9 + length (decimal k)
    → q ≡ p + length (quoted text) → q < n
room at k text short fits number line = omega (arith, quoted-short text, decimal_length k)

pub put_quoted-end-requires-clause-line_len_bound : goal.put_quoted-end-requires-clause-line_len_bound
put_quoted-end-requires-clause-line_len_bound c = few c.args.line c.args.bytes.now c.start_of_line.ensures

pub put_quoted-end-requires-clause-at_in_bounds : goal.put_quoted-end-requires-clause-at_in_bounds
put_quoted-end-requires-clause-at_in_bounds c =
    omega (arith, decimal_length c.args.line, c.put_count-number_end.ensures.0)

pub bounds-out-end : goal.bounds-out-end
bounds-out-end c =
    let short = few c.args.line c.args.bytes.now c.start_of_line.ensures in
    room c.args.at c.args.line c.start_of_line.result.now short (omega arith) c.put_count-number_end.ensures.0
    c.put_quoted-end.ensures.0

pub overflow_add-result-2 : goal.overflow_add-result-2
overflow_add-result-2 c =
    let short = few c.args.line c.args.bytes.now c.start_of_line.ensures in
    let inside = room {n = length c.args.out.now} c.args.at c.args.line c.start_of_line.result.now short (omega arith)
    c.put_count-number_end.ensures.0 c.put_quoted-end.ensures.0 in
    omega (arith, inside)

pub returns : goal.returns
returns c =
    let a = c.args in
    place_puts a.out.now a.at a.line a.bytes.now c.start_of_line.result.now c.if-line-eq0.false
    c.start_of_line.ensures c.put_bytes.ensures c.put_count-number_end.ensures c.put_quoted-end.ensures
