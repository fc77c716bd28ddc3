-- The programs gpscivil and civilgps together: by civil readings for a line, and line by line for an input.
use mathlib.Core.Path.{◌≡◌, refl, sym, ap, subst, ◌∙◌}
use mathlib.Core.Bool.{Bool, true, false, cond, ◌&&◌, false≢true}
use mathlib.Core.List.{List, [], ◌∷◌, ◌++◌, map, append_assoc}
use Prim.Native.Nat.{ℕ, ◌^◌, ◌<◌}
use native.Mathlib.Omega.{arith}
use borrow.Author.Tests.{ne_eqb, ltb-true, leb-true}
use lib.Dec.{ltb, leb}
use Rattle.refusals.specs.Outcome.{Outcome, answered, refused, then, changed}
use Rattle.refusals.proofs.Given.{no_refusal}
use Rattle.refusals.proofs.Steps.{goes_on}
use Rattle.civil.specs.declared.CivilDateTime.{CivilDateTime}
use Rattle.builtin.specs.Builtin.{builtin}
use Rattle.builtin.proofs.Regular.{builtin_on_days}
use Rattle.readings.specs.Readings.{gps_to_civil, civil_to_gps}
use Rattle.readings.proofs.Answered.{is_reading}
use Rattle.readings.proofs.ReadBack.{read_exactly}
use Rattle.words.specs.Decimal.{is_digit, all_digits, decimal, places_up_to}
use Rattle.words.proofs.WayBack.{first_half, second_half, digit_bounds, digits_are_digits, count_back}
use Rattle.texts.specs.Lines.{lines_of}
use Rattle.texts.specs.Ends.{has_no_end}
use Rattle.texts.proofs.LineEnds.{no_end}
use Rattle.stamps.specs.Form.{Fits, fields_at, first, last, within, written, stamp_read}
use Rattle.stamps.proofs.WayBack.{in_form, written-reads, read_writes}
use Rattle.lines.specs.Lines.{answers}
use Rattle.lines.specs.OutcomeLine.{line_of}
use Rattle.line_answers.specs.Gpscivil as gpscivil
use Rattle.line_answers.specs.Civilgps as civilgps
use Rattle.line_answers.proofs.ReadingFits.{reading_fits}
use Rattle.demands.specs.RoundTrips.{text_of, ended, Each, IsRead, Accepted, RoundTrips}

-- ---- a line
reads_count : (g : ℕ) → g < 2 ^ 64 → gpscivil.reading_of_line (decimal g) ≡ gps_to_civil builtin g
unfolding gpscivil.reading_of_line
reads_count g fits = goes_on (gps_to_civil builtin) (count_back g fits)

-- bytes in the form, and their fields
record InForm (text : List ℕ) (c : CivilDateTime) : Type 0 where
  formed : within first last text ≡ true
  is : fields_at text ≡ c

its_form : (text : List ℕ) (c : CivilDateTime) → stamp_read text ≡ answered c → InForm text c
unfolding stamp_read
its_form text c = go (within first last text) refl
  where
    go : (b : Bool) → within first last text ≡ b → cond b (answered (fields_at text)) (refused 10) ≡ answered c
        → InForm text c
    go true q e = record { formed = q; is = cc }
    go false q e = absurd (no_refusal _ e refl)

-- an accepted text is in the form, and is written for its count, which is read
record Pair (text : List ℕ) (g : ℕ) : Type 0 where
  formed : within first last text ≡ true
  read : IsRead g
  is : text_of g ≡ answered text

accepted : (text : List ℕ) (g : ℕ) → civilgps.gps_of_line text ≡ answered g → Pair text g
unfolding civilgps.gps_of_line
accepted text g = go (stamp_read text) refl
  where
    go : (o : Outcome CivilDateTime) → stamp_read text ≡ o → then o (civil_to_gps builtin) ≡ answered g → Pair text g
    go (refused k) q e = absurd (no_refusal _ e refl)
    go (answered c) q e =
        let (fits, read) = (read_exactly builtin builtin_on_days c g).0 e in
        let f = its_form text c q in
        record {
          formed = f.formed;
          read = (fits, (c, read));
          is = ap (changed written) (reads_count g fits ∙ read)
              ∙ ap answered (ap written (sym f.is) ∙ read_writes text f.formed);
        }

-- the text written for a count is answered by it
comes_back : (text : List ℕ) (g : ℕ) → g < 2 ^ 64 → text_of g ≡ answered text → civilgps.gps_of_line text ≡ answered g
unfolding civilgps.gps_of_line
comes_back text g fits e = go (gps_to_civil builtin g) refl (sym (ap (changed written) (reads_count g fits)) ∙ e)
  where
    go : (o : Outcome CivilDateTime) → gps_to_civil builtin g ≡ o → changed written o ≡ answered text
        → then (stamp_read text) (civil_to_gps builtin) ≡ answered g
    go (refused k) q h = absurd (no_refusal _ h refl)
    go (answered c) q h =
        let is : written c ≡ text = cc in
        let c_fits = subst Fits (is_reading builtin g c q) (reading_fits g fits) in
        goes_on (civil_to_gps builtin) (ap stamp_read (sym is) ∙ written-reads c c_fits)
        ∙ (read_exactly builtin builtin_on_days c g).1 (fits, q)

-- a count that is read has a text
has_text : (g : ℕ) → IsRead g → (c : CivilDateTime) × (text_of g ≡ answered (written c))
has_text g (fits, (c, read)) = (c, ap (changed written) (reads_count g fits ∙ read))

-- ---- no line has a byte 10
digits_no_end : (bs : List ℕ) → all_digits bs ≡ true → has_no_end bs ≡ true
digits_no_end [] e = refl
digits_no_end (b ∷ bs) e =
    let (from, to) = digit_bounds b (first_half (is_digit b) (all_digits bs) e) in
    rw (ne_eqb b 10 (λ q. omega arith)) (digits_no_end bs (second_half (is_digit b) (all_digits bs) e))

count_no_end : (g : ℕ) → has_no_end (decimal g) ≡ true
count_no_end g = digits_no_end (decimal g) (digits_are_digits (places_up_to 20 g) g)

abbrev all_above : List ℕ → Bool
all_above [] = true
all_above (b ∷ bs) = ltb 10 b && all_above bs

above_no_end : (l h s : List ℕ) → all_above l ≡ true → within l h s ≡ true → has_no_end s ≡ true
above_no_end [] h [] a e = refl
above_no_end [] h (b ∷ s) a e = absurd (false≢true e)
above_no_end (x ∷ l) [] s a e = absurd (false≢true e)
above_no_end (x ∷ l) (y ∷ h) [] a e = refl
above_no_end (x ∷ l) (y ∷ h) (b ∷ s) a e =
    let both = first_half (leb x b && leb b y) (within l h s) e in
    let from = leb-true x b (first_half (leb x b) (leb b y) both) in
    let low = ltb-true 10 x (first_half (ltb 10 x) (all_above l) a) in
    rw (ne_eqb b 10 (λ q. omega arith))
    (above_no_end l h s (second_half (ltb 10 x) (all_above l) a) (second_half (leb x b && leb b y) (within l h s) e))

text_no_end : (text : List ℕ) → within first last text ≡ true → has_no_end text ≡ true
text_no_end text formed = above_no_end first last text refl formed

-- ---- an input
line_before : (l s : List ℕ) → has_no_end l ≡ true → lines_of (l ++ (10 ∷ s)) ≡ l ∷ lines_of s
line_before [] s h = refl
line_before (b ∷ l) s h = let (not_10, rest) = no_end b l h in rw (not_10, line_before l s rest)

abbrev Lines : List (List ℕ) → Type 0
Lines ls = Each (λ l. has_no_end l ≡ true) ls

lines_of_lem : (ls : List (List ℕ)) → Lines ls → lines_of (ended ls) ≡ ls
lines_of_lem [] h = refl
lines_of_lem (l ∷ ls) (h, rest) = line_before l (ended ls) h ∙ ap (λ (x : List (List ℕ)). l ∷ x) (lines_of_lem ls rest)

-- lines that are answered by others, one by one
abbrev Answered : (List ℕ → List ℕ) → List (List ℕ) → List (List ℕ) → Type 0
Answered f [] [] = Unit {0}
Answered f [] (m ∷ ms) = ⊥
Answered f (l ∷ ls) [] = ⊥
Answered f (l ∷ ls) (m ∷ ms) = (f l ≡ m ++ (10 ∷ [])) × Answered f ls ms

answers_are : (f : List ℕ → List ℕ) (ls ms : List (List ℕ)) → Answered f ls ms → answers f ls ≡ ended ms
answers_are f [] [] a = refl
answers_are f [] (m ∷ ms) a = absurd a
answers_are f (l ∷ ls) [] a = absurd a
answers_are f (l ∷ ls) (m ∷ ms) (is, rest) = rw (is, append_assoc, answers_are f ls ms rest)

-- lines that f answers by lines that g answers by them again
record Both (f g : List ℕ → List ℕ) (ls : List (List ℕ)) : Type 0 where
  between : List (List ℕ)
  given : Lines ls
  written_between : Lines between
  there : Answered f ls between
  back : Answered g between ls

module _ (f g : List ℕ → List ℕ) where
  none : Both f g []
  none = record { between = []; given = tt; written_between = tt; there = tt; back = tt }

  one_more : (l m : List ℕ) (ls : List (List ℕ)) → has_no_end l ≡ true → has_no_end m ≡ true → f l ≡ m ++ (10 ∷ [])
      → g m ≡ l ++ (10 ∷ []) → Both f g ls → Both f g (l ∷ ls)
  one_more l m ls h k p q b = record {
    between = m ∷ b.between;
    given = (h, b.given);
    written_between = (k, b.written_between);
    there = (p, b.there);
    back = (q, b.back);
  }

  piped : (ls : List (List ℕ)) → Both f g ls → answers g (lines_of (answers f (lines_of (ended ls)))) ≡ ended ls
  piped ls b =
      ap (λ (x : List (List ℕ)). answers g (lines_of (answers f x))) (lines_of_lem ls b.given)
      ∙ ap (λ (x : List ℕ). answers g (lines_of x)) (answers_are f ls b.between b.there)
      ∙ ap (answers g) (lines_of_lem b.between b.written_between)
      ∙ answers_are g b.between ls b.back

-- ---- of the two programs
text-written : (text : List ℕ) (g : ℕ) → text_of g ≡ answered text → gpscivil.answer_to (decimal g) ≡ text ++ (10 ∷ [])
text-written text g e = ap line_of e

count_written : (text : List ℕ) (g : ℕ) → civilgps.gps_of_line text ≡ answered g → civilgps.answer_to text ≡ decimal g ++ (10 ∷ [])
count_written text g e = ap (λ (o : Outcome ℕ). line_of (changed decimal o)) e

counts : (gs : List ℕ) → Each IsRead gs → Both gpscivil.answer_to civilgps.answer_to (map decimal gs)
counts [] each = none gpscivil.answer_to civilgps.answer_to
counts (g ∷ gs) (read, rest) =
    let (c, is) = has_text g read in
    one_more gpscivil.answer_to civilgps.answer_to (decimal g) (written c) (map decimal gs) (count_no_end g)
    (text_no_end (written c) (in_form c)) (text-written (written c) g is)
    (count_written (written c) g (comes_back (written c) g read.0 is)) (counts gs rest)

texts : (ls : List (List ℕ)) → Each Accepted ls → Both civilgps.answer_to gpscivil.answer_to ls
texts [] each = none civilgps.answer_to gpscivil.answer_to
texts (l ∷ ls) ((g, e), rest) =
    let p = accepted l g e in
    one_more civilgps.answer_to gpscivil.answer_to l (decimal g) ls (text_no_end l p.formed) (count_no_end g)
    (count_written l g e) (text-written l g p.is) (texts ls rest)

pub round_trips : RoundTrips
round_trips = record {
  accepted_exactly = λ text g.
      (λ e. let p = accepted text g e in (p.read.0, p.is), λ (fits, is). comes_back text g fits is);
  read_exactly = λ g. (
    λ read. let (c, is) = has_text g read in (written c, comes_back (written c) g read.0 is),
    λ (text, e). (accepted text g e).read,
  );
  written_exactly = λ text. (
    λ (g, e). let p = accepted text g e in (g, p.read.0, p.is),
    λ (g, fits, is). (g, comes_back text g fits is),
  );
  counts_come_back = λ gs each. piped gpscivil.answer_to civilgps.answer_to (map decimal gs) (counts gs each);
  texts_come_back = λ ls each. piped civilgps.answer_to gpscivil.answer_to ls (texts ls each);
}
