-- A line at a time, by its kind; and when no line is left, the table of the records and the expiry.
use Rattle.std.proofs.Common.{◌≡◌, ◌≤◌, ◌+◌, ◌++◌, [], ◌∷◌, length, drop, w32, to_z, of_z, sym, ap, ◌∙◌, arith, rules}
use lib.ListN.{length-append}
use Rattle.texts.specs.Ends.{until_end}
use Rattle.tables.specs.Answers.{table_answer_in}
use Rattle.records.specs.Records.{table_from}
use Rattle.records.specs.Judged.{begun}
use Rattle.published.specs.LeapSecondsList.{expiry_second, of_records}
use Rattle.published.specs.Places.{line_of}
use Rattle.published.proofs.LineKinds.{end-within}
use Rattle.published.proofs.Parts.{is_rest}
use Rattle.published.proofs.WholeFile.{last-judged, all_read, refused_there, refused_again}
use Rattle.published.proofs.WholeFile.{line_passes, line-holds, line_expires}
use Rattle.published.proofs.inner.file.read_lines.Goals as goal
use Rattle.published.proofs.inner.file.read_lines.Goals.{in-Passes, in-Holds, in-Expires+else-is_some}

pub returns-in_default : goal.returns-in_default
returns-in_default c =
    c.refused_at.ensures
    ∙ refused_there c.loop-at.invariant.read c.loop-at-test.true
    (rw (is_rest c.args.s.now c.loop-at.at) at c.in_default.ensures.is)

pub returns-then-is_some : goal.returns-then-is_some
returns-then-is_some c =
    let is = rw (is_rest c.args.s.now c.loop-at.at) at c.in-Some.ensures.is in
    c.refused_at-then-is_some.ensures
    ∙ refused_again c.loop-at.invariant.read c.loop-at-test.true c.in-Expires.ntp (sym (ap line_of c.in-Expires.is) ∙ is)
    (sym c.if-is_some.ensures)

-- ---- a line that is read
inside : (c : goal.Joined-read) → c.loop-at.at + (c.in-Some.end + 1) ≤ length c.args.s.now + 1
inside c =
    let s = c.args.s.now in
    let ends = rw (is_rest s c.loop-at.at) at c.in-Some.ensures.ends in
    omega (arith, ends.0, end-within s c.loop-at.at (omega arith))

pub overflow_add-at : goal.overflow_add-at
overflow_add-at c = let within = inside c in search rules

pub overflow_add-at-in-loop-at : goal.overflow_add-at-in-loop-at
overflow_add-at-in-loop-at c = let within = inside c in search rules

pub loop-at-preserved : goal.loop-at-preserved
loop-at-preserved c =
    let s = c.args.s.now in
    let i = c.loop-at.invariant in
    let is = rw (is_rest s c.loop-at.at) at c.in-Some.ensures.is in
    let ends = rw (is_rest s c.loop-at.at) at c.in-Some.ensures.ends in
    let at_is : c.loop-at.at + (c.in-Some.end + 1) ≡ c.loop-at.at + until_end (drop c.loop-at.at s) + 1 = omega (arith, ends.0) in
    rw at_is
    (elim c.match-read.branch [
      | in-Passes w ↦
          rw (w.gathered-is, w.records-is, w.expiry-is)
          (record {
            past = i.past;
            read = line_passes i.read c.loop-at-test.true (sym (ap line_of w.in-Passes.is) ∙ is);
            held = i.held;
            counted = i.counted;
            kept = omega (arith, i.kept);
            held_few = omega (arith, i.held_few);
          })
      | in-Holds w ↦
          let one = w.in-Holds.record in
          rw (w.gathered-is, w.records-is, w.expiry-is)
          (record {
            past = i.past ++ (one ∷ []);
            read = line-holds i.read c.loop-at-test.true one (sym (ap line_of w.in-Holds.is) ∙ is);
            held = w.take.ensures.holds i.past i.held;
            counted = omega (arith, i.counted, length-append i.past (one ∷ []));
            kept = omega (arith, i.kept, w.take.ensures.counts);
            held_few = omega (arith, i.held_few);
          })
      | in-Expires+else-is_some w ↦
          rw (w.gathered-is, w.records-is, w.expiry-is)
          (record {
            past = i.past;
            read = line_expires i.read c.loop-at-test.true w.in-Expires.ntp (sym (ap line_of w.in-Expires.is) ∙ is)
                (sym w.is_some.ensures ∙ w.if-is_some.false);
            held = i.held;
            counted = i.counted;
            kept = omega (arith, i.kept);
            held_few = omega (arith, i.held_few);
          })
    ])

-- ---- no line is left
pub returns : goal.returns
returns c =
    let a = c.loop-at in
    let i = a.invariant in
    let rs = i.past in
    let n = a.gathered.seen.last.offset in
    let back : to_z w32 (of_z w32 n) ≡ n = search rules in
    let last = back ∙ ap (λ j. j.offset) i.held.seen ∙ last-judged begun rs in
    let expires = c.expiry_by-expires.ensures ∙ ap (expiry_second a.expiry) last in
    c.answer_for.ensures
    ∙ ap (λ n. of_records n (table_answer_in c.finish.result)) i.counted
    ∙ ap (of_records (length rs)) (c.finish.ensures rs i.held ∙ ap (λ x. table_from 12 x rs) expires)
    ∙ all_read i.read c.loop-at-test.false
