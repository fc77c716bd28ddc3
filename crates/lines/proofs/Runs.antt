-- A run over the blocks of an input, by the contracts of its steps: what it has written when the input has ended is the
-- answers to the lines of the input.
use Rattle.std.proofs.Common.{◌≡◌, ℕ, ◌+◌, ◌-◌, ◌≤◌, ◌<◌, List, [], ◌∷◌, ◌++◌, None, Some, Ok, Err, IfSome, length, take, drop, refl, sym, ap, subst, ◌∙◌, append_assoc, append-nil, inl, inr, arith}
use native.Mathlib.Nat.{sub-zero}
use lib.ListN.{length-take}
use lib.Seq.{take_at, drop-drop, length-take-le, sets-eq}
use Rattle.std.proofs.lemmas.List.{take-append-drop, drop-take}
use Rattle.std.specs.Prelude.{IsTrue, IsFalse}
use mathlib.Core.Bool.{true≢false}
use Rattle.std.specs.Io.KnownBytes.{Appends}
use Rattle.std.proofs.KnownBytes.{Appends-nil, Appends-trans}
use Rattle.std.specs.declared.option.Option.{Option}
use Rattle.texts.specs.Lines.{lines_of}
use Rattle.lines.specs.Lines.{answers, AnswersLines}
use Rattle.lines.specs.Pieces.{begun_after, written, AnswersBlock}
use Rattle.lines.specs.Places.{Within}
use Rattle.lines.specs.Streams.{IfKnown, to_take, taken_to, GoesOn, EndsLine, ReadsOn, AnswersTo, IfEnded}
use Rattle.lines.specs.declared.inner.find.Answered.{Answered}
use Rattle.lines.specs.declared.inner.streams.Place.{Place}
use Rattle.lines.specs.declared.inner.streams.Stop.{Stop}
use Rattle.lines.specs.declared.inner.streams.Stop.TheVariants.{Ended, CannotRead, CannotWrite}
use Rattle.lines.proofs.Cutting.{begun_joins, written_joins}
use Rattle.lines.proofs.WholeInput.{at_end, cut_anywhere}

-- what bytes and the end after them write, and of two pieces the first
abbrev pub whole : (List ℕ → List ℕ) → List ℕ → List ℕ → List ℕ
whole f c s = written f c s ++ at_end f (begun_after c s)

whole_joins : (f : List ℕ → List ℕ) (c a b : List ℕ) → whole f c (a ++ b) ≡ written f c a ++ whole f (begun_after c a) b
whole_joins f c a b = rw (written_joins, begun_joins) (append_assoc (written f c a) _ _)

-- a line end in the place of the end writes the same
line_end_for_end : (f : List ℕ → List ℕ) (c : List ℕ) → 0 < length c → whole f c [] ≡ whole f c (10 ∷ [])
line_end_for_end f [] h = absurd (omega arith)
line_end_for_end f (x ∷ c) h = sym (append-nil (at_end f (x ∷ c)))

-- what is written so far, and then what is left writes, is what the whole input writes; past its end nothing is left
-- begun
pub record Runs (f : List ℕ → List ℕ) (all line block : List ℕ) (p : Place) (rest done : List ℕ) : Type 0 where
  pub same : done ++ whole f (take p.used line) (to_take p block ++ rest) ≡ whole f [] all
  pub last : IsTrue p.over → (rest ≡ []) × (begun_after (take p.used line) (to_take p block) ≡ [])

-- ---- a read
module _ {f : List ℕ → List ℕ} {all line block block' : List ℕ} {p q : Place} {rest rest' done : List ℕ}
    (runs : Runs f all line block p rest done) (used : q.used ≡ p.used) where
  reads_bytes : GoesOn p block rest q block' rest' → Runs f all line block' q rest' done
  reads_bytes (over, same, none) = record {
    same = rw (used, same) runs.same;
    last = λ t.
        let was = rw over at t in
        let (empty, begun) = runs.last was in
        let left = none was ∙ empty in
        let both : to_take q block' ≡ to_take p block =
        sym (append-nil (to_take q block')) ∙ ap (λ (l : List ℕ). to_take q block' ++ l) (sym left) ∙ same
        ∙ ap (λ (l : List ℕ). to_take p block ++ l) empty ∙ append-nil (to_take p block) in
        (left, rw (used, both) begun);
  }

  reads_end : length line ≡ 128 → p.used ≤ 128 → EndsLine p block rest q block' rest' → Runs f all line block' q rest' done
  reads_end long few (some, none, over, line_end, left) =
      let c = take p.used line in
      let held : length c ≡ p.used = length-take-le p.used line (omega arith) in
      record {
        same = rw (used, line_end, left, ← (line_end_for_end f c (omega arith))) (rw none at runs.same);
        last = λ t. (left, rw (used, line_end) refl);
      }

-- ---- answers
module _ {f : List ℕ → List ℕ} {all line line' block : List ℕ} {p q : Place} {rest done : List ℕ} {old new : Option (List ℕ)}
    (runs : Runs f all line block p rest done) (to : AnswersTo f p line block line' q old new) where
  -- what is taken, and then what is left to take
  parts : taken_to p q block ++ to_take q block ≡ to_take p block
  parts =
      let t = q.at - p.at in
      let piece = to_take p block in
      let n = p.end - p.at - t in
      let place : p.at + t ≡ q.at = omega (arith, to.order) in
      let size : t + n ≡ p.end - p.at = omega (arith, to.order, to.inside, to.same_end) in
      let same : q.end - q.at ≡ n = omega (arith, to.order, to.inside, to.same_end) in
      let left : to_take q block ≡ drop t piece
      = ap (λ (k : ℕ). take k (drop q.at block)) same ∙ ap (λ (k : ℕ). take n (drop k block)) (sym place)
      ∙ ap (take n) (sym (drop-drop t p.at block)) ∙ sym (drop-take t n (drop p.at block))
      ∙ ap (λ (k : ℕ). drop t (take k (drop p.at block))) size in
      ap (λ (l : List ℕ). take t piece ++ l) left ∙ take-append-drop t piece

  answers_part : Runs f all line' block q rest (done ++ written f (take p.used line) (taken_to p q block))
  answers_part =
      let c = take p.used line in
      let said = written f c (taken_to p q block) in
      let split : to_take p block ++ rest ≡ taken_to p q block ++ (to_take q block ++ rest)
      = ap (λ (l : List ℕ). l ++ rest) (sym parts) ∙ append_assoc (taken_to p q block) (to_take q block) rest in
      let more = whole_joins f c (taken_to p q block) (to_take q block ++ rest) in
      record {
        same = append_assoc done said _
            ∙ ap (λ (l : List ℕ). done ++ l) (rw to.begins (sym (ap (whole f c) split ∙ more))) ∙ runs.same;
        last = λ t.
            let (empty, begun) = runs.last (rw to.same_over at t) in
            (empty, rw to.begins (sym (begun_joins c (taken_to p q block) (to_take q block)) ∙ rw parts begun));
      }

-- a block is answered, and the answers are written
pub block_answered : {longest : ℕ} {f : List ℕ → List ℕ} {line block out line' out' : List ℕ} {old new : Option (List ℕ)}
    (p : Place) (r : Answered) → Within (length block) p
    → AnswersBlock longest f (take p.used line) (to_take p block) out line' out' r → Appends old new (take (r.made - 0) out')
    → AnswersTo f p line block line' (record { used = r.used; at = p.at + r.taken; end = p.end; over = p.over }) old new
block_answered {f = f} {line = line} {block = block} {out = out} {line' = line'} {out' = out'} {old = old} {new = new} p r within done wrote =
    let piece = to_take p block in
    let text = written f (take p.used line) (take r.taken piece) in
    let few : length piece ≤ p.end - p.at = omega (arith, length-take (p.end - p.at) (drop p.at block)) in
    let size : p.at + r.taken - p.at ≡ r.taken = omega arith in
    let puts = done.taken.writes in
    let all : take (r.made - 0) out' ≡ text
    = rw (sub-zero r.made, puts.0, puts.1, sets-eq text out 0 (omega (arith, puts.0, done.room))) (take_at text _ (length text) refl) in
    record {
      order = omega arith;
      inside = omega (arith, done.within, few, within.order);
      same_end = refl;
      same_over = refl;
      begins = rw size done.taken.begins;
      writes = rw size (rw all at wrote);
    }

-- ---- what is known of the input and of the output
-- what is written so far, while a run goes on
abbrev pub Going : (List ℕ → List ℕ) → Option (List ℕ) → Option (List ℕ) → Option (List ℕ) → Option (List ℕ) → List ℕ
    → List ℕ → Place → Type 0
Going f input input' output output' line block p =
    IfKnown input input' (λ all rest. (done : List ℕ) × Appends output output' done × Runs f all line block p rest done)

module _ {longest : ℕ} {f : List ℕ → List ℕ} (are : AnswersLines longest f) where
  pub starts : (input output : Option (List ℕ)) (line block : List ℕ) (p : Place) → p.used ≡ 0 → p.at ≡ 0 → p.end ≡ 0
      → IsFalse p.over → Going f input input output output line block p
  starts None output line block p u a e o = tt
  starts (Some all) output line block p u a e o =
      ([], Appends-nil output, record { same = rw (u, a, e) refl; last = λ t. absurd (true≢false (sym t ∙ o)) })

  -- a turn
  pub turn : (input input' input'' output output' output'' : Option (List ℕ)) (line line' block block' : List ℕ)
      (p q r : Place) → length line ≡ 128 → p.used ≤ 128 → Going f input input' output output' line block p
      → IfKnown input' input'' (λ xs ys. ReadsOn p block block' xs ys (Ok q))
      → AnswersTo f q line block' line' r output' output'' → Going f input input'' output output'' line' block' r
  turn None input' input'' output output' output'' line line' block block' p q r long few going reads to = tt
  turn (Some all) None input'' output output' output'' line line' block block' p q r long few going reads to = absurd going
  turn (Some all) (Some xs) None output output' output'' line line' block block' p q r long few going reads to = absurd reads
  turn (Some all) (Some xs) (Some ys) output output' output'' line line' block block' p q r long few (done, writes, runs) (used, how) to =
      let read : Runs f all line block' q ys done
      = elim how [ inl bytes ↦ reads_bytes runs used bytes | inr end ↦ reads_end runs used long few end ] in
      (_, Appends-trans output output' output'' _ _ writes to.writes, answers_part read to)

  -- the end of the input
  pub ends : (input input' input'' output output' : Option (List ℕ)) (line block block' : List ℕ) (p : Place)
      → Going f input input' output output' line block p
      → IfKnown input' input'' (λ xs ys. ReadsOn p block block' xs ys (Err Ended))
      → IfSome input (λ all. Appends output output' (answers f (lines_of all)))
  ends None input' input'' output output' line block block' p going reads = tt
  ends (Some all) None input'' output output' line block block' p going reads = absurd going
  ends (Some all) (Some xs) None output output' line block block' p going reads = absurd reads
  ends (Some all) (Some xs) (Some ys) output output' line block block' p (done, writes, runs) (taken, how) =
      let c = take p.used line in
      let none : (xs ≡ []) × (c ≡ []) =
      elim how [ inl t ↦ (let (empty, begun) = runs.last t in (empty, rw taken at begun)) | inr both ↦ (both.0, rw both.1 refl) ] in
      let all_said : done ≡ whole f [] all = sym (append-nil done) ∙ rw (taken, none.0, none.1) at runs.same in
      let lines = rw append-nil at (cut_anywhere f are (all ∷ [])) in
      subst (Appends output output') (all_said ∙ lines) writes

  pub read_ends : (input input' input'' output output' : Option (List ℕ)) (line block block' : List ℕ) (p : Place)
      (s : Stop) → Going f input input' output output' line block p
      → IfKnown input' input'' (λ xs ys. ReadsOn p block block' xs ys (Err s))
      → IfEnded (Err s) (IfSome input (λ all. Appends output output' (answers f (lines_of all))))
  read_ends input input' input'' output output' line block block' p Ended going reads =
      ends input input' input'' output output' line block block' p going reads
  read_ends input input' input'' output output' line block block' p CannotRead going reads = tt
  read_ends input input' input'' output output' line block block' p CannotWrite going reads = tt
