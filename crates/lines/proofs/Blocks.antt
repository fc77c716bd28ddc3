-- The loop of a program over the lines of a block, for any answer: what is known where a line begins, and that it is
-- known again where the next begins.
use mathlib.Core.Path.{◌≡◌, sym, ap, ◌∙◌}
use mathlib.Core.List.{List, [], ◌∷◌, ◌++◌, append-nil, append_assoc}
use Prim.Native.Nat.{ℕ, min, ◌+◌, ◌-◌, ◌≤◌, ◌<◌}
use native.Mathlib.Nat.{zero-add}
use native.Mathlib.Numerals.{add-one}
use native.Mathlib.Omega.{arith}
use borrow.Author.Rules.{rules}
use borrow.Author.Tests.{le-ltb}
use borrow.Rule.Slice.PartMut.{mid_of, put_mid}
use lib.ListN.{length, get_or, take, drop, length-append, length-drop, length-take, drop_of_length-le}
use lib.Seq.{sets, sets-eq, length-sets, drop-drop, length-take-le, take-add, take_all, take_at, take-suc, take-take}
use lib.Seq.{take-append-add, get_or-drop}
use Rattle.words.proofs.Stores.{joined}
use Rattle.texts.specs.Ends.{until_end}
use Rattle.texts.proofs.LineEnds.{ends_at}
use Rattle.lines.specs.OutcomeLine.{Puts, PutsWithRoom}
use Rattle.lines.specs.Pieces.{begun_after, written, Answers, AnswersBlock, line_up_to, Keeps}
use Rattle.lines.proofs.Cutting.{begun_joins, written_joins, free_begun, free_writes}
use Rattle.lines.specs.Lines.{AnswersLines}

-- of n bytes as many as there is room for are stored after those that are held
pub stored : (line : List ℕ) (used : ℕ) (s : List ℕ) (n k : ℕ) → length line ≡ 128 → used ≤ 128 → n ≤ length s
    → k ≡ min n (128 - used) → take (used + k) (sets line used (take k s)) ≡ take 128 (take used line ++ take n s)
stored line used s n k long most inside is =
    let c = take used line in
    let m = 128 - used in
    let held : length c ≡ used = length-take-le used line (omega arith) in
    let many : length (take k s) ≡ k = length-take-le k s (omega arith) in
    let room : length c + m ≡ 128 = omega arith in
    let most : length (take m (take n s)) ≤ k = omega (arith, length-take m (take n s), length-take-le n s inside) in
    let same : take k s ≡ take m (take n s)
    = sym (take-take k n s (omega arith)) ∙ sym (take-take k m (take n s) (omega arith))
    ∙ take_all k (take m (take n s)) most in
    let full : length (c ++ take k s) ≡ used + k = omega (arith, length-append c (take k s)) in
    rw (sets-eq (take k s) line used (omega arith), take_at (c ++ take k s) _ (used + k) full, same)
    (rw room at (sym (take-append-add c (take n s) m)))

-- a text written into the part from a place on is written at that place
in_part : (out text : List ℕ) (at longest : ℕ) {part' : List ℕ} {n : ℕ} → length text ≤ longest
    → at + longest ≤ length out → PutsWithRoom longest text (mid_of at (length out - at) out) part' n
    → (n ≡ length text) × (put_mid at (length out - at) out part' ≡ sets out at text)
in_part out text at longest short room puts =
    let rest = drop at out in
    let long : length rest ≡ length out - at = length-drop at out in
    let mid : mid_of at (length out - at) out ≡ rest = take_all (length out - at) rest (omega arith) in
    let none : drop (length out - at) rest ≡ [] = drop_of_length-le rest {i = length out - at} (omega arith) in
    let put = rw (mid, le-ltb (length rest) longest (omega arith)) at puts in
    let in_rest = sets-eq text rest 0 (omega arith) in
    let in_out = sets-eq text out at (omega arith) in
    let joins = append_assoc (take at out) text (drop (at + length text) out) in
    (put.0, rw (none, put.1, append-nil, in_rest, in_out, zero-add, drop-drop) (sym joins))

-- a line begins at `at` and ends at `end`, and what is before it is answered
pub record AtLine (longest : ℕ) (f : List ℕ → List ℕ) (are : AnswersLines longest f) (c block out₀ line out : List ℕ)
    (u made at end : ℕ) : Type 0 where
  pub before : Answers f c (take at block) out₀ line u out made
  pub found : end ≡ at + until_end (drop at block)
  pub inside : at ≤ length block
  pub room : made ≤ length out₀
  pub line_long : length line ≡ 128
  pub out_long : length out ≡ length out₀

-- the first line begins with the block
pub starts : {longest : ℕ} {f : List ℕ → List ℕ} {are : AnswersLines longest f} {block out₀ line : List ℕ}
    {used end : ℕ} → (length line ≡ 128) × (used ≤ 128) → end ≡ 0 + until_end block
    → AtLine longest f are (take used line) block out₀ line out₀ used 0 0 end
starts given found = search rules

module _ {longest : ℕ} {f : List ℕ → List ℕ} {are : AnswersLines longest f} {c block out₀ line out : List ℕ}
    {u made at end : ℕ} (here : AtLine longest f are c block out₀ line out u made at end) where
  abbrev said : List ℕ
  said = written f c (take at block)

  -- the line, of which 128 bytes count
  abbrev the_line : List ℕ
  the_line = take 128 (line_up_to line u block at end)

  pub end_inside : (at ≤ end) × (end ≤ length block)
  end_inside = omega (arith, (ends_at (drop at block)).0, length-drop at block)

  -- up to its end the line is begun, and no more is written
  up_to_end : (begun_after c (take end block) ≡ the_line) × (written f c (take end block) ≡ said)
  up_to_end =
      let start = take at block in
      let piece = take (end - at) (drop at block) in
      let k : until_end (drop at block) ≡ end - at = omega arith in
      let free = rw k at (ends_at (drop at block)).1 in
      let all : at + (end - at) ≡ end = omega (arith, end_inside) in
      let cut = rw all at (take-add at (end - at) block) in
      let few : length (take u line) ≤ 128 = omega (arith, length-take u line) in
      let held = sym here.before.begins ∙ sym (take_all 128 (take u line) few) in (
        rw (cut, begun_joins c start piece, held) (free_begun piece (take u line) free),
        rw (cut, written_joins f c start piece, free_writes f piece (begun_after c start) free) (append-nil said),
      )

  -- there is no room for an answer
  pub stops : length out - made < longest
      → AnswersBlock longest f c block out₀ line out (record { used = u; taken = at; made = made })
  stops h = search rules

  -- the block has no more line end
  pub ends : length block ≤ end → {line' : List ℕ} {used' : ℕ} → Keeps (line_up_to line u block at end) line' used'
      → AnswersBlock longest f c block out₀ line' out (record { used = used'; taken = end; made = made })
  ends none keeps =
      let inside = end_inside in
      let begins = keeps.0 ∙ sym up_to_end.0 in
      let writes = rw (← up_to_end.1) at here.before.writes in
      search rules

  -- the line is answered, in the room after the answers before it
  module _ (room : longest ≤ length out - made) (text : List ℕ) {part' : List ℕ} {n : ℕ}
      (puts : PutsWithRoom longest (f text) (mid_of made (length out - made) out) part' n) where
    abbrev out' : List ℕ
    out' = put_mid made (length out - made) out part'

    answer : (n ≡ length (f text)) × (out' ≡ sets out made (f text))
    answer = in_part out (f text) made longest (are.short text) (omega arith) puts

    pub fits : made + n ≤ length out₀
    fits = omega (arith, answer.0, are.short text)

    pub next : end < length block → take 128 text ≡ the_line → {line' : List ℕ} → length line' ≡ length line → {end' : ℕ}
        → end' ≡ end + 1 + until_end (drop (end + 1) block)
        → AtLine longest f are c block out₀ line' out' 0 (made + n) (end + 1) end'
    next h is as_long found =
        let rest = drop at block in
        let ends = (ends_at rest).2 (omega (arith, length-drop at block)) in
        let ten : get_or block end 0 ≡ 10 = rw here.found (sym (get_or-drop at block (until_end rest) 0) ∙ ends) in
        let cut : take (end + 1) block ≡ take end block ++ (10 ∷ []) = rw (add-one, take-suc block end 0 h, ten) in
        let all : written f c (take (end + 1) block) ≡ said ++ f text
        = rw (cut, written_joins, up_to_end.1, append-nil, up_to_end.0, ← is, are.first_128 text) in
        let begins : [] ≡ begun_after c (take (end + 1) block) = rw (cut, begun_joins) in
        let before = here.before.writes in
        let writes : Puts (written f c (take (end + 1) block)) out₀ out' (made + n) = rw all (
          omega (arith, answer.0, length-append said (f text)),
          joined out₀ 0 made said (f text) before.1 (omega (arith, before.0)) answer.1,
        ) in
        let room = fits in
        let out_long : length out' ≡ length out = ap length answer.1 ∙ length-sets out made (f text) in
        search rules
