-- `within`: what the first sixteen bytes and the last sixteen say together is said of all thirty.
use Rattle.std.proofs.Common.{◌≡◌, ℕ, List, length, take, drop, sym, ◌∙◌, length-drop, arith}
use lib.Seq.{take_all}
use Rattle.stamps.proofs.Between.{not_as_long, not_at_start, at-end}
use Rattle.stamps.proofs.inner.within.Goals as goal

all_16 : (l : List ℕ) → length l ≡ 30 → take 16 (drop 14 l) ≡ drop 14 l
all_16 l e = take_all 16 (drop 14 l) (omega (arith, length-drop 14 l))

pub returns-then-s-ne30 : goal.returns-then-s-ne30
returns-then-s-ne30 c =
    let a = c.args in
    sym (not_as_long a.low.now a.high.now a.s.now (λ e. c.if-s-ne30.true (e ∙ c.requires.low_len)))

pub returns-then-each_within : goal.returns-then-each_within
returns-then-each_within c =
    let low = c.args.low.now in
    let high = c.args.high.now in
    let s = c.args.s.now in
    c.each_within-then-each_within.ensures
    ∙ rw (all_16 low (omega arith), all_16 high (omega arith), all_16 s (omega arith))
    (at-end low high s (sym c.each_within.ensures ∙ c.if-each_within.true))

pub returns-else-each_within : goal.returns-else-each_within
returns-else-each_within c =
    let a = c.args in
    let start = sym c.each_within.ensures ∙ c.if-each_within.false in
    sym (not_at_start a.low.now a.high.now a.s.now start)
