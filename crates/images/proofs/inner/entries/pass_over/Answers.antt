-- One entry more is passed at each turn, and at the end all are.
use Rattle.std.proofs.Common.{◌≡◌, ℕ, ◌+◌, ◌-◌, ◌*◌, ◌/◌, eqb, length, drop, ◌<◌, sym, ap, ◌∙◌, below_more, arith}
use Rattle.std.proofs.Math.Nat.{sub-zero}
use Rattle.lent.specs.Pass.{Seen, seen_in, begun, after, passed}
use Rattle.lent.proofs.Passing.{counts-on, first_found, none_refused}
use Rattle.images.specs.Listed.{first_in, entries_in}
use Rattle.images.proofs.ListedEntries.{entries_count}
use Rattle.images.proofs.InBytes.{turn, ended, listed}
use Rattle.images.proofs.inner.entries.pass_over.Goals as goal

pub loop-i-init : goal.loop-i-init
loop-i-init c =
    let begun = c.begin-pass.ensures in
    record {
      counted = ap (λ (s : Seen). s.count) begun;
      left = rw (begun, sub-zero);
      fit = λ k l. absurd (omega arith);
    }

pub loop-i-preserved : goal.loop-i-preserved
loop-i-preserved c =
    let b = c.args.entries.now in
    let s = c.loop-i in
    let more : s.i < length b / 12 = omega arith in
    let on : seen_in c.fold_in-pass.result ≡ after (seen_in s.pass) (first_in (drop (12 * s.i) b))
    = c.fold_in-pass.ensures ∙ ap (after (seen_in s.pass)) c.entry_at.ensures.is in
    record {
      counted =
          ap (λ (x : Seen). x.count) on ∙ counts-on (seen_in s.pass) (first_in (drop (12 * s.i) b))
          ∙ ap (λ (k : ℕ). k + 1) s.invariant.counted;
      left = rw on (turn (seen_in s.pass) (length b / 12) s.i b more ∙ s.invariant.left);
      fit =
          below_more _ _ s.invariant.fit
          (rw (listed (length b / 12) s.i b more) (rw c.entry_at.ensures.is at c.entry_at.ensures.fits));
    }

pub returns : goal.returns
returns c =
    let b = c.args.entries.now in
    let s = c.loop-i in
    let ends : length b / 12 - s.i ≡ 0 = omega arith in
    let seen : seen_in s.pass ≡ passed (begun c.args.tai) (entries_in b)
    = sym (ended (seen_in s.pass) (drop (12 * s.i) b)) ∙ (rw ends at s.invariant.left) in
    let none = none_refused (entries_in b)
    (λ k l. s.invariant.fit k (omega (arith, ends, l, entries_count (length b / 12) b))) in
    (seen, ap (λ (x : Seen). eqb x.refusal 0) seen ∙ rw (first_found c.args.tai (entries_in b)) none)
