-- No entry is refused exactly if the list is valid, since the offsets are 32-bit.
use Rattle.std.proofs.Common.{ℕ, ◌+◌, eqb, get_or, drop, SFits, w32, sym, ap, ◌∙◌, arith, rules, below_more}
use Rattle.tables.specs.Entries.{offset}
use Rattle.lent.specs.Pass.{Seen, seen_in, passed}
use Rattle.lent.proofs.Passing.{no_entry, one_on, at-end, first_found, none_refused}
use Rattle.lent.proofs.inner.Pass.over.Goals as goal

pub loop-entry-preserved : goal.loop-entry-preserved
loop-entry-preserved c =
    let ys = c.args.entries.now in
    let i = c.loop-entry.entry-index in
    let is = c.fold_in-pass.ensures in
    let fits : SFits w32 (offset c.fold_in-pass.result.last) = search rules in
    record {
      counts = omega (arith, ap (λ (x : Seen). x.count) is, c.loop-entry.invariant.counts);
      comes =
          ap (λ (x : Seen). passed x (drop (i + 1) ys)) is ∙ sym (one_on ys (seen_in c.loop-entry.pass) i c.loop-entry-test.true)
          ∙ c.loop-entry.invariant.comes;
      fits =
          below_more (λ (k : ℕ). SFits w32 (offset (get_or ys k no_entry))) i c.loop-entry.invariant.fits
          (rw (ap (λ (x : Seen). x.last) is) at fits);
    }

pub returns : goal.returns
returns c =
    let ys = c.args.entries.now in
    let i = c.loop-entry.invariant in
    let all = sym (at-end ys (seen_in c.loop-entry.pass) c.loop-entry.entry-index c.loop-entry-test.false) ∙ i.comes in
    let refused = ap (λ (x : Seen). x.refusal) all ∙ first_found c.args.tai ys in
    (all, ap (λ (k : ℕ). eqb k 0) refused ∙ none_refused ys (λ k l. i.fits k (omega arith)))
