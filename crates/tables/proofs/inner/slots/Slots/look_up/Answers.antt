-- The search counts the thresholds at or below the reading, and the last of their entries is in force.
use Rattle.std.specs.Prelude.{Some, None}
use Rattle.std.proofs.Common.{◌≡◌, ◌+◌, cond, ltb, length, get_or, leb, pos, rules, of_calls, sym, ap, ◌∙◌, w32}
use Rattle.std.proofs.lemmas.List.Sorted.{IsPartitionPoint-from_clause, IsPartitionedBy-leb}
use mir.Facts.{to_z-of_z}
use Rattle.tables.specs.Search.{slot_told}
use Rattle.tables.proofs.InForce.{lookup_is, none_in_force}
use Rattle.tables.proofs.Laid.{laid, none_laid, no_fall, counted}
use Rattle.tables.proofs.inner.slots.Slots.look_up.Goals as goal

pub returns-then-is_empty : goal.returns-then-is_empty
returns-then-is_empty c =
    let k = laid c.self.view_is c.self.invariant in
    rw (none_laid k (search rules)) (c.told_of_none.ensures ∙ none_in_force c.args.tai)

pub returns : goal.returns
returns c =
    let k = laid c.self.view_is c.self.invariant in
    let t = c.args.tai in
    let found = c.saturating_sub-place in
    let reached = c.partition_point-reached in
    let point = IsPartitionPoint-from_clause (λ x. leb x t) _ _ reached.ensures.partitioned (IsPartitionedBy-leb (λ x. x) _ t (no_fall k)) (λ a r q h. search (rules, of_calls)) in
    let fits = to_z-of_z {w = w32} {z = get_or c.self.inside.offsets.now found.result (pos 0)} (search rules) in
    let n = length c.self.inside.thresholds.now in
    let after : c.copied.result ≡ cond (ltb (found.result + 1) n) (Some (get_or c.self.inside.thresholds.now (found.result + 1) 0)) None = search rules in
    (λ i. record { offset = fits i; place = Some found.result; next = after i })
    ∙ ap (slot_told c.self.inside.thresholds.now c.self.inside.offsets.now n) found.ensures
    ∙ sym (rw k.list at (lookup_is _ _ _ k.all k.within t _ (search rules) (counted k t _ reached.ensures.bound point)))
