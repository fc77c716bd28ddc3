-- The first entry is (0, 19), and neighbouring thresholds are a day or more apart exactly if neighbouring entries are.
use Rattle.std.proofs.Common.{rules, of_calls, ◌+◌, leb}
use Rattle.std.proofs.lemmas.List.Sorted.{answers_always}
use Rattle.tables.specs.Entries.{day}
use Rattle.tables.proofs.Laid.{laid, days_told, regular_told}
use Rattle.tables.proofs.inner.slots.Slots.is_regular.Goals as goal

pub returns-then-eq : goal.returns-then-eq
returns-then-eq c =
    let k = laid c.self.view_is c.self.invariant in
    let days = days_told k c.is_sorted_by.result
    (c.is_sorted_by.ensures.cases (λ x y. leb (x + day) y) (answers_always _ _ _ (λ f a r f' q. search (rules, of_calls)))) in
    regular_told k c.in-Some.first c.in-Some.ensures (search rules) (search rules) days
