-- By the definitions a refused extension gives the table that came, and a refused building one with no entry.
use mathlib.Core.Path.{◌≡◌, refl}
use mathlib.Core.Logic.{◌≢◌}
use mathlib.Core.Bool.{Bool, true, false, cond}
use Prim.Native.Nat.{ℕ}
use Rattle.refusals.proofs.Given.{left_on_refusal}
use Rattle.tables.specs.Answers.{taken_in}
use Rattle.tables.specs.Slots.{paired, valid_table, extended}
use Rattle.tables.specs.Expiry.{with_expiry, expiring}
use Rattle.tables.specs.declared.LeapTable.{LeapTable}
use Rattle.tables.proofs.Buildings.{building_refused}
use Rattle.tables.proofs.Extensions.{refusal_keeps}
use Rattle.tables.proofs.LeapTable
use Rattle.lent.proofs.Stated.{Fact, States}
use Rattle.lent.specs.contracts.try_extend as lent_try_extend
use Rattle.demands.specs.RefusalsLeave.{TableKept, TableEmpty}

pub try_extend : TableKept LeapTable.try_extend.Reads.Post
    (λ κ x. taken_in x.answer) (λ κ x e. x.table) (λ κ a. a.0)
try_extend κ a x e = left_on_refusal (refusal_keeps a.0 a.1.0)

-- 8 leaves the table as it was
unexpired : (t : LeapTable) (x : ℕ) → (expiring t x).0 ≢ 0 → (expiring t x).1 ≡ t
unexpired t x n = go (valid_table t) n
  where
    left : Bool → ℕ × LeapTable
    left v = cond v (0, with_expiry x t) (8, t)

    go : (v : Bool) → (left v).0 ≢ 0 → (left v).1 ≡ t
    go true n = absurd (n refl)
    go false n = refl

pub with_expiry_lem : TableKept LeapTable.with_expiry.Reads.Post
    (λ κ x. taken_in x.answer) (λ κ x e. x.table) (λ κ a. a.0)
with_expiry_lem κ a x e = left_on_refusal (unexpired a.0 a.1.0.0)

pub from-lists : TableEmpty LeapTable.from_lists.Reads.Post
    (λ κ x. taken_in x.answer) (λ κ x e. x.table)
from-lists κ a x e = left_on_refusal (building_refused (paired a.0.now a.1.0.now))

-- in place, of the fact that the call's contract states
pub try_extend_in_place : (says : Fact lent_try_extend.ended)
    × States lent_try_extend.ended (λ M 𝓤 𝓛. lent_try_extend.clauses 𝓛) says
    × TableKept says (λ κ r. taken_in r) (λ κ r e. e.0.now) (λ κ a. a.0.now)
try_extend_in_place = (
  λ κ a r e. (taken_in r, e.0.now) ≡ extended a.0.now a.1.0,
  λ M 𝓤 𝓛 mem run κ a g r e. refl,
  λ κ a r e. left_on_refusal (refusal_keeps a.0.now a.1.0),
)
