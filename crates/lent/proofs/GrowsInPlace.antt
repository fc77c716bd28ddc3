-- An extension in place grows the referenced table or keeps it, as the one by value does: both contracts cite one
-- definition.
use contract.Monad.{fact_mono}
use Rattle.tables.proofs.Extensions.{Extends, extends}
use Rattle.lent.proofs.Stated.{Implies}
use Rattle.lent.specs.contracts.try_extend as try_extend_call
use Rattle.lent.proofs.inner.copied.extended_in_place.Reads as extended_in_place_contract

-- `lent::try_extend`, of the table before and afterwards
pub try_extend : Implies try_extend_call.ended (λ M 𝓤 𝓛. try_extend_call.clauses 𝓛)
    (λ κ a r e. Extends a.0.now a.1.0 r e.0.now)
try_extend M 𝓤 𝓛 mem run κ a g r e = fact_mono 𝓤 _ _ (extends a.0.now a.1.0 r e.0.now)

-- a table by value, extended in place
pub extended_in_place : (κ : _) (a : _) (x : _) (e : _) → extended_in_place_contract.Post κ a x e
    → Extends a.0 a.1.0 x.answer x.table
extended_in_place κ a x e post = extends a.0 a.1.0 x.answer x.table post
