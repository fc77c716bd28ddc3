-- A contract that states a fact, as the checker has it in a call's clauses: the fact is named, and tied to the clauses.
use mathlib.Core.Path.{◌≡◌}
use seplogic.Ra.Ura.{Ura}
use base.Logic.{SProp, ent}
use prog.Memory.{Memory}
use prog.Routine.{Routine}
use types.Logic.{Logic}
use contract.Lifetimes.{Lfts}
use contract.Monad.{Fun, fact}
use denote.Triple.Clauses.{AtExit, Ended, Clauses}
use denote.Triple.Entry.{Args, Res}
use Rattle.refusals.proofs.OneAnswer.{OneAnswer, OneAnswerAndEnd}

module _ (T : Ended) where
  -- of the lifetimes, the arguments, the answer, and what the arguments are at the end
  abbrev pub Fact : Type 1
  Fact = (κs : Lfts T.signature.lifetimes) → Args T.signature κs → Res T.signature κs → AtExit T κs → Type 0

  abbrev pub Contract : Type 2
  Contract = (M : Type 1) (𝓤 : Ura M) (𝓛 : Logic 𝓤) → (Memory → SProp 𝓤) → (Routine → Fun 𝓤) → Clauses 𝓤 T

  -- the contract says the fact and nothing else
  abbrev pub States : Contract → Fact → Type 2
  States c φ =
      (M : Type 1) (𝓤 : Ura M) (𝓛 : Logic 𝓤) (mem : Memory → SProp 𝓤) (run : Routine → Fun 𝓤)
      (κs : Lfts T.signature.lifetimes) (a : Args T.signature κs) (g : (c M 𝓤 𝓛 mem run κs a).ghost)
      (r : Res T.signature κs) (e : AtExit T κs)
      → (c M 𝓤 𝓛 mem run κs a).ensures g r e ≡ fact 𝓤 (φ κs a r e)

  -- whatever the contract says, the fact follows
  abbrev pub Implies : Contract → Fact → Type 2
  Implies c φ =
      (M : Type 1) (𝓤 : Ura M) (𝓛 : Logic 𝓤) (mem : Memory → SProp 𝓤) (run : Routine → Fun 𝓤)
      (κs : Lfts T.signature.lifetimes) (a : Args T.signature κs) (g : (c M 𝓤 𝓛 mem run κs a).ghost)
      (r : Res T.signature κs) (e : AtExit T κs)
      → ent 𝓤 ((c M 𝓤 𝓛 mem run κs a).ensures g r e) (fact 𝓤 (φ κs a r e))

  pub record LeavesOne (c : Contract) : Type 2 where
    pub says : Fact
    pub states : States c says
    pub one : OneAnswer says

  -- and one value through the references that it writes
  pub record LeavesOneAndEnd {Left : Type 0} (c : Contract)
      (left : (κs : Lfts T.signature.lifetimes) → AtExit T κs → Left) : Type 2 where
    pub says : Fact
    pub states : States c says
    pub one : OneAnswerAndEnd says left
