-- `TwoInstants` speaks of counts of 64 bits alone, so it holds of whatever answers the same on those.
use mathlib.Core.Path.{◌≡◌, sym, ◌∙◌}
use mathlib.Core.List.{List}
use Prim.Native.Nat.{ℕ, ◌^◌, ◌<◌}
use native.Mathlib.Omega.{arith}
use Rattle.refusals.specs.Outcome.{Outcome}
use Rattle.tables.specs.Entries.{Entry}
use Rattle.demands.specs.TwoInstants.{Converts, TwoInstants}

module _ (es : List Entry) (lead first : ℕ) {there there' back back' : ℕ → Outcome ℕ}
    (to : (n : ℕ) → n < 2 ^ 64 → there' n ≡ there n) (from : (u : ℕ) → u < 2 ^ 64 → back' u ≡ back u) where
  here : {n u : ℕ} → Converts first there n u → Converts first there' n u
  here {n} (later, count, gives) = (later, count, to n (omega (arith, count)) ∙ gives)

  again : {n u : ℕ} → Converts first there' n u → Converts first there n u
  again {n} (later, count, gives) = (later, count, sym (to n (omega (arith, count))) ∙ gives)

  pub kept : TwoInstants es lead first there back → TwoInstants es lead first there' back'
  kept t = record {
    refused_exactly = λ u m.
        let (none, only) = t.refused_exactly u m in (
          λ (k, e) n c. none (k, sym (from u m) ∙ e) n (again c),
          λ nothing. let (k, e) = only (λ n c. nothing n (here c)) in (k, from u m ∙ e),
        );
    the_earliest = λ u n m e n' c. t.the_earliest u n m (sym (from u m) ∙ e) n' (again c);
    converts_back = λ u n m e. here (t.converts_back u n m (sym (from u m) ∙ e));
    shared_exactly = λ n₁ n₂ u₁ u₂ c₁ c₂. t.shared_exactly n₁ n₂ u₁ u₂ (again c₁) (again c₂);
    at_most_two = λ n₁ n₂ n₃ u c₁ c₂ c₃. t.at_most_two n₁ n₂ n₃ u (again c₁) (again c₂) (again c₃);
  }
