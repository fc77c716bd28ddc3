-- Demand 3 carries over to a scale whose counts are d less than another's. Its conversions go by way of the other
-- scale; they have two instants from 0 on if those of the other scale have them from d on.
use mathlib.Core.Path.{◌≡◌, refl, ap, ◌∙◌, subst}
use mathlib.Core.List.{List}
use Prim.Native.Nat.{ℕ, ◌+◌, ◌-◌, ◌^◌, ◌≤◌, ◌<◌}
use native.Mathlib.Omega.{arith}
use Rattle.refusals.specs.Outcome.{Outcome, answered, refused, then}
use Rattle.refusals.proofs.Given.{one_answer, no_refusal}
use Rattle.refusals.proofs.Steps.{goes_on, stops}
use Rattle.counts.specs.Exact.{up, down}
use Rattle.counts.proofs.Difference.{not_below, of_naturals}
use Rattle.counts.proofs.Fitting.{is_count}
use Rattle.tables.specs.Entries.{Entry}
use Rattle.demands.specs.TwoInstants.{Converts, InFirstSecond, TwoInstants}
use Rattle.conversions.proofs.OnNaturals.{went_on}

module _ (es : List Entry) (lead d : ℕ) {there back : ℕ → Outcome ℕ} (t : TwoInstants es lead d there back) where
  -- n converts exactly if n + d does in the other scale
  above : {n u : ℕ} → Converts 0 (λ n. then (up d n) there) n u → Converts d there (n + d) u
  above {n} c = let (fits, gives) = went_on (n + d) there c.2 in (omega arith, fits, gives)

  below : {n u : ℕ} → Converts d there (n + d) u → Converts 0 (λ n. then (up d n) there) n u
  below {n} (later, fits, gives) = (omega arith, omega arith, goes_on there (is_count (n + d) fits) ∙ gives)

  module _ {u : ℕ} (l : u < 2 ^ 64) where
    -- the other scale answers d or more, so d can be subtracted
    goes_down : {m : ℕ} → back u ≡ answered m → (d ≤ m) × (down d m ≡ answered (m - d))
    goes_down {m} e =
        let (later, fits, gives) = t.converts_back u m l e in
        (later, rw (of_naturals m d, not_below m d later) (is_count (m - d) (omega arith)))

    was_answered : {n : ℕ} (o : Outcome ℕ) → back u ≡ o → then o (down d) ≡ answered n → back u ≡ answered (n + d)
    was_answered {n} (answered m) e p =
        let (later, is) = goes_down e in
        let less : m - d ≡ n = one_answer (down d m) is p in
        e ∙ ap answered (omega (arith, later))
    was_answered (refused k) e p = absurd (no_refusal (refused k) p refl)

    was_refused : {k : ℕ} (o : Outcome ℕ) → back u ≡ o → then o (down d) ≡ refused k → (j : ℕ) × (back u ≡ refused j)
    was_refused (answered m) e p = absurd (no_refusal (down d m) (goes_down e).1 p)
    was_refused (refused j) e p = (j, e)

  pub counts_less : TwoInstants es (lead + d) 0 (λ n. then (up d n) there) (λ u. then (back u) (down d))
  counts_less = record {
    refused_exactly = λ u l.
        let (none, only) = t.refused_exactly u l in (
          λ (k, e) n c. none (was_refused l (back u) refl e) (n + d) (above c),
          λ nothing.
              let (k, e) =
              only (λ m c. nothing (m - d) (below (subst (λ (x : ℕ). Converts d there x u) (omega (arith, c.0)) c))) in
              (k, stops (down d) e),
        );
    the_earliest = λ u n l e n' c.
        omega (arith, t.the_earliest u (n + d) l (was_answered l (back u) refl e) (n' + d) (above c));
    converts_back = λ u n l e. below (t.converts_back u (n + d) l (was_answered l (back u) refl e));
    shared_exactly = λ n₁ n₂ u₁ u₂ c₁ c₂ l.
        let (if, is) = t.shared_exactly (n₁ + d) (n₂ + d) u₁ u₂ (above c₁) (above c₂) (omega arith) in (
          λ e. let (apart, within) = if e in (omega (arith, apart), subst (InFirstSecond es) (omega arith) within),
          λ (apart, within). is (omega (arith, apart), subst (InFirstSecond es) (omega arith) within),
        );
    at_most_two = λ n₁ n₂ n₃ u c₁ c₂ c₃ n₁≢n₂ n₂≢n₃ n₁≢n₃.
        t.at_most_two (n₁ + d) (n₂ + d) (n₃ + d) u (above c₁) (above c₂) (above c₃)
        (λ e. n₁≢n₂ (omega (arith, e))) (λ e. n₂≢n₃ (omega (arith, e))) (λ e. n₁≢n₃ (omega (arith, e)));
  }
