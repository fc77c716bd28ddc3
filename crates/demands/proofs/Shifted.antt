-- Demand 3 of a scale whose counts are those of GPS less d, for any d: first of GPS counts from d on, where the later
-- of two is taken if the earlier is before d, and from there by FixedDifference.antt.
use mathlib.Core.Path.{◌≡◌, refl, sym, ap, ◌∙◌, subst}
use mathlib.Core.Bool.{Bool, true, false, cond, false≢true}
use mathlib.Core.List.{List}
use Prim.Native.Nat.{ℕ, ◌+◌, ◌^◌, ◌≤◌, ◌<◌}
use native.Mathlib.Omega.{arith}
use native.Mathlib.Decide.{dec_le}
use borrow.Author.Tests.{le-leb, lt-leb, eqb-true, eq-eqb}
use lib.Dec.{leb}
use Rattle.refusals.specs.Outcome.{Outcome, answered, refused, then}
use Rattle.refusals.proofs.Given.{one_answer, no_refusal}
use Rattle.refusals.proofs.Steps.{goes_on, stops}
use Rattle.counts.specs.Exact.{down}
use Rattle.counts.specs.Units.{second}
use Rattle.counts.proofs.Difference.{below, of_naturals}
use Rattle.scales.specs.Scales.{tai_minus_gps}
use Rattle.tables.specs.Entries.{Entry, offset_at, regular}
use Rattle.conversions.specs.Conversions.{utc_at_offset, gps_to_utc, utc_to_gps}
use Rattle.conversions.specs.Shifted.{same_answer, later_of, shifted_to_utc, utc_to_shifted}
use Rattle.demands.specs.TwoInstants.{Converts, TwoInstants}
use Rattle.demands.proofs.Demand3.{by_regular_lists}
use Rattle.demands.proofs.FixedDifference.{counts_less}
use Rattle.conversions.proofs.OnNaturals.{went_on}
use Rattle.demands.proofs.SameAnswers.{kept}

-- what a test of an outcome tells
is_answer : (o p : Outcome ℕ) {n : ℕ} → o ≡ answered n → same_answer o p ≡ true → p ≡ answered n
is_answer (answered m) (answered n) e t = ap answered (sym (eqb-true m n t)) ∙ e
is_answer (answered m) (refused k) e t = cc
is_answer (refused k) p e t = cc

module _ (es : List Entry) (r : regular es ≡ true) (d : ℕ) where
  abbrev t : TwoInstants es tai_minus_gps 0 (gps_to_utc es) (utc_to_gps es)
  t = by_regular_lists es r

  -- UTC to GPS where counts begin at d
  abbrev from_d : ℕ → Outcome ℕ
  from_d n = cond (leb d n) (answered n) (refused 1)

  abbrev going : ℕ → Outcome ℕ
  going g = cond (leb d g) (answered g) (then (later_of es g) from_d)

  abbrev back : ℕ → Outcome ℕ
  back u = then (utc_to_gps es u) going

  -- the ways in which it comes to its answer
  data Way (u : ℕ) : Type 0 where
    none : {k : ℕ} → utc_to_gps es u ≡ refused k → Way u
    earlier : {g : ℕ} → utc_to_gps es u ≡ answered g → d ≤ g → back u ≡ answered g → Way u
    later : {g : ℕ} → utc_to_gps es u ≡ answered g → g < d → d ≤ g + second → gps_to_utc es (g + second) ≡ answered u
        → back u ≡ answered (g + second) → Way u
    neither : {g : ℕ} → utc_to_gps es u ≡ answered g → g < d
        → (d ≤ g + second → gps_to_utc es (g + second) ≡ answered u → ⊥) → back u ≡ refused 1 → Way u

  way : (u : ℕ) → u < 2 ^ 64 → Way u
  way u m = of (utc_to_gps es u) refl
    where
      -- the earlier count converts back, so the test compares the later one's UTC count with u
      converts : {g : ℕ} → utc_to_gps es u ≡ answered g → gps_to_utc es g ≡ answered u
      converts {g} e = (t.converts_back u g m e).2

      by_test : {g : ℕ} → utc_to_gps es u ≡ answered g → g < d → (b : Bool)
          → same_answer (gps_to_utc es g) (gps_to_utc es (g + second)) ≡ b → Dec (d ≤ g + second) → Way u
      by_test {g} e l true s (yes h) =
          later e l h (is_answer (gps_to_utc es g) (gps_to_utc es (g + second)) (converts e) s)
          (goes_on going e ∙ rw (lt-leb d g l, r, s, le-leb d (g + second) h))
      by_test {g} e l true s (no h) =
          neither e l (λ h' p. h h')
          (goes_on going e ∙ rw (lt-leb d g l, r, s, lt-leb d (g + second) (omega (arith, h))))
      by_test {g} e l false s h =
          neither e l
          (λ h' p.
          let same : same_answer (gps_to_utc es g) (gps_to_utc es (g + second)) ≡ true =
          (λ i. same_answer (converts e i) (p i)) ∙ eq-eqb u u refl in
          false≢true (sym s ∙ same))
          (goes_on going e ∙ rw (lt-leb d g l, r, s))

      by_order : {g : ℕ} → utc_to_gps es u ≡ answered g → Dec (d ≤ g) → Way u
      by_order {g} e (yes h) = earlier e h (goes_on going e ∙ rw (le-leb d g h))
      by_order {g} e (no h) =
          by_test e (omega (arith, h)) (same_answer (gps_to_utc es g) (gps_to_utc es (g + second))) refl
          (dec_le d (g + second))

      of : (o : Outcome ℕ) → utc_to_gps es u ≡ o → Way u
      of (refused k) e = none e
      of (answered g) e = by_order e (dec_le d g)

  -- a count from d on is one from 0 on
  any : {n u : ℕ} → Converts d (gps_to_utc es) n u → Converts 0 (gps_to_utc es) n u
  any (l, fits, gives) = (omega arith, fits, gives)

  -- what converts to u, other than the earlier count, is a second after it
  a_second_on : {u g n : ℕ} → u < 2 ^ 64 → utc_to_gps es u ≡ answered g → g < d → Converts d (gps_to_utc es) n u
      → n ≡ g + second
  a_second_on {u} {g} {n} m e l c =
      ((t.shared_exactly g n u u (t.converts_back u g m e) (any c) (omega (arith, c.0))).0 refl).0

  -- what converts is a count
  count : (k : ℕ) {u : ℕ} → gps_to_utc es k ≡ answered u → k < 2 ^ 64
  count k e =
      let fits = (went_on (k + tai_minus_gps) (λ x. utc_at_offset (offset_at es x) k) e).0 in
      omega arith

  from-d : TwoInstants es tai_minus_gps d (gps_to_utc es) back
  from-d = record {
    refused_exactly = λ u m.
        (λ (k, e) n c. no_count_lem u m k e n c (way u m), λ nothing. none_refused u m nothing (way u m));
    the_earliest = λ u n m e n' c. earliest u n m e n' c (way u m);
    converts_back = λ u n m e. converts u n m e (way u m);
    shared_exactly = λ n₁ n₂ u₁ u₂ c₁ c₂. t.shared_exactly n₁ n₂ u₁ u₂ (any c₁) (any c₂);
    at_most_two = λ n₁ n₂ n₃ u c₁ c₂ c₃. t.at_most_two n₁ n₂ n₃ u (any c₁) (any c₂) (any c₃);
  }
    where
      no_count_lem : (u : ℕ) → u < 2 ^ 64 → (k : ℕ) → back u ≡ refused k → (n : ℕ) → Converts d (gps_to_utc es) n u → Way u
          → ⊥
      no_count_lem u m j e n c (none {k} p) = (t.refused_exactly u m).0 (k, p) n (any c)
      no_count_lem u m k e n c (earlier p l b) = no_refusal (back u) b e
      no_count_lem u m k e n c (later p l h s b) = no_refusal (back u) b e
      no_count_lem u m k e n c (neither {g} p l not b) =
          let on = a_second_on m p l c in
          not (omega (arith, c.0)) (subst (λ (x : ℕ). gps_to_utc es x ≡ answered u) on c.2)

      none_refused : (u : ℕ) → u < 2 ^ 64 → ((n : ℕ) → Converts d (gps_to_utc es) n u → ⊥) → Way u
          → (k : ℕ) × (back u ≡ refused k)
      none_refused u m nothing (none {k} p) = (k, stops going p)
      none_refused u m nothing (earlier {g} p l b) =
          let c = t.converts_back u g m p in
          absurd (nothing g (l, c.1, c.2))
      none_refused u m nothing (later {g} p l h s b) = absurd (nothing (g + second) (h, count (g + second) s, s))
      none_refused u m nothing (neither p l not b) = (1, b)

      earliest : (u n : ℕ) → u < 2 ^ 64 → back u ≡ answered n → (n' : ℕ) → Converts d (gps_to_utc es) n' u → Way u
          → n ≤ n'
      earliest u n m e n' c (none p) = absurd (no_refusal (back u) e (stops going p))
      earliest u n m e n' c (earlier {g} p l b) =
          let is = one_answer (back u) e b in
          omega (arith, t.the_earliest u g m p n' (any c))
      earliest u n m e n' c (later {g} p l h s b) =
          let is = one_answer (back u) e b in
          omega (arith, a_second_on m p l c)
      earliest u n m e n' c (neither p l not b) = absurd (no_refusal (back u) e b)

      converts : (u n : ℕ) → u < 2 ^ 64 → back u ≡ answered n → Way u → Converts d (gps_to_utc es) n u
      converts u n m e (none p) = absurd (no_refusal (back u) e (stops going p))
      converts u n m e (earlier {g} p l b) =
          let c = t.converts_back u g m p in
          subst (λ (x : ℕ). Converts d (gps_to_utc es) x u) (one_answer (back u) b e) (l, c.1, c.2)
      converts u n m e (later {g} p l h s b) =
          subst (λ (x : ℕ). Converts d (gps_to_utc es) x u) (one_answer (back u) b e) (h, count (g + second) s, s)
      converts u n m e (neither p l not b) = absurd (no_refusal (back u) e b)

  -- with d taken away it is the definition, which lets the subtraction refuse
  as_defined : (u : ℕ) → utc_to_shifted d es u ≡ then (back u) (down d)
  as_defined u = go (utc_to_gps es u)
    where
      refused_below : (n : ℕ) → n < d → down d n ≡ refused 1
      refused_below n l = rw (of_naturals n d, below n d l)

      from : (n : ℕ) → Dec (d ≤ n) → down d n ≡ then (from_d n) (down d)
      from n (yes h) = rw (le-leb d n h)
      from n (no h) = rw (lt-leb d n (omega (arith, h))) (refused_below n (omega (arith, h)))

      through : (o : Outcome ℕ) → then o (down d) ≡ then (then o from_d) (down d)
      through (answered n) = from n (dec_le d n)
      through (refused k) = refl

      by_test : (g : ℕ) (b : Bool)
          → then (cond b (answered g) (later_of es g)) (down d)
          ≡ then (cond b (answered g) (then (later_of es g) from_d)) (down d)
      by_test g true = refl
      by_test g false = through (later_of es g)

      go : (o : Outcome ℕ)
          → then o (λ g. then (cond (leb d g) (answered g) (later_of es g)) (down d))
          ≡ then (then o going) (down d)
      go (answered g) = by_test g (leb d g)
      go (refused k) = refl

  pub shifted_instants : TwoInstants es (tai_minus_gps + d) 0 (shifted_to_utc d es) (utc_to_shifted d es)
  shifted_instants =
      kept es (tai_minus_gps + d) 0 (λ n l. refl) (λ u l. as_defined u) (counts_less es tai_minus_gps d from-d)
