-- The expiry of a table changes no answer, and a table stays stale: by GPS counts, and by UTC counts where it is regular.
use mathlib.Core.Path.{◌≡◌, refl, sym, ap, ◌∙◌}
use mathlib.Core.Bool.{Bool, true, cond, false≢true}
use mathlib.Core.List.{List}
use Prim.Native.Nat.{ℕ, ◌+◌, ◌*◌, ◌-◌, ◌^◌, ◌≤◌, ◌<◌}
use native.Mathlib.Omega.{arith}
use native.Mathlib.Decide.{dec_le}
use lib.IntN.{pos}
use Rattle.refusals.specs.Outcome.{Outcome, answered, refused}
use Rattle.refusals.proofs.Given.{no_refusal}
use Rattle.counts.specs.Units.{second}
use Rattle.scales.specs.Scales.{tai_minus_gps}
use Rattle.tables.specs.Entries.{Entry, neighbours, lookup, in_force}
use Rattle.tables.specs.Slots.{paired, entries_of, of_valid}
use Rattle.tables.specs.Expiry.{stale_at, dated}
use Rattle.tables.specs.declared.LeapTable.{LeapTable}
use Rattle.tables.proofs.Checked.{good}
use Rattle.tables.proofs.Stale.{answer-kept, said_of_answer, answer-dated, never, stays_stale}
use Rattle.images.specs.Image.{sized, table_in, by_image}
use Rattle.conversions.specs.Conversions.{E, gps_to_utc, last_reading, utc_to_gps, second_reading, first_reading}
use Rattle.conversions.proofs.SinceEpoch.{since}
use Rattle.demands.specs.OfCalls.{Regular}
use Rattle.demands.specs.Stale.{by_utc, Stale}
use Rattle.demands.proofs.Demand3.{regular-valid}
use Rattle.conversions.proofs.LeapSeconds.{LeapSeconds, leaps, counted, in_force_lem}
use Rattle.conversions.proofs.OnNaturals.{a, b, before-E, from-E}

-- yes is said of an answer
said_answered : {A : Type 0} (stale : Bool) (o : Outcome A) → (dated stale o).1 ≡ true → (x : A) × (o ≡ answered x)
said_answered stale (answered x) y = (x, refl)
said_answered stale (refused k) y = absurd (false≢true y)

-- where a reading is not after another, and both are answered
stays : {A : Type 0} (x tai later : ℕ) (o p : Outcome A) {n : A} → tai ≤ later → p ≡ answered n
    → (dated (stale_at x tai) o).1 ≡ true → (dated (stale_at x later) p).1 ≡ true
stays x tai later o p l e y =
    answer-dated {stale = stale_at x later} {o = p} e
    ∙ stays_stale x tai later l (said_of_answer {stale = stale_at x tai} o y)

module _ (es : List Entry) (k : ℕ → ℕ) (f : LeapSeconds es k) where
  -- from E on the reading looked up last is b
  last_is : (u : ℕ) → E ≤ u → u < 2 ^ 64 → last_reading es u ≡ b es k f u
  last_is u l m =
      let few = f.few (a es k f u) in
      let first : first_reading u ≡ a es k f u
      = since 0 u (19 * second) (omega arith) (omega arith) ∙ omega arith in
      let next : second_reading u (pos (19 + k (a es k f u))) (a es k f u) ≡ b es k f u
      = since (a es k f u) u ((19 + k (a es k f u)) * second) (omega arith) (omega arith) ∙ omega arith in
      rw (first, in_force_lem f (a es k f u), next)

  -- it never goes back
  last_rises : (u v : ℕ) → E ≤ u → u ≤ v → v < 2 ^ 64 → last_reading es u ≤ last_reading es v
  last_rises u v e l m =
      rw (last_is u e (omega arith), last_is v (omega arith) m)
      (omega (arith, f.rises (a es k f u) (a es k f v) (omega arith)))

utc_stays : (t : LeapTable) → Regular t → (u v : ℕ) → u ≤ v → v < 2 ^ 64 → (by_utc t u).1 ≡ true → (by_utc t v).1 ≡ true
utc_stays t r u v l m y =
    let es = entries_of t in
    let k = leaps es in
    let f = counted es r.1 in
    let valid = regular-valid t r in
    let x = t.expiry in
    let (g, gives) = said_answered (stale_at x (last_reading es u)) (of_valid t (utc_to_gps es u)) y in
    from (dec_le E u) f (good t (utc_to_gps es u) valid ∙ gives)
  where
    from : Dec (E ≤ u) → LeapSeconds (entries_of t) (leaps (entries_of t)) → {g : ℕ} → utc_to_gps (entries_of t) u ≡ answered g
        → (by_utc t v).1 ≡ true
    from (no h) f gives =
        absurd (no_refusal _ gives (before-E (entries_of t) (leaps (entries_of t)) f u (omega (arith, h))))
    from (yes h) f gives =
        let es = entries_of t in
        let k = leaps es in
        stays t.expiry (last_reading es u) (last_reading es v) (of_valid t (utc_to_gps es u)) (of_valid t (utc_to_gps es v))
        (last_rises es k f u v h l m)
        (sym (good t (utc_to_gps es v) (regular-valid t r)) ∙ from-E es k f v (omega arith) m) y

pub stale : Stale
unfolding neighbours lookup in_force paired
stale = record {
  same_answer = λ t x tai answer.
      answer-kept (stale_at x (tai (entries_of t))) (of_valid t (answer (entries_of t)))
      ∙ sym (answer-kept (stale_at t.expiry (tai (entries_of t))) (of_valid t (answer (entries_of t))));
  same_answer_by_image = λ b c x tai answer size is.
      answer-kept (stale_at (table_in c).expiry (tai (entries_of (table_in c)))) (by_image c answer)
      ∙ (λ i. cond (sized c) (of_valid (is i) (answer (entries_of (is i)))) (refused 8))
      ∙ (λ i. cond (sym size i) (of_valid (table_in b) (answer (entries_of (table_in b)))) (refused 8))
      ∙ sym (answer-kept (stale_at (table_in b).expiry (tai (entries_of (table_in b)))) (by_image b answer));
  never_without = λ t tai o e.
      ap (λ (x : ℕ). (dated (stale_at x tai) (of_valid t o)).1) e ∙ (λ i. (never (of_valid t o) i).1);
  never_refused = λ {A} t tai k o e.
      let s = stale_at t.expiry tai in
      ap (λ (p : Outcome A). (dated s p).1) (sym (answer-kept s (of_valid t o)) ∙ e);
  gps_stays = λ t g h u l y e.
      let there = gps_to_utc (entries_of t) in
      let x = t.expiry in
      stays x (g + tai_minus_gps) (h + tai_minus_gps) (of_valid t (there g)) (of_valid t (there h)) (omega arith)
      (sym (answer-kept (stale_at x (h + tai_minus_gps)) (of_valid t (there h))) ∙ e) y;
  utc_stays = utc_stays;
  utc_need_not = (refl, (2 ^ 64 - 19 * second, refl));
}
