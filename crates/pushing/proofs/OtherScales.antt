-- What two lists convert alike between GPS and UTC they convert alike in the scales that go by way of these. Only where a
-- later count is chosen does a conversion look at the list again.
use mathlib.Core.Path.{◌≡◌, refl, sym, ap, ◌∙◌}
use mathlib.Core.List.{List}
use Prim.Native.Nat.{ℕ, ◌+◌, ◌^◌, ◌≤◌, ◌<◌}
use native.Mathlib.Omega.{arith}
use native.Mathlib.Decide.{dec_lt}
use mathlib.Core.Bool.{cond}
use lib.Dec.{leb}
use borrow.Author.Tests.{le-leb}
use lib.IntN.{ℤ, pos, ◌-ℤ◌}
use Rattle.refusals.specs.Outcome.{Outcome, answered, refused, then, changed}
use Rattle.refusals.proofs.Steps.{goes_on, stops}
use Rattle.counts.specs.Exact.{up, down}
use Rattle.counts.specs.Units.{unix_offset}
use Rattle.counts.proofs.Fitting.{is_count, no_count_lem, the_count}
use Rattle.tables.specs.Entries.{Entry}
use Rattle.conversions.specs.Conversions.{glonass_epoch, in_nanos, utc_to_unix, unix_to_utc, gps_to_utc, utc_to_gps}
use Rattle.conversions.specs.Shifted.{later_of, shifted_to_utc, utc_to_shifted}
use Rattle.pushing.specs.SameBefore.{Below, SameByLists, OtherScales}

-- a step after what answers
module _ {A B : Type 0} {f f' : A → Outcome B} where
  stepwise : (o : Outcome A) → ((x : A) → o ≡ answered x → f' x ≡ f x) → then o f' ≡ then o f
  stepwise (answered x) h = h x refl
  stepwise (refused k) h = refl

-- and after a step up, which is taken where it gives a count
after-up : (f f' : ℕ → Outcome ℕ) (d n : ℕ) → (n + d < 2 ^ 64 → f' (n + d) ≡ f (n + d)) → then (up d n) f' ≡ then (up d n) f
after-up f f' d n h = go (dec_lt (n + d) (2 ^ 64))
  where
    go : Dec (n + d < 2 ^ 64) → then (up d n) f' ≡ then (up d n) f
    go (yes l) = goes_on f' (is_count (n + d) l) ∙ h l ∙ sym (goes_on f (is_count (n + d) l))
    go (no l) = let none = no_count_lem (n + d) (omega (arith, l)) in stops f' none ∙ sym (stops f none)

module _ (gps utc : ℤ) (es fs : List Entry) (s : SameByLists gps utc es fs) where
  to_utc : (d n : ℕ) → Below (n + d) gps → shifted_to_utc d fs n ≡ shifted_to_utc d es n
  to_utc d n l = after-up (gps_to_utc es) (gps_to_utc fs) d n (λ fits. s.to_utc (n + d) fits l)

  -- back, where no later count is looked for
  back : (d u : ℕ) → u < 2 ^ 64 → Below u utc → ((g : ℕ) → utc_to_gps es u ≡ answered g → d ≤ g)
      → utc_to_shifted d fs u ≡ utc_to_shifted d es u
  back d u fits l since =
      ap (λ (o : Outcome ℕ). then o (by fs)) (s.to_gps u fits l)
      ∙ stepwise {f = by es} {f' = by fs} (utc_to_gps es u) (λ g e. rw (le-leb d g (since g e)))
    where
      by : List Entry → ℕ → Outcome ℕ
      by xs g = then (cond (leb d g) (answered g) (later_of xs g)) (down d)

  pub other_scales : OtherScales gps utc es fs
  other_scales = record {
    gps_to_glonass_lem = λ g fits l. ap (λ (o : Outcome ℕ). then o (down glonass_epoch)) (s.to_utc g fits l);
    glonass_to_gps_lem = λ n l. after-up (utc_to_gps es) (utc_to_gps fs) glonass_epoch n (λ fits. s.to_gps (n + glonass_epoch) fits l);
    gps_to_unix_lem = λ g fits l. ap (changed utc_to_unix) (s.to_utc g fits l);
    unix_to_gps_lem = λ t l.
        stepwise {f = utc_to_gps es} {f' = utc_to_gps fs} (unix_to_utc t) (λ u e. s.to_gps u (the_count (in_nanos (t -ℤ pos unix_offset)) e).1 (l u e));
    shifted_to_utc_lem = to_utc;
    shifted_to_glonass_lem = λ d n l. ap (λ (o : Outcome ℕ). then o (down glonass_epoch)) (to_utc d n l);
    utc_to_shifted_lem = back;
    glonass_to_shifted_lem = λ d n l since.
        after-up (utc_to_shifted d es) (utc_to_shifted d fs) glonass_epoch n (λ fits. back d (n + glonass_epoch) fits l since);
  }
