-- Civil readings over every list on days: put together from the laws of readings, which stand in readings/proofs.
use mathlib.Core.Path.{◌≡◌, refl, sym, ap, subst, ◌∙◌}
use mathlib.Core.Logic.{◌≢◌}
use mathlib.Core.Bool.{Bool, true, false}
use mathlib.Core.List.{List, [], ◌∷◌}
use mathlib.Core.Option.{Option, none, some, none-ne-some, some-injective}
use Prim.Native.Nat.{ℕ, ◌+◌, ◌≤◌, ◌<◌}
use native.Mathlib.Omega.{arith}
use borrow.Author.Tests.{eqb-false}
use lib.Dec.{eqb}
use native.Mathlib.Decide.{dec_lt, ℕ_discrete}
use Rattle.refusals.specs.Outcome.{Outcome, answered, refused}
use Rattle.refusals.proofs.Given.{no_refusal}
use Rattle.counts.specs.Units.{second}
use Rattle.scales.specs.Scales.{tai_minus_gps}
use Rattle.civil.specs.Real.{field_tests, first_failed, out_of_range}
use Rattle.civil.specs.declared.CivilDateTime.{CivilDateTime}
use Rattle.tables.specs.Entries.{Entry, on_days}
use Rattle.conversions.proofs.LeapSeconds.{LeapSeconds, leaps, counted}
use Rattle.readings.specs.Readings.{reading_of, gps_to_civil, civil_to_gps}
use Rattle.readings.specs.Order.{earlier}
use Rattle.readings.proofs.LaterEntries.{both_tests}
use Rattle.readings.proofs.Order as order
use Rattle.readings.proofs.ReadBack as read
use Rattle.demands.specs.CivilReadings.{ReadAs, InLastSecond, CivilReadings, ByLists, OnlyOnDays}

-- ---- the numbers of fields out of range
abbrev EachNumber : (ℕ → Type 0) → List (Bool × ℕ) → Type 0
EachNumber P [] = Unit {0}
EachNumber P ((passes, k) ∷ ts) = P k × EachNumber P ts

of_failed : (P : ℕ → Type 0) (ts : List (Bool × ℕ)) → EachNumber P ts → (n : ℕ) → first_failed ts ≡ some n → P n
of_failed P [] each n e = absurd (none-ne-some n e)
of_failed P ((true, k) ∷ ts) (p, each) n e = of_failed P ts each n e
of_failed P ((false, k) ∷ ts) (p, each) n e = subst P (some-injective k n e) p

-- they are none of those that fields in range are refused by
abbrev Other : ℕ → Type 0
Other n = (n ≢ 14) × (n ≢ 1)

no_other : (c : CivilDateTime) (n : ℕ) → out_of_range c ≡ some n → Other n
no_other c =
    of_failed Other (field_tests c)
    (other 15 refl refl, (other 16 refl refl, (other 17 refl refl, (other 18 refl refl, (other 19 refl refl, (other 11 refl refl, tt))))))
  where
    other : (n : ℕ) → eqb n 14 ≡ false → eqb n 1 ≡ false → Other n
    other n not_14 not_1 = (eqb-false n 14 not_14, eqb-false n 1 not_1)

one_refusal : (o : Outcome ℕ) {m n : ℕ} → o ≡ refused m → o ≡ refused n → m ≡ n
one_refusal o p q = cc

module _ (es : List Entry) (d : on_days es ≡ true) where
  abbrev k : ℕ → ℕ
  k = leaps es

  f : LeapSeconds es (leaps es)
  f = counted es (both_tests es d).0

  -- in the last second before a threshold one leap second more is passed a second later
  one_more : (t : ℕ) → InLastSecond es t → k t < k (t + second)
  one_more t (e, later, before, near) =
      f.an_entry_more t (t + second) (record { entry = e; among = later; after = before; by = near })

  in_last : (t : ℕ) → k t < k (t + second) → InLastSecond es t
  in_last t more = let x = f.more_by_an_entry t (t + second) more in (x.entry, x.among, x.after, x.by)

  none_more : (t : ℕ) → (InLastSecond es t → ⊥) → k (t + second) ≤ k t
  none_more t not_last = go (dec_lt (k t) (k (t + second)))
    where
      go : Dec (k t < k (t + second)) → k (t + second) ≤ k t
      go (yes h) = absurd (not_last (in_last t h))
      go (no h) = omega (arith, h)

  -- the reading of a count that is read
  reading : (g : ℕ) (c : CivilDateTime) → ReadAs (gps_to_civil es) g c → reading_of es g ≡ c
  reading g c (fits, e) = (read.was_read es d g c e).2

  -- fields that are refused by neither 14 nor 1 have one out of range
  the_first : (c : CivilDateTime) (n : ℕ) → civil_to_gps es c ≡ refused n → n ≢ 14 → n ≢ 1 → out_of_range c ≡ some n
  the_first c n e no_14 no_1 = by_range (out_of_range c) refl
    where
      by_range : (o : Option ℕ) → out_of_range c ≡ o → o ≡ some n
      by_range (some m) q = ap some (one_refusal (civil_to_gps es c) (read.out_of_range_lem es d c m q) e)
      by_range none q = by_second (ℕ_discrete c.second 60)
        where
          not_answered : (g : ℕ) → civil_to_gps es c ≡ answered g → ⊥
          not_answered g a = no_refusal (civil_to_gps es c) a e

          by_second : Dec (c.second ≡ 60) → none ≡ some n
          by_second (yes s) =
              absurd (no_14 (one_refusal (civil_to_gps es c) e (read.sixty_or_14 es d c q s not_answered)))
          by_second (no s) =
              absurd (no_1 (one_refusal (civil_to_gps es c) e (read.other_or_1 es d c q s not_answered)))

  pub over_list : CivilReadings es (gps_to_civil es) (civil_to_gps es)
  over_list = record {
    refused_exactly = λ g fits n. read.not_read es d g n;
    inserted = λ g u c r e last.
        let more = one_more (g + tai_minus_gps) last in
        (read.midnight es d g u e more, sym (reading g c r) ∙ read.in_last_second es d g u e more);
    elsewhere = λ g u c r e not_last.
        sym (reading g c r) ∙ read.elsewhere es d g u e (none_more (g + tai_minus_gps) not_last);
    rises = λ g g' c c' r r' l.
        (λ i. earlier (sym (reading g c r) i) (sym (reading g' c' r') i)) ∙ order.rises es g g' l;
    no_two = λ g g' c r r'. order.no_two es g g' (reading g c r ∙ sym (reading g' c r'));
    read_exactly = λ c g. read.read_exactly es d c g;
    out_of_range_lem = λ c n. (
      λ o. let (no_14, no_1) = no_other c n o in (read.out_of_range_lem es d c n o, no_14, no_1),
      λ (e, no_14, no_1). the_first c n e no_14 no_1,
    );
    sixty_refused = λ c r s. (
      λ e g read_so_lem. no_refusal (civil_to_gps es c) ((read.read_exactly es d c g).1 read_so_lem) e,
      λ none. read.sixty_or_14 es d c r s (λ g e. none g ((read.read_exactly es d c g).0 e)),
    );
    others_refused = λ c r s. (
      λ e g read_so_lem. no_refusal (civil_to_gps es c) ((read.read_exactly es d c g).1 read_so_lem) e,
      λ none. read.other_or_1 es d c r s (λ g e. none g ((read.read_exactly es d c g).0 e)),
    );
    has_their_count = λ c g s e. let l = read.other_last es d c s g e in (l.fits, (l.utc, l.is, l.has));
    the_later = λ c g s e g' (fits, (u, is, has)).
        let l = read.other_last es d c s g e in
        l.last g' (has ∙ sym is ∙ l.is);
  }

pub by_lists : ByLists
by_lists es d = over_list es d

pub only_on_days : OnlyOnDays
only_on_days es off = (λ g. rw off, λ c. rw off)
