-- Two regular lists that part convert alike before the first entry in which they differ, and not there: each changes what
-- they have in common from its own entry on.
use mathlib.Core.Path.{◌≡◌, sym, ap, ◌∙◌, subst}
use mathlib.Core.Logic.{◌⊎◌, inl, inr}
use mathlib.Core.Bool.{true}
use mathlib.Core.List.{List, ◌∷◌, ◌++◌}
use Prim.Native.Nat.{ℕ, ◌+◌, ◌*◌, ◌^◌, ◌≤◌, ◌<◌}
use native.Mathlib.Omega.{arith}
use native.Mathlib.Decide.{dec_lt}
use borrow.Author.Tests.{le-leb, lt-leb}
use lib.ListN.{length}
use lib.IntN.{ℤ, pos}
use Rattle.refusals.specs.Outcome.{Outcome}
use Rattle.refusals.proofs.Given.{one_answer}
use Rattle.counts.specs.Units.{second}
use Rattle.scales.specs.Scales.{tai_minus_gps}
use Rattle.tables.specs.Entries.{Entry, threshold, offset, regular, day}
use Rattle.tables.proofs.Tested.{regular_tested}
use Rattle.conversions.specs.Conversions.{E, gps_to_utc, utc_to_gps}
use Rattle.conversions.proofs.OnNaturals.{tai}
use Rattle.alike.specs.Alike.{earlier}
use Rattle.pushing.specs.SameBefore.{gps_from, utc_from}
use Rattle.pushing.specs.AlikeLists.{AlikeBefore}
use Rattle.pushing.proofs.SameBefore.{gps_below, utc-from, utc-below, natural, gps_same, utc_same, same_before_lem}
use Rattle.pushing.proofs.SameBefore.{gps_from_lem, gps_at_bound, utc_at_bound, a_day_in, offset_is}
use Rattle.pushing.proofs.PartedLists.{GoesOn, Fork}
use Rattle.pushing.proofs.PartedLists.{beginning_regular, some_common, by_threshold_lem}

abbrev pub AlikeBy : ℤ → ℤ → List Entry → List Entry → Type 0
AlikeBy gps utc es fs = AlikeBefore gps utc (gps_to_utc es) (gps_to_utc fs) (utc_to_gps es) (utc_to_gps fs)

swapped : {gps utc : ℤ} {there there' back back' : ℕ → Outcome ℕ} → AlikeBefore gps utc there there' back back'
    → AlikeBefore gps utc there' there back' back
swapped a = record {
  same = record {
    to_utc = λ g fits l. sym (a.same.to_utc g fits l);
    to_gps = λ u fits l. sym (a.same.to_gps u fits l);
  };
  gps_differs = λ g u at fits there there'. a.gps_differs g u at fits there' there;
  utc_differs = λ u g at fits back back'. a.utc_differs u g at fits back' back;
}

-- ---- one list goes on
module _ (es : List Entry) (e : Entry) (rest : List Entry) (r : regular es ≡ true) (r' : regular (es ++ e ∷ rest) ≡ true) where
  late : 0 < threshold e
  late = omega (arith, a_day_in es e rest r r')

  goes_past : AlikeBy (gps_from e) (utc_from e) es (es ++ e ∷ rest)
  goes_past = record {
    same = same_before_lem es e rest r (offset_is es e rest r r') late;
    gps_differs = λ g u at fits there there'.
        let (v, more, gives) = gps_at_bound es e rest r r' g u at there in
        omega (arith, more, one_answer (gps_to_utc (es ++ e ∷ rest) g) there' gives);
    utc_differs = λ u g at fits back back'.
        omega (arith, one_answer (utc_to_gps (es ++ e ∷ rest) u) back' (utc_at_bound es e rest r r' u g at fits back));
  }

-- ---- two lists fork, the one first
module _ (p : List Entry) (e : Entry) (es : List Entry) (f : Entry) (fs : List Entry) (r : regular p ≡ true)
    (r₁ : regular (p ++ e ∷ es) ≡ true) (r₂ : regular (p ++ f ∷ fs) ≡ true) (first : threshold e < threshold f) where
  abbrev n : ℕ
  n = 19 + length p

  gps_of_one : (g : ℕ) → tai g < threshold e → gps_to_utc (p ++ e ∷ es) g ≡ gps_to_utc p g
  gps_of_one = gps_same p e es r (offset_is p e es r r₁) (late p e es r r₁)

  gps_of_other : (g : ℕ) → tai g < threshold f → gps_to_utc (p ++ f ∷ fs) g ≡ gps_to_utc p g
  gps_of_other = gps_same p f fs r (offset_is p f fs r r₂) (late p f fs r r₂)

  utc_of_one : (u : ℕ) → u < 2 ^ 64 → u + n * second < threshold e + E + second → utc_to_gps (p ++ e ∷ es) u ≡ utc_to_gps p u
  utc_of_one = utc_same p e es r (offset_is p e es r r₁) (late p e es r r₁)

  utc_of_other : (u : ℕ) → u < 2 ^ 64 → u + n * second < threshold f + E + second → utc_to_gps (p ++ f ∷ fs) u ≡ utc_to_gps p u
  utc_of_other = utc_same p f fs r (offset_is p f fs r r₂) (late p f fs r r₂)

  forks : AlikeBy (gps_from e) (utc_from e) (p ++ e ∷ es) (p ++ f ∷ fs)
  forks = record {
    same = record {
      to_utc = λ g fits l.
          let below = gps_below e g l in
          gps_of_other g (omega arith) ∙ sym (gps_of_one g below);
      to_gps = λ u fits l.
          let below = utc-below e n u (offset_is p e es r r₁) l in
          utc_of_other u fits (omega arith) ∙ sym (utc_of_one u fits below);
    };
    gps_differs = λ g u at fits there there'.
        let here : tai g ≡ threshold e = natural g (threshold e) tai_minus_gps (at ∙ gps_from_lem e) in
        let common = sym (gps_of_other g (omega arith)) ∙ there' in
        let (v, more, gives) = gps_at_bound p e es r r₁ g u at common in
        omega (arith, more, one_answer (gps_to_utc (p ++ e ∷ es) g) there gives);
    utc_differs = λ u g at fits back back'.
        let here = natural u (threshold e + E + second) (n * second) (at ∙ utc-from e n (offset_is p e es r r₁)) in
        let common = sym (utc_of_other u fits (omega arith)) ∙ back' in
        omega (arith, one_answer (utc_to_gps (p ++ e ∷ es) u) back (utc_at_bound p e es r r₁ u g at fits common));
  }

-- ---- wherever two regular lists part
pub record Parts (es fs : List Entry) (x : Entry) : Type 0 where
  pub alike-before : AlikeBy (gps_from x) (utc_from x) es fs
  pub number : ℕ
  pub offset_is_number : offset x ≡ pos number
  pub small : number ≤ 83
  pub a_day_on_lem : day ≤ threshold x

-- an entry of a regular list, after others
module _ (es : List Entry) (e : Entry) (rest : List Entry) (r : regular es ≡ true) (r' : regular (es ++ e ∷ rest) ≡ true) where
  parts_at : {xs ys : List Entry} → AlikeBy (gps_from e) (utc_from e) xs ys → Parts xs ys e
  parts_at a = record {
    alike-before = a;
    number = 19 + length es;
    offset_is_number = offset_is es e rest r r';
    small = omega (arith, ((regular_tested es).0 r).few);
    a_day_on_lem = a_day_in es e rest r r';
  }

module _ (es fs : List Entry) (r : regular es ≡ true) (r' : regular fs ≡ true) where
  pub at_onward : (x : Entry) → GoesOn es fs x ⊎ GoesOn fs es x → Parts es fs x
  at_onward x (inl (rest, is)) =
      let r'' : regular (es ++ x ∷ rest) ≡ true = ap regular (sym is) ∙ r' in
      parts_at es x rest r r'' (subst (AlikeBy (gps_from x) (utc_from x) es) (sym is) (goes_past es x rest r r''))
  at_onward x (inr (rest, is)) =
      let r'' : regular (fs ++ x ∷ rest) ≡ true = ap regular (sym is) ∙ r in
      parts_at fs x rest r' r''
      (subst (λ (xs : List Entry). AlikeBy (gps_from x) (utc_from x) xs fs) (sym is) (swapped (goes_past fs x rest r' r'')))

  module _ (x : Entry) (k : Fork es fs x) where
    abbrev p : List Entry
    p = k.common

    one_regular : regular (p ++ k.one ∷ k.one_rest) ≡ true
    one_regular = ap regular (sym k.one_is) ∙ r

    other_regular : regular (p ++ k.other ∷ k.other_rest) ≡ true
    other_regular = ap regular (sym k.other_is) ∙ r'

    common_regular : regular p ≡ true
    common_regular = beginning_regular p (k.one ∷ k.one_rest) (some_common k r r') one_regular

    -- of the lists themselves
    of-lists : (gps utc : ℤ) → AlikeBy gps utc (p ++ k.one ∷ k.one_rest) (p ++ k.other ∷ k.other_rest)
        → AlikeBy gps utc es fs
    of-lists gps utc a =
        subst (λ (xs : List Entry). AlikeBy gps utc xs fs) (sym k.one_is)
        (subst (AlikeBy gps utc (p ++ k.one ∷ k.one_rest)) (sym k.other_is) a)

    not_equal : threshold k.one ≡ threshold k.other → ⊥
    not_equal =
        by_threshold_lem k
        (offset_is p k.one k.one_rest common_regular one_regular
        ∙ sym (offset_is p k.other k.other_rest common_regular other_regular))

    pub at_fork : Parts es fs x
    at_fork = go (dec_lt (threshold k.one) (threshold k.other))
      where
        go : Dec (threshold k.one < threshold k.other) → Parts es fs x
        go (yes l) =
            let is : earlier k.one k.other ≡ k.one
            = rw (le-leb (threshold k.one) (threshold k.other) (omega arith)) in
            subst (Parts es fs) (sym is ∙ k.first)
            (parts_at p k.one k.one_rest common_regular one_regular
            (of-lists (gps_from k.one) (utc_from k.one)
            (forks p k.one k.one_rest k.other k.other_rest common_regular one_regular other_regular l)))
        go (no l) =
            let l' : threshold k.other < threshold k.one = omega (arith, l, not_equal) in
            let is : earlier k.one k.other ≡ k.other
            = rw (lt-leb (threshold k.one) (threshold k.other) l') in
            subst (Parts es fs) (sym is ∙ k.first)
            (parts_at p k.other k.other_rest common_regular other_regular
            (of-lists (gps_from k.other) (utc_from k.other)
            (swapped
            (forks p k.other k.other_rest k.one k.one_rest common_regular other_regular one_regular l'))))
