-- What `alike` tells of two lists holds of their conversions.
use mathlib.Core.Path.{◌≡◌, refl, sym, ap, ◌∙◌, subst}
use mathlib.Core.Logic.{◌⊎◌, inl, inr}
use mathlib.Core.Bool.{Bool, true, false, ◌&&◌}
use mathlib.Core.List.{List}
use Prim.Native.Nat.{ℕ, ◌+◌, ◌*◌, ◌-◌, ◌^◌, ◌≤◌, ◌<◌}
use native.Mathlib.Omega.{arith}
use native.Mathlib.Decide.{dec_lt}
use lib.IntN.{ℤ, pos, negsuc, ◌+ℤ◌, ◌-ℤ◌, ◌*ℤ◌}
use Rattle.refusals.specs.Outcome.{Outcome, answered, refused, then, changed}
use Rattle.refusals.proofs.Given.{no_refusal}
use Rattle.refusals.proofs.Steps.{goes_on}
use Rattle.counts.specs.Exact.{count_of, up, down}
use Rattle.counts.specs.Units.{second}
use Rattle.counts.proofs.Difference.{not_below, of_naturals, plus}
use Rattle.counts.proofs.Fitting.{is_count, no_count_lem, the_count}
use Rattle.scales.specs.Scales.{tai_minus_gps}
use Rattle.tables.specs.Entries.{Entry, threshold, offset, regular, day}
use Rattle.tables.proofs.Neighbours.{both}
use Rattle.conversions.specs.Conversions.{E, utc_to_gps}
use Rattle.alike.specs.Alike.{event, counts, counts_from, parting, told}
use Rattle.alike.specs.declared.Counts.{Counts}
use Rattle.alike.specs.declared.Alike.TheVariants as how
use Rattle.alike.specs.declared.inner.Parting.{Parting}
use Rattle.alike.specs.declared.inner.Parting.TheVariants as parts
use Rattle.pushing.specs.SameBefore.{gps_from, utc_from, OtherScales}
use Rattle.pushing.specs.AlikeLists.{Extends, AlikeLists}
use Rattle.pushing.proofs.SameBefore.{below_bound, utc-from}
use Rattle.pushing.proofs.OtherScales.{other_scales}
use Rattle.pushing.proofs.PartedLists.{clash, nowhere, onward, GoesOn, apart, same_parts, extended_parts, extending_parts}
use Rattle.pushing.proofs.Forks.{AlikeBy, Parts, at_onward, at_fork}

-- ---- what is told is what the definition says
-- both steps of an answer, and the step of a refusal
two_steps : {A B : Type 0} (o : Outcome A) (f : A → Outcome B) {b : B} → then o f ≡ answered b
    → (a : A) × (o ≡ answered a) × (f a ≡ answered b)
two_steps (answered a) f e = (a, refl, e)
two_steps (refused k) f e = clash (cc)

pub changed-from : {A B : Type 0} (f : A → B) (o : Outcome A) {b : B} → changed f o ≡ answered b
    → (a : A) × (o ≡ answered a) × (f a ≡ b)
changed-from f (answered a) e = (a, refl, cc)
changed-from f (refused k) e = clash (cc)

counts_are : (x : Entry) (c : Counts) → counts_from x ≡ answered c → (pos c.gps ≡ gps_from x) × (pos c.utc ≡ utc_from x)
counts_are x c e =
    let (g, gives_g, rest) = two_steps (down tai_minus_gps (threshold x)) _ e in
    let (u, gives_u, is) = changed-from (counts g) (then (count_of (event x)) (up second)) rest in
    let (v, gives_v, past) = two_steps (count_of (event x)) (up second) gives_u in
    let at_g : pos g ≡ gps_from x = (the_count (gps_from x) gives_g).0 in
    let at_v : pos v ≡ event x = (the_count (event x) gives_v).0 in
    let at_u : pos u ≡ pos (v + second) = (the_count (pos (v + second)) past).0 in (
      sym (ap (λ (y : Counts). pos y.gps) is) ∙ at_g,
      sym (ap (λ (y : Counts). pos y.utc) is) ∙ at_u ∙ ap (λ (z : ℤ). z +ℤ pos second) at_v,
    )

still_refused : {A B : Type 0} (f : A → B) (o : Outcome A) {k : ℕ} → changed f o ≡ refused k → o ≡ refused k
still_refused f (answered a) e = clash (cc)
still_refused f (refused j) e = cc

told_everywhere : (b : Bool) (q : Parting) → told b q ≡ answered how.Everywhere → q ≡ parts.Nowhere
told_everywhere b parts.Nowhere e = refl
told_everywhere true (parts.Onward x) e = let (c, gives, is) = changed-from how.Before (counts_from x) e in clash (cc)
told_everywhere true (parts.Apart x) e = let (c, gives, is) = changed-from how.Apart (counts_from x) e in clash (cc)
told_everywhere false (parts.Onward x) e = clash (cc)
told_everywhere false (parts.Apart x) e = clash (cc)

told-before : (b : Bool) (q : Parting) (c : Counts) → told b q ≡ answered (how.Before c)
    → (b ≡ true) × ((x : Entry) × (q ≡ parts.Onward x) × (counts_from x ≡ answered c))
told-before b parts.Nowhere c e = clash (cc)
told-before true (parts.Onward x) c e =
    let (d, gives, is) = changed-from how.Before (counts_from x) e in
    (refl, (x, refl, gives ∙ ap answered (cc)))
told-before true (parts.Apart x) c e = let (d, gives, is) = changed-from how.Apart (counts_from x) e in clash (cc)
told-before false (parts.Onward x) c e = clash (cc)
told-before false (parts.Apart x) c e = clash (cc)

told_apart : (b : Bool) (q : Parting) (c : Counts) → told b q ≡ answered (how.Apart c)
    → (b ≡ true) × ((x : Entry) × (q ≡ parts.Apart x) × (counts_from x ≡ answered c))
told_apart b parts.Nowhere c e = clash (cc)
told_apart true (parts.Onward x) c e = let (d, gives, is) = changed-from how.Before (counts_from x) e in clash (cc)
told_apart true (parts.Apart x) c e =
    let (d, gives, is) = changed-from how.Apart (counts_from x) e in
    (refl, (x, refl, gives ∙ ap answered (cc)))
told_apart false (parts.Onward x) c e = clash (cc)
told_apart false (parts.Apart x) c e = clash (cc)

told_irregular : (b : Bool) (q : Parting) → told b q ≡ answered how.Irregular → (b ≡ false) × (q ≡ parts.Nowhere → ⊥)
told_irregular b parts.Nowhere e = clash (cc)
told_irregular true (parts.Onward x) e = let (c, gives, is) = changed-from how.Before (counts_from x) e in clash (cc)
told_irregular true (parts.Apart x) e = let (c, gives, is) = changed-from how.Apart (counts_from x) e in clash (cc)
told_irregular false (parts.Onward x) e = (refl, λ h. clash (cc))
told_irregular false (parts.Apart x) e = (refl, λ h. clash (cc))

told_refused : (b : Bool) (q : Parting) (k : ℕ) → told b q ≡ refused k
    → (b ≡ true) × ((x : Entry) × ((q ≡ parts.Onward x) ⊎ (q ≡ parts.Apart x)) × (counts_from x ≡ refused k))
told_refused b parts.Nowhere k e = clash (cc)
told_refused true (parts.Onward x) k e = (refl, (x, inl refl, still_refused how.Before (counts_from x) e))
told_refused true (parts.Apart x) k e = (refl, (x, inr refl, still_refused how.Apart (counts_from x) e))
told_refused false (parts.Onward x) k e = clash (cc)
told_refused false (parts.Apart x) k e = clash (cc)

-- where the counts are refused, the UTC count does not fit
module _ (x : Entry) (n : ℕ) (o : offset x ≡ pos n) (small : n ≤ 83) (a-day : day ≤ threshold x) where
  event_is : event x ≡ pos (threshold x + E - n * second)
  event_is =
      ap (λ (z : ℤ). pos (threshold x) -ℤ z *ℤ pos second +ℤ pos E) o
      ∙ ap (λ (z : ℤ). z +ℤ pos E) (of_naturals (threshold x) (n * second))
      ∙ plus (threshold x) (n * second) E ∙ not_below (threshold x + E) (n * second) (omega arith)

  counts_fit : threshold x + E + second < 2 ^ 64 + n * second
      → counts_from x ≡ answered (counts (threshold x - tai_minus_gps) (threshold x + E - n * second + second))
  counts_fit l =
      let g = threshold x - tai_minus_gps in
      let v = threshold x + E - n * second in
      let at_g : down tai_minus_gps (threshold x) ≡ answered g
      = rw (of_naturals (threshold x) tai_minus_gps, not_below (threshold x) tai_minus_gps (omega arith)) (is_count g (omega arith)) in
      goes_on (λ g. changed (counts g) (then (count_of (event x)) (up second))) at_g
      ∙ ap (changed (counts g))
      (goes_on (up second) (ap count_of event_is ∙ is_count v (omega arith)) ∙ is_count (v + second) (omega arith))

  no_utc_count : {k : ℕ} → counts_from x ≡ refused k → 2 ^ 64 + n * second ≤ threshold x + E + second
  no_utc_count e = go (dec_lt (threshold x + E + second) (2 ^ 64 + n * second))
    where
      go : Dec (threshold x + E + second < 2 ^ 64 + n * second) → 2 ^ 64 + n * second ≤ threshold x + E + second
      go (yes h) = absurd (no_refusal _ (counts_fit h) e)
      go (no h) = omega (arith, h)

-- and the number is 1
only_1 : (z : ℤ) {k : ℕ} → count_of z ≡ refused k → k ≡ 1
only_1 (negsuc j) e = cc
only_1 (pos j) {k} e = go (dec_lt j (2 ^ 64))
  where
    go : Dec (j < 2 ^ 64) → k ≡ 1
    go (yes h) = absurd (no_refusal _ (is_count j h) e)
    go (no h) = let is : ◌≡◌ {A = Outcome ℕ} (refused k) (refused 1) = sym e ∙ no_count_lem j (omega (arith, h)) in cc

a_step_refused : {A B : Type 0} (o : Outcome A) (f : A → Outcome B) {k : ℕ} → then o f ≡ refused k
    → (o ≡ refused k) ⊎ ((a : A) × (f a ≡ refused k))
a_step_refused (answered a) f e = inr (a, e)
a_step_refused (refused j) f e = inl (cc)

counts_refused : (x : Entry) {k : ℕ} → counts_from x ≡ refused k → k ≡ 1
counts_refused x {k} e = first (a_step_refused (down tai_minus_gps (threshold x)) _ e)
  where
    past : (count_of (event x) ≡ refused k) ⊎ ((v : ℕ) × (up second v ≡ refused k)) → k ≡ 1
    past (inl e) = only_1 (event x) e
    past (inr (v, e)) = only_1 (pos (v + second)) e

    first : (down tai_minus_gps (threshold x) ≡ refused k)
        ⊎ ((g : ℕ) × (changed (counts g) (then (count_of (event x)) (up second)) ≡ refused k)) → k ≡ 1
    first (inl e) = only_1 (gps_from x) e
    first (inr (g, e)) =
        past (a_step_refused (count_of (event x)) (up second) (still_refused (counts g) (then (count_of (event x)) (up second)) e))

-- ---- of any two lists
module _ (es fs : List Entry) where
  abbrev b : Bool
  b = regular es && regular fs

  abbrev q : Parting
  q = parting es fs

  parts_here : (x : Entry) → b ≡ true → (q ≡ parts.Onward x) ⊎ (q ≡ parts.Apart x) → Parts es fs x
  parts_here x t (inl at) =
      let (r, r') = both (regular es) (regular fs) t in at_onward es fs r r' x (onward es fs x at)
  parts_here x t (inr at) =
      let (r, r') = both (regular es) (regular fs) t in at_fork es fs r r' x (apart es fs x at)

  -- at the counts that are told
  by_counts : (x : Entry) (c : Counts) → counts_from x ≡ answered c → Parts es fs x
      → AlikeBy (pos c.gps) (pos c.utc) es fs × OtherScales (pos c.gps) (pos c.utc) es fs
  by_counts x c e h =
      let (at_gps, at-utc) = counts_are x c e in
      let a : AlikeBy (pos c.gps) (pos c.utc) es fs
      = subst (λ (z : ℤ). AlikeBy (pos c.gps) z es fs) (sym at-utc)
      (subst (λ (z : ℤ). AlikeBy z (utc_from x) es fs) (sym at_gps) h.alike-before) in
      (a, other_scales (pos c.gps) (pos c.utc) es fs a.same)

  extends : (x : Entry) → GoesOn es fs x ⊎ GoesOn fs es x → Extends es fs ⊎ Extends fs es
  extends x (inl (rest, is)) = inl (x, rest, is)
  extends x (inr (rest, is)) = inr (x, rest, is)

  no_extension : (x : Entry) → q ≡ parts.Apart x → (Extends es fs ⊎ Extends fs es) → ⊥
  no_extension x at (inl (e, rest, is)) =
      let on : q ≡ parts.Onward e = ap (parting es) is ∙ extended_parts es e rest in clash (cc)
  no_extension x at (inr (e, rest, is)) =
      let on : q ≡ parts.Onward e = ap (λ (xs : List Entry). parting xs fs) is ∙ extending_parts fs e rest in clash (cc)

  not_below_bound : (x : Entry) (k : ℕ) → counts_from x ≡ refused k → Parts es fs x → (u : ℕ) → u < 2 ^ 64
      → utc_to_gps fs u ≡ utc_to_gps es u
  not_below_bound x k e h u fits =
      let over = no_utc_count x h.number h.offset_is_number h.small h.a_day_on_lem e in
      h.alike-before.same.to_gps u fits
      (rw (utc-from x h.number h.offset_is_number) (below_bound u _ (h.number * second) (omega arith)))

  pub alike-lists : AlikeLists es fs
  alike-lists = record {
    everywhere = (
      λ e. nowhere es fs (told_everywhere b q e),
      λ same. ap (told b) (ap (parting es) (sym same) ∙ same_parts es),
    );
    before = λ c e.
        let (t, (x, at, gives)) = told-before b q c e in
        let (a, s) = by_counts x c gives (parts_here x t (inl at)) in
        (extends x (onward es fs x at), a, s);
    apart = λ c e.
        let (t, (x, at, gives)) = told_apart b q c e in
        let (a, s) = by_counts x c gives (parts_here x t (inr at)) in
        (no_extension x at, a, s);
    irregular = λ e.
        let (not_both, part) = told_irregular b q e in
        (λ same. part (ap (parting es) (sym same) ∙ same_parts es), not_both);
    refused_by = λ k e.
        let (t, (x, at, gives)) = told_refused b q k e in
        (counts_refused x gives, not_below_bound x k gives (parts_here x t at));
  }
