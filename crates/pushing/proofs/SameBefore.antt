-- An entry after a regular list changes nothing before it: both lookups of a UTC count that is less than one second past
-- the event are below the threshold. From there on it is a second.
use mathlib.Core.Path.{◌≡◌, refl, ap, ◌∙◌, subst}
use mathlib.Core.Bool.{Bool, true, false, cond, false≢true}
use mathlib.Core.List.{List, [], ◌∷◌, ◌++◌}
use Prim.Native.Nat.{ℕ, ◌+◌, ◌*◌, ◌-◌, ◌^◌, ◌≤◌, ◌<◌}
use native.Mathlib.Omega.{arith}
use native.Mathlib.Decide.{dec_lt}
use borrow.Author.Tests.{ltb-true, lt-ltb}
use lib.Dec.{ltb}
use lib.ListN.{length, drop}
use lib.IntN.{ℤ, pos, sub_ℕ, ◌+ℤ◌, ◌-ℤ◌, ◌*ℤ◌}
use Rattle.refusals.specs.Outcome.{answered, refused, then}
use Rattle.refusals.proofs.Given.{one_answer}
use Rattle.counts.specs.Units.{second}
use Rattle.counts.proofs.Difference.{not_below, by_order, of_naturals, plus}
use Rattle.scales.specs.Scales.{tai_minus_gps}
use Rattle.tables.specs.Entries.{Entry, threshold, offset, regular, day, offset_at}
use Rattle.tables.proofs.Reached as list
use Rattle.tables.proofs.Reached.{Chain, reached, none_within_a_day}
use Rattle.conversions.specs.Conversions.{E, count_or, utc_at_offset, gps_to_utc, first_reading, second_reading, last_reading, utc_to_gps, gps_at_offset}
use Rattle.conversions.proofs.SinceEpoch.{since, before}
use Rattle.conversions.proofs.LeapSeconds.{LeapSeconds, leaps, counted, in_force_lem}
use Rattle.conversions.proofs.OnNaturals.{tai, Reads, to_utc, from_gps, from-E, a, b}
use Rattle.pushing.specs.SameBefore.{Below, gps_from, utc_from, SameByLists, ChangesByLists}
use Rattle.pushing.proofs.BelowEntry.{offset-below, Within, within, one_more}

-- ---- bounds on naturals
below_difference : (n a b : ℕ) → Below n (sub_ℕ a b) → n + b < a
below_difference n a b =
    by_order (λ z. Below n z → n + b < a) a b (λ l h. absurd (false≢true h)) (λ l h. omega (arith, ltb-true n (a - b) h))

pub below_bound : (n a b : ℕ) → n + b < a → Below n (sub_ℕ a b)
below_bound n a b l = rw (not_below a b (omega arith)) (lt-ltb n (a - b) (omega arith))

-- the GPS bound of an entry
pub gps_from_lem : (e : Entry) → gps_from e ≡ sub_ℕ (threshold e) tai_minus_gps
gps_from_lem e = of_naturals (threshold e) tai_minus_gps

pub gps_below : (e : Entry) (g : ℕ) → Below g (gps_from e) → tai g < threshold e
gps_below e g h = below_difference g (threshold e) tai_minus_gps (rw (gps_from_lem e) at h)

-- the UTC bound of an entry with offset n
pub utc-from : (e : Entry) (n : ℕ) → offset e ≡ pos n → utc_from e ≡ sub_ℕ (threshold e + E + second) (n * second)
utc-from e n o =
    ap (λ (z : ℤ). pos (threshold e) -ℤ z *ℤ pos second +ℤ pos E +ℤ pos second) o
    ∙ ap (λ (z : ℤ). z +ℤ pos E +ℤ pos second) (of_naturals (threshold e) (n * second))
    ∙ ap (λ (z : ℤ). z +ℤ pos second) (plus (threshold e) (n * second) E)
    ∙ plus (threshold e + E) (n * second) second

pub utc-below : (e : Entry) (n u : ℕ) → offset e ≡ pos n → Below u (utc_from e)
    → u + n * second < threshold e + E + second
utc-below e n u o h = below_difference u _ (n * second) (rw (utc-from e n o) at h)

-- and the other way
at_or_past : (n a b : ℕ) → (Below n (sub_ℕ a b) → ⊥) → a ≤ n + b
at_or_past n a b h = go (dec_lt (n + b) a)
  where
    go : Dec (n + b < a) → a ≤ n + b
    go (yes l) = absurd (h (below_bound n a b l))
    go (no l) = omega (arith, l)

pub not_below_gps : (e : Entry) (g : ℕ) → (Below g (gps_from e) → ⊥) → threshold e ≤ tai g
not_below_gps e g h =
    at_or_past g (threshold e) tai_minus_gps (λ l. h (rw (gps_from_lem e) l))

pub not_below_utc : (e : Entry) (n u : ℕ) → offset e ≡ pos n → (Below u (utc_from e) → ⊥)
    → threshold e + E + second ≤ u + n * second
not_below_utc e n u o h = at_or_past u (threshold e + E + second) (n * second) (λ l. h (rw (utc-from e n o) l))

-- a reading since E that is below t, or d
reading-below : (d u j t : ℕ) → d < t → u + j < E + t → u < 2 ^ 64 → j ≤ E → count_or d (pos u -ℤ pos E +ℤ pos j) < t
reading-below d u j t l m fits small = go (dec_lt (u + j) E)
  where
    go : Dec (u + j < E) → count_or d (pos u -ℤ pos E +ℤ pos j) < t
    go (yes h) = rw (before d u j h) l
    go (no h) = rw (since d u j (omega (arith, h)) (omega arith)) (omega (arith, h))

-- how many entries are after the first
few_later : (es : List Entry) → regular es ≡ true → (t : ℕ) → leaps es t + 1 ≤ length es
unfolding leaps
few_later es r t =
    let l = list.of-regular es r in
    let all : length es ≡ length (drop 1 es) + 1 = ap length l.begins_with ∙ omega arith in
    omega (arith, list.few (drop 1 es) t)

module _ (es : List Entry) (e : Entry) (rest : List Entry) (r : regular es ≡ true) (o : offset e ≡ pos (19 + length es))
    (late : 0 < threshold e) where
  abbrev fs : List Entry
  fs = es ++ e ∷ rest

  abbrev k : ℕ → ℕ
  k = leaps es

  kept : (t : ℕ) → t < threshold e → offset_at fs t ≡ offset_at es t
  kept t l = offset-below es e rest t (omega (arith, few_later es r 0)) l

  pub gps_same : (g : ℕ) → tai g < threshold e → gps_to_utc fs g ≡ gps_to_utc es g
  gps_same g l = go (ltb (tai g) (2 ^ 64))
    where
      go : (fits : Bool) → let o = cond fits (answered (tai g)) (refused 1) in
          then o (λ t. utc_at_offset (offset_at fs t) g) ≡ then o (λ t. utc_at_offset (offset_at es t) g)
      go true = ap (λ (n : ℤ). utc_at_offset n g) (kept (tai g) l)
      go false = refl

  module _ (u : ℕ) (fits : u < 2 ^ 64) (l : u + (19 + length es) * second < threshold e + E + second) where
    f : LeapSeconds es k
    f = counted es r

    first_below : first_reading u < threshold e
    first_below = reading-below 0 u (19 * second) (threshold e) late (omega (arith, few_later es r 0)) fits (omega arith)

    last-below : last_reading es u < threshold e
    last-below =
        let x = first_reading u in
        rw (in_force_lem f x)
        (reading-below x u ((19 + k x) * second) (threshold e) first_below (omega (arith, few_later es r x)) fits
        (omega (arith, f.few x)))

    same_reading : last_reading fs u ≡ last_reading es u
    same_reading = ap (λ (n : ℤ). second_reading u n (first_reading u)) (kept (first_reading u) first_below)

    pub utc_same : utc_to_gps fs u ≡ utc_to_gps es u
    utc_same =
        ap (λ (x : ℕ). gps_at_offset (offset_at fs x) u) same_reading
        ∙ ap (λ (n : ℤ). gps_at_offset n u) (kept (last_reading es u) last-below)

  pub same_before_lem : SameByLists (gps_from e) (utc_from e) es fs
  same_before_lem = record {
    to_utc = λ g fits l. gps_same g (gps_below e g l);
    to_gps = λ u fits l. utc_same u fits (utc-below e (19 + length es) u o l);
  }

-- ---- from the bounds on, where the list that follows is regular, too
pub natural : (n a b : ℕ) → pos n ≡ sub_ℕ a b → n + b ≡ a
natural n a b =
    by_order (λ z. pos n ≡ z → n + b ≡ a) a b (λ l h. let c : ◌≡◌ {A = ℕ} 0 1 = cc in absurd (omega arith))
    (λ l h. let is : n ≡ a - b = cc in omega arith)

-- from its threshold on an entry counts
counts : (t x m n : ℕ) → t ≤ x → n ≡ m + (1 - (t - x)) → n ≡ m + 1
counts t x m n l is = omega arith

module _ (es : List Entry) (e : Entry) (rest : List Entry) (r : regular es ≡ true) (r' : regular (es ++ e ∷ rest) ≡ true) where
  abbrev longer : List Entry
  longer = es ++ e ∷ rest

  abbrev later : List Entry
  later = drop 1 es

  all : length es ≡ length later + 1
  all = ap length (list.of-regular es r).begins_with ∙ omega arith

  later_is : drop 1 longer ≡ later ++ e ∷ rest
  later_is = ap (λ (xs : List Entry). drop 1 (xs ++ e ∷ rest)) (list.of-regular es r).begins_with

  abbrev whole : list.Regular longer
  whole = list.of-regular longer r'

  placed : Within whole.first later e rest
  placed = within whole.first later e rest (subst (Chain whole.first) later_is whole.later)

  pub a_day_in : day ≤ threshold e
  a_day_in = omega (arith, placed.after_first)

  pub offset_is : offset e ≡ pos (19 + length es)
  offset_is = placed.offset_is 19 whole.is_19 ∙ ap pos (omega (arith, all))

  abbrev k₁ : ℕ → ℕ
  k₁ = leaps es

  abbrev k₂ : ℕ → ℕ
  k₂ = leaps longer

  -- no entry is past e yet
  abbrev Next : ℕ → Type 0
  Next t = reached rest t ≡ 0

  more : (t : ℕ) → Next t → k₂ t ≡ k₁ t + (1 - (threshold e - t))
  unfolding leaps
  more t none = ap (λ (xs : List Entry). reached xs t) later_is ∙ one_more later e rest t none

  pub for_a_day : (t : ℕ) → t < threshold e + day → Next t
  for_a_day t l = none_within_a_day e rest t placed.goes_on l

  all-reached : k₁ (threshold e) ≡ length later
  unfolding leaps
  all-reached = placed.all-before

  f₁ : LeapSeconds es k₁
  f₁ = counted es r

  f₂ : LeapSeconds longer k₂
  f₂ = counted longer r'

  pub gps_changes : (g u : ℕ) → threshold e ≤ tai g → Next (tai g) → gps_to_utc es g ≡ answered u
      → (v : ℕ) × (u ≡ v + second) × (gps_to_utc longer g ≡ answered v)
  gps_changes g u past none there =
      let x = from_gps es k₁ f₁ g u there in
      let step : k₂ (tai g) ≡ k₁ (tai g) + 1 = counts (threshold e) (tai g) (k₁ (tai g)) (k₂ (tai g)) past (more (tai g) none) in
      let few = f₁.few (tai g) in
      let exact = x.exact in
      let y : Reads longer k₂ f₂ g (u - second) =
      record { tai_fits = x.tai_fits; utc_fits = omega (arith, x.utc_fits); exact = omega arith } in
      (u - second, omega arith, to_utc longer k₂ f₂ g (u - second) y)

  -- as many seconds before its threshold as there are later entries, all of them are reached
  early : k₁ (threshold e - length later * second) ≡ length later
  early =
      let t = threshold e in
      let x = t - length later * second in
      let day_in = a_day_in in
      let reached-all = all-reached in
      let few = f₁.few t in
      let of-x = more x (for_a_day x (omega arith)) in
      let of-t = more t (for_a_day t (omega arith)) in
      let up = f₁.rises x t (omega arith) in
      let one = f₂.one_in_a_day x t (omega arith) in
      omega arith

  -- and so they are from there on
  all_past : (x : ℕ) → threshold e ≤ x + length later * second → k₁ x ≡ length later
  all_past x l =
      let None-more = few_later es r x in
      let many = all in
      let at_least_lem = f₁.rises (threshold e - length later * second) x (omega arith) in
      omega (arith, early)

  pub utc_changes : (u g : ℕ) → threshold e + E + second ≤ u + (19 + length es) * second → u < 2 ^ 64
      → ((t : ℕ) → t ≤ tai (u - E) + (length later + 1) * second → Next t)
      → utc_to_gps es u ≡ answered g → utc_to_gps longer u ≡ answered (g + second)
  utc_changes u g l fits none back =
      let t = threshold e in
      let x = tai (u - E) in
      let y = b longer k₂ f₂ u in
      let day_in = a_day_in in
      let many = all in
      let few = f₁.few x in
      let late : t ≤ x + length later * second = omega arith in
      let first : k₁ x ≡ length later = all_past x late in
      let old : k₁ (b es k₁ f₁ u) ≡ length later = all_past (b es k₁ f₁ u) (omega arith) in
      let of-x = more x (none x (omega arith)) in
      let past : t ≤ y = omega arith in
      let new : k₂ y ≡ length later + 1
      = counts t y (k₁ y) (k₂ y) past (more y (none y (omega arith))) ∙ ap (λ (n : ℕ). n + 1) (all_past y (omega arith)) in
      let is = one_answer (utc_to_gps es u) (from-E es k₁ f₁ u (omega arith) fits) back in
      from-E longer k₂ f₂ u (omega arith) fits ∙ ap answered (omega arith)

  -- at the bounds themselves, whatever follows
  pub gps_at_bound : (g u : ℕ) → pos g ≡ gps_from e → gps_to_utc es g ≡ answered u
      → (v : ℕ) × (u ≡ v + second) × (gps_to_utc longer g ≡ answered v)
  gps_at_bound g u at =
      let here : tai g ≡ threshold e = natural g (threshold e) tai_minus_gps (at ∙ gps_from_lem e) in
      gps_changes g u (omega arith) (for_a_day (tai g) (omega arith))

  pub utc_at_bound : (u g : ℕ) → pos u ≡ utc_from e → u < 2 ^ 64 → utc_to_gps es u ≡ answered g
      → utc_to_gps longer u ≡ answered (g + second)
  utc_at_bound u g at fits =
      let many = all in
      let day_in = a_day_in in
      let few = f₁.few (threshold e) in
      let reached-all = all-reached in
      let here = natural u (threshold e + E + second) ((19 + length es) * second) (at ∙ utc-from e (19 + length es) offset_is) in
      utc_changes u g (omega arith) fits (λ t l. for_a_day t (omega arith))

-- ---- the last entry of all
module _ (es : List Entry) (e : Entry) (r : regular es ≡ true) (r' : regular (es ++ e ∷ []) ≡ true) where
  last : (t : ℕ) → reached [] t ≡ 0
  unfolding reached
  last t = refl

  pub changes_from : ChangesByLists (gps_from e) (utc_from e) es (es ++ e ∷ [])
  changes_from = record {
    to_utc = λ g u l. gps_changes es e [] r r' g u (not_below_gps e g l) (last (tai g));
    to_gps = λ u g fits l.
        utc_changes es e [] r r' u g (not_below_utc e (19 + length es) u (offset_is es e [] r r') l) fits (λ t n. last t);
  }
