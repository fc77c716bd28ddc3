-- Demand 3: by their contracts the calls of a pair answer what `gps_to_utc` and `utc_to_gps` say, and WayBack.antt proves
-- it of these. specs/OfCalls.antt names the pairs, specs/TwoInstants.antt says what is proved.
use mathlib.Core.Path.{◌≡◌, refl, sym, ap, ◌∙◌}
use mathlib.Core.Bool.{Bool, true}
use mathlib.Core.List.{List}
use Prim.Native.Nat.{ℕ, ◌+◌}
use native.Mathlib.Omega.{arith}
use borrow.Author.Tests.{le-leb}
use lib.ListN.{length}
use Rattle.refusals.specs.Outcome.{Outcome, answered, refused, value_in, Gives, then, unless, outcome_in}
use Rattle.refusals.proofs.Given.{Numbered, gives_same, told_is}
use Rattle.scales.specs.Answers.{gps_in, utc_in}
use Rattle.scales.specs.Scales.{tai_minus_gps}
use Rattle.tables.specs.Entries.{Entry, regular}
use Rattle.tables.specs.Slots.{entries_of, valid_table, of_valid}
use Rattle.tables.specs.Expiry.{stale_at, by_table}
use Rattle.tables.specs.declared.LeapTable.{LeapTable}
use Rattle.tables.proofs.Checked.{good}
use Rattle.tables.proofs.Tested.{valid_tested, regular_tested}
use Rattle.images.specs.Image.{image_bytes, table_in, by_image, dated_by_image}
use Rattle.images.proofs.Whole.{of_size}
use Rattle.conversions.specs.Conversions.{gps_to_utc, last_reading, utc_to_gps}
use Rattle.conversions.proofs.Dated.{answer_is}
use Rattle.plaitgate.specs.Tables.{Dated, dated_as, with_stale}
use Rattle.builtin.specs.Builtin.{builtin}
use Rattle.builtin.proofs.Regular.{builtin-regular}
use Rattle.demands.specs.TwoInstants.{TwoInstants}
use Rattle.demands.specs.OfCalls.{Allows, TwoInstantsOf, Regular, Demand3}
use Rattle.demands.specs.OfCalls.{ToUtcByValue, ToGpsByValue, ToUtcInPlace, ToGpsInPlace, ToUtcExported, ToGpsExported}
use Rattle.demands.proofs.AnswerOrRefusal.{to_utc_numbered, to_gps_numbered, by_image_numbered}
use Rattle.conversions.proofs.LeapSeconds.{leaps, counted}
use Rattle.demands.proofs.SameAnswers.{kept}
use Rattle.demands.proofs.WayBack.{two_instants}

pub by_regular_lists : (es : List Entry) → regular es ≡ true → TwoInstants es tai_minus_gps 0 (gps_to_utc es) (utc_to_gps es)
by_regular_lists es r = two_instants es (leaps es) (counted es r)

-- two calls that answer as two definitions do
module _ (es : List Entry) (lead : ℕ) {f g : ℕ → Outcome ℕ} (t : TwoInstants es lead 0 f g) where
  pub of_pair : {There Back : ℕ → Outcome ℕ → Type 0} → ((n : ℕ) (o : Outcome ℕ) → There n o → o ≡ f n)
      → ((u : ℕ) (o : Outcome ℕ) → Back u o → o ≡ g u) → TwoInstantsOf es lead There Back
  of_pair to from there back a b = kept es lead 0 (λ n l. to n (there n) (a n l)) (λ u l. from u (back u) (b u l)) t

module _ {Lifetimes : Type 0} {Arguments Answer End : Lifetimes → Type 0}
    {Contract : (κ : Lifetimes) → Arguments κ → Answer κ → End κ → Type 0}
    {Asks : (κ : Lifetimes) → Arguments κ → Type 0} {A : Type 0} {tells : (κ : Lifetimes) → Answer κ → End κ → Outcome A} where
  -- a contract that says d of an input allows nothing else
  pub allowed : (d : Outcome A)
      → ((κ : Lifetimes) (a : Arguments κ) (r : Answer κ) (e : End κ) → Asks κ a → Contract κ a r e → tells κ r e ≡ d)
      → (o : Outcome A) → Allows Contract Asks tells o → o ≡ d
  allowed d says o (κ, a, r, e, asks, holds, tells) = sym tells ∙ says κ a r e asks holds

-- the same by a regular table, which is valid: no 8 comes first
pub regular-valid : (t : LeapTable) → Regular t → valid_table t ≡ true
regular-valid t r =
    rw (le-leb t.len 64 (omega (arith, r.0)))
    ((valid_tested (entries_of t)).1 ((regular_tested (entries_of t)).0 r.1).valid)

module _ (t : LeapTable) (r : Regular t) (lead : ℕ) {f g : ℕ → Outcome ℕ} (i : TwoInstants (entries_of t) lead 0 f g) where
  pub of_table : {There Back : ℕ → Outcome ℕ → Type 0} → ((n : ℕ) (o : Outcome ℕ) → There n o → o ≡ of_valid t (f n))
      → ((u : ℕ) (o : Outcome ℕ) → Back u o → o ≡ of_valid t (g u)) → TwoInstantsOf (entries_of t) lead There Back
  of_table to from =
      of_pair (entries_of t) lead i
      (λ n o a. to n o a ∙ sym (good t _ (regular-valid t r)))
      (λ u o a. from u o a ∙ sym (good t _ (regular-valid t r)))

-- what a call by a table answers, whatever it tells of the expiry
pub by_table_lem : {A : Type 0} (t : LeapTable) (tai : ℕ) (o : Outcome A) {x : Outcome A × Bool} → x ≡ by_table t tai o
    → x.0 ≡ of_valid t o
by_table_lem t tai o = answer_is (stale_at t.expiry tai) (of_valid t o)

pub by_bytes : {A : Type 0} (b : List ℕ) (tai : List Entry → ℕ) (answer : List Entry → Outcome A) {x : Outcome A × Bool}
    → x ≡ dated_by_image b tai answer → x.0 ≡ by_image b answer
by_bytes b tai answer = answer_is (stale_at (table_in b).expiry (tai (entries_of (table_in b)))) (by_image b answer)

-- what a host is given of it
value-given : {A : Type 0} (zeros : A) (x : Outcome A × Bool) {k s : ℕ} {v : A}
    → Gives (dated_as zeros 0) (with_stale x) k (dated_as v s) → Gives zeros x.0 k v
value-given {A} zeros (answered a, stale) (number, value) = (number, ap (λ (d : Dated A). d.value) value)
value-given {A} zeros (refused j, stale) (number, value) = (number, ap (λ (d : Dated A). d.value) value)

-- what the table in an image b answers for n
module _ {A B : Type 0} (convert : List Entry → B → Outcome A) {b : List ℕ} (size : length b ≡ image_bytes) {n : B} where
  pub of_image : {b' : List ℕ} {m : B} → (m ≡ n) × (b' ≡ b)
      → by_image b' (λ es. convert es m) ≡ of_valid (table_in b) (convert (entries_of (table_in b)) n)
  of_image (p, q) = (λ i. by_image (q i) (λ es. convert es (p i))) ∙ sym (of_size b _ _ size)

  -- a host reads it off the number and the value
  pub as_told_lem : (zeros : A) (tai : List Entry → B → ℕ) → ((es : List Entry) (m : B) → Numbered (convert es m))
      → {b' : List ℕ} {m : B} {k s : ℕ} {v : A} → (m ≡ n) × (b' ≡ b)
      → Gives (dated_as zeros 0) (with_stale (dated_by_image b' (λ es. tai es m) (λ es. convert es m))) k (dated_as v s)
      → unless k v ≡ of_valid (table_in b) (convert (entries_of (table_in b)) n)
  as_told_lem zeros tai numbered {b'} {m} asked p =
      let whole = dated_by_image b' (λ es. tai es m) (λ es. convert es m) in
      let given = gives_same zeros (by_bytes b' (λ es. tai es m) (λ es. convert es m) refl) (value-given zeros whole p) in
      told_is zeros _ (by_image_numbered b' (λ es. convert es m) (λ es. numbered es m)) given ∙ of_image asked

-- ---- each call by a table, as its contract says
pub value_to_utc : (t : LeapTable) (g : ℕ) (o : Outcome ℕ) → ToUtcByValue t g o → o ≡ of_valid t (gps_to_utc (entries_of t) g)
value_to_utc t g = allowed _ (λ κ a x e q (d, is, p).
    ap utc_in (sym is) ∙ by_table_lem a.1.0 (a.0.0 + tai_minus_gps) (gps_to_utc (entries_of a.1.0) a.0.0) p
    ∙ (λ i. of_valid (q.1 i) (gps_to_utc (entries_of (q.1 i)) (q.0 i))))

pub value_to_gps : (t : LeapTable) (u : ℕ) (o : Outcome ℕ) → ToGpsByValue t u o → o ≡ of_valid t (utc_to_gps (entries_of t) u)
value_to_gps t u = allowed _ (λ κ a x e q (d, is, p).
    ap gps_in (sym is) ∙ by_table_lem a.1.0 (last_reading (entries_of a.1.0) a.0.0) (utc_to_gps (entries_of a.1.0) a.0.0) p
    ∙ (λ i. of_valid (q.1 i) (utc_to_gps (entries_of (q.1 i)) (q.0 i))))

module _ (b : List ℕ) (size : length b ≡ image_bytes) where
  abbrev t : LeapTable
  t = table_in b

  pub image_to_utc : (g : ℕ) (o : Outcome ℕ) → ToUtcInPlace b g o → o ≡ of_valid t (gps_to_utc (entries_of t) g)
  image_to_utc g = allowed _ (λ κ a r e q (d, is, p).
      ap outcome_in (sym is) ∙ by_bytes a.1.0.now (λ es. value_in 0 (outcome_in a.0) + tai_minus_gps) (λ es. then (outcome_in a.0) (gps_to_utc es)) p
      ∙ (λ i. by_image a.1.0.now (λ es. then (outcome_in (q.0 i)) (gps_to_utc es)))
      ∙ of_image gps_to_utc size {n = g} (refl, q.1))

  pub image_to_gps : (u : ℕ) (o : Outcome ℕ) → ToGpsInPlace b u o → o ≡ of_valid t (utc_to_gps (entries_of t) u)
  image_to_gps u = allowed _ (λ κ a r e q (d, is, p).
      ap outcome_in (sym is) ∙ by_bytes a.1.0.now (λ es. last_reading es (value_in 0 (outcome_in a.0))) (λ es. then (outcome_in a.0) (utc_to_gps es)) p
      ∙ (λ i. by_image a.1.0.now (λ es. then (outcome_in (q.0 i)) (utc_to_gps es)))
      ∙ of_image utc_to_gps size {n = u} (refl, q.1))

  pub host_to_utc : (g : ℕ) (o : Outcome ℕ) → ToUtcExported b g o → o ≡ of_valid t (gps_to_utc (entries_of t) g)
  host_to_utc g = allowed _ (λ κ a k e q p. as_told_lem gps_to_utc size 0 (λ es g. g + tai_minus_gps) to_utc_numbered q p)

  pub host_to_gps : (u : ℕ) (o : Outcome ℕ) → ToGpsExported b u o → o ≡ of_valid t (utc_to_gps (entries_of t) u)
  host_to_gps u = allowed _ (λ κ a k e q p. as_told_lem utc_to_gps size 0 last_reading to_gps_numbered q p)

pub demand_3 : Demand3
demand_3 = record {
  by_value = λ t r.
      of_table t r tai_minus_gps (by_regular_lists (entries_of t) r.1) (value_to_utc t) (value_to_gps t);
  in_place = λ b size r.
      of_table (table_in b) r tai_minus_gps (by_regular_lists (entries_of (table_in b)) r.1) (image_to_utc b size) (image_to_gps b size);
  built_in =
      of_pair builtin tai_minus_gps (by_regular_lists builtin builtin-regular)
      (λ g. allowed _ (λ κ a r e q p. p ∙ ap (gps_to_utc builtin) q))
      (λ u. allowed _ (λ κ a r e q p. p ∙ ap (utc_to_gps builtin) q));
  exported = λ b size r.
      of_table (table_in b) r tai_minus_gps (by_regular_lists (entries_of (table_in b)) r.1) (host_to_utc b size) (host_to_gps b size);
  exported_built_in =
      of_pair builtin tai_minus_gps (by_regular_lists builtin builtin-regular)
      (λ g. allowed _ (λ κ a k e q p. told_is 0 _ (to_utc_numbered builtin a.0) p ∙ ap (gps_to_utc builtin) q))
      (λ u. allowed _ (λ κ a k e q p. told_is 0 _ (to_gps_numbered builtin a.0) p ∙ ap (utc_to_gps builtin) q));
}
