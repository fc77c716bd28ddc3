-- What is proved of lists, of the calls by a table: by their contracts they answer what the lists say, and a run of
-- extensions of a table is a run of entries joined to its list.
use mathlib.Core.Path.{◌≡◌, refl, sym, ap, ◌∙◌, subst}
use mathlib.Core.Bool.{Bool, true, false, cond}
use mathlib.Core.List.{List, [], ◌∷◌, ◌++◌}
use Prim.Native.Nat.{ℕ, ◌^◌, ◌<◌}
use borrow.Author.Tests.{eqb-true}
use lib.Dec.{eqb}
use lib.IntN.{ℤ}
use Rattle.refusals.specs.Outcome.{Outcome}
use Rattle.tables.specs.Entries.{Entry, join_refusal}
use Rattle.tables.specs.Slots.{entries_of, valid_table, of_valid, joined_to, extension_refusal, extended}
use Rattle.tables.specs.declared.LeapTable.{LeapTable}
use Rattle.tables.proofs.Checked.{good}
use Rattle.tables.proofs.Extensions.{Sized, Grows, extension_grows, made_sized, joined-sized}
use Rattle.images.specs.Image.{table_in}
use Rattle.images.proofs.InSlots.{table_sized}
use Rattle.conversions.specs.Conversions.{gps_to_utc, utc_to_gps}
use Rattle.demands.specs.OfCalls.{Regular}
use Rattle.pushing.specs.SameBefore.{gps_from, utc_from, SameBefore, SameByLists}
use Rattle.pushing.specs.AddedEntries.{after, joined}
use Rattle.pushing.specs.AlikeLists.{AlikeBefore}
use Rattle.pushing.specs.OfAdded.{OfAnswers, AddedOfCalls}
use Rattle.demands.proofs.Demand3.{regular-valid, value_to_utc, value_to_gps, image_to_utc, image_to_gps, host_to_utc, host_to_gps}
use Rattle.pushing.proofs.AddedEntries.{added_entries}

-- two ways to convert, and what answers as they do on counts of 64 bits
module _ {there there' back back' f f' g g' : ℕ → Outcome ℕ} (a : (n : ℕ) → n < 2 ^ 64 → there n ≡ f n)
    (a' : (n : ℕ) → n < 2 ^ 64 → there' n ≡ f' n) (b : (n : ℕ) → n < 2 ^ 64 → back n ≡ g n)
    (b' : (n : ℕ) → n < 2 ^ 64 → back' n ≡ g' n) {gps utc : ℤ} where
  pub same_of : SameBefore gps utc f f' g g' → SameBefore gps utc there there' back back'
  same_of s = record {
    to_utc = λ n l m. a' n l ∙ s.to_utc n l m ∙ sym (a n l);
    to_gps = λ n l m. b' n l ∙ s.to_gps n l m ∙ sym (b n l);
  }

  pub alike_of : AlikeBefore gps utc f f' g g' → AlikeBefore gps utc there there' back back'
  alike_of s = record {
    same = same_of s.same;
    gps_differs = λ n u at l x y. s.gps_differs n u at l (sym (a n l) ∙ x) (sym (a' n l) ∙ y);
    utc_differs = λ n u at l x y. s.utc_differs n u at l (sym (b n l) ∙ x) (sym (b' n l) ∙ y);
  }

-- ---- a run of extensions
after_run : (t : LeapTable) (run : List Entry) → Sized t → valid_table t ≡ true
    → (entries_of (after extended t run) ≡ after joined (entries_of t) run) × (valid_table (after extended t run) ≡ true)
unfolding after
after_run t [] s v = (refl, v)
after_run t (e ∷ run) s v =
    go (eqb (extension_refusal t e) 0) refl (after_run t run s v)
    (λ s' v'. after_run (joined_to t e) run s' v')
  where
    Left : LeapTable → List Entry → Type 0
    Left t' es =
        (entries_of (after extended t' run) ≡ after joined es run) × (valid_table (after extended t' run) ≡ true)

    -- one test for the table and for its list
    same_test : extension_refusal t e ≡ join_refusal (entries_of t) e
    same_test = rw v

    go : (b : Bool) → eqb (extension_refusal t e) 0 ≡ b → Left t (entries_of t)
        → (Sized (joined_to t e) → valid_table (joined_to t e) ≡ true → Left (joined_to t e) (entries_of (joined_to t e)))
        → Left (cond (eqb (extension_refusal t e) 0) (joined_to t e) t)
        (cond (eqb (join_refusal (entries_of t) e) 0) (entries_of t ++ e ∷ []) (entries_of t))
    go true h kept grown =
        let z = eqb-true (extension_refusal t e) 0 h in
        let is : (extended t e).1 ≡ joined_to t e = rw h in
        let w : Grows t e (joined_to t e) = subst (Grows t e) is (extension_grows t e s z) in
        rw (h, sym (ap (λ (k : ℕ). eqb k 0) same_test) ∙ h, sym w.list) (grown (joined-sized t e s) w.valid)
    go false h kept grown = rw (h, sym (ap (λ (k : ℕ). eqb k 0) same_test) ∙ h) kept

-- an entry that a regular table takes, and a run after it
module _ (t t' : LeapTable) (e : Entry) (run : List Entry) (s : Sized t) (r : Regular t) (z : extension_refusal t e ≡ 0)
    (is : t' ≡ after extended t (e ∷ run)) where
  v : valid_table t ≡ true
  v = regular-valid t r

  v' : valid_table t' ≡ true
  v' = ap valid_table is ∙ (after_run t (e ∷ run) s v).1

  by_lists : SameByLists (gps_from e) (utc_from e) (entries_of t) (entries_of t')
  by_lists =
      subst (SameByLists (gps_from e) (utc_from e) (entries_of t))
      (sym (ap entries_of is ∙ (after_run t (e ∷ run) s v).0))
      (added_entries.same (entries_of t) e run r.1 (rw v at z))

  of_tables : {There There' Back Back' : ℕ → Outcome ℕ → Type 0}
      → ((n : ℕ) (o : Outcome ℕ) → There n o → o ≡ of_valid t (gps_to_utc (entries_of t) n))
      → ((n : ℕ) (o : Outcome ℕ) → There' n o → o ≡ of_valid t' (gps_to_utc (entries_of t') n))
      → ((n : ℕ) (o : Outcome ℕ) → Back n o → o ≡ of_valid t (utc_to_gps (entries_of t) n))
      → ((n : ℕ) (o : Outcome ℕ) → Back' n o → o ≡ of_valid t' (utc_to_gps (entries_of t') n))
      → OfAnswers There There' Back Back' (SameBefore (gps_from e) (utc_from e))
  of_tables a a' b b' there there' back back' h h' k k' =
      same_of {f = gps_to_utc (entries_of t)} {f' = gps_to_utc (entries_of t')} {g = utc_to_gps (entries_of t)} {g' = utc_to_gps (entries_of t')}
      (λ n l. a n (there n) (h n l) ∙ sym (good t _ v)) (λ n l. a' n (there' n) (h' n l) ∙ sym (good t' _ v'))
      (λ n l. b n (back n) (k n l) ∙ sym (good t _ v)) (λ n l. b' n (back' n) (k' n l) ∙ sym (good t' _ v'))
      by_lists

pub added_of_calls : AddedOfCalls
added_of_calls = record {
  slots = λ es few. let s = made_sized es few in (s.thresholds, s.offsets);
  by_value = λ t e run (h, h') r z.
      let t' = after extended t (e ∷ run) in
      of_tables t t' e run (record { thresholds = h; offsets = h' }) r z refl
      (value_to_utc t) (value_to_utc t') (value_to_gps t) (value_to_gps t');
  in_place = λ b b' e run size size' r z is.
      of_tables (table_in b) (table_in b') e run (table_sized b) r z is
      (image_to_utc b size) (image_to_utc b' size') (image_to_gps b size) (image_to_gps b' size');
  exported = λ b b' e run size size' r z is.
      of_tables (table_in b) (table_in b') e run (table_sized b) r z is
      (host_to_utc b size) (host_to_utc b' size') (host_to_gps b size) (host_to_gps b' size');
}
