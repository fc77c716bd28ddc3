-- Civil readings of calls: by their contracts they answer what `gps_to_civil` and `civil_to_gps` say, and CivilReadings.antt
-- proves it of these. specs/OfReadings.antt names the pairs, specs/CivilReadings.antt says what is proved.
use mathlib.Core.Path.{◌≡◌, sym, ap, ◌∙◌}
use mathlib.Core.Bool.{true}
use mathlib.Core.List.{List}
use Prim.Native.Nat.{ℕ, ◌+◌}
use lib.IntN.{pos}
use Rattle.refusals.specs.Outcome.{Outcome, value_in, outcome_in}
use Rattle.refusals.proofs.Given.{told_is}
use Rattle.scales.specs.Scales.{tai_minus_gps}
use Rattle.civil.specs.Fields.{fields}
use Rattle.civil.specs.declared.CivilDateTime.{CivilDateTime}
use Rattle.tables.specs.Entries.{Entry, on_days}
use Rattle.tables.specs.Slots.{entries_of, valid_table, of_valid}
use Rattle.tables.specs.declared.LeapTable.{LeapTable}
use Rattle.tables.proofs.Checked.{good}
use Rattle.images.specs.Image.{table_in}
use Rattle.builtin.specs.Builtin.{builtin}
use Rattle.builtin.proofs.Regular.{builtin_on_days}
use Rattle.readings.specs.Readings.{gps_to_civil, civil_to_gps}
use Rattle.readings.proofs.LaterEntries.{both_tests}
use Rattle.demands.specs.OfReadings.{CivilReadingsOf, OnDays, ReadingCalls}
use Rattle.demands.proofs.Demand3.{allowed, regular-valid, by_bytes, of_image, as_told_lem}
use Rattle.demands.proofs.AnswerOrRefusal.{gps_to_civil_numbered, civil_to_gps_numbered}
use Rattle.demands.proofs.CivilReadings.{over_list}
use Rattle.demands.proofs.SameReadings.{kept}

-- two calls that answer as the definitions do
of_pair : (es : List Entry) → on_days es ≡ true → {There : ℕ → Outcome CivilDateTime → Type 0}
    {Back : CivilDateTime → Outcome ℕ → Type 0} → ((g : ℕ) (o : Outcome CivilDateTime) → There g o → o ≡ gps_to_civil es g)
    → ((c : CivilDateTime) (o : Outcome ℕ) → Back c o → o ≡ civil_to_gps es c) → CivilReadingsOf es There Back
of_pair es d to from there back a b = kept es (λ g l. to g (there g) (a g l)) (λ c. from c (back c) (b c)) (over_list es d)

-- the same by a table, which is valid: no 8 comes first
of_table : (t : LeapTable) → OnDays t → {There : ℕ → Outcome CivilDateTime → Type 0}
    {Back : CivilDateTime → Outcome ℕ → Type 0}
    → ((g : ℕ) (o : Outcome CivilDateTime) → There g o → o ≡ of_valid t (gps_to_civil (entries_of t) g))
    → ((c : CivilDateTime) (o : Outcome ℕ) → Back c o → o ≡ of_valid t (civil_to_gps (entries_of t) c))
    → CivilReadingsOf (entries_of t) There Back
of_table t on to from =
    let is_valid : valid_table t ≡ true = regular-valid t (on.0, (both_tests (entries_of t) on.1).0) in
    of_pair (entries_of t) on.1
    (λ g o a. to g o a ∙ sym (good t _ is_valid))
    (λ c o a. from c o a ∙ sym (good t _ is_valid))

abbrev no_fields : CivilDateTime
no_fields = fields (pos 0) 0 0 0 0 0 0

pub reading_calls : ReadingCalls
reading_calls = record {
  in_place = λ b size on.
      of_table (table_in b) on
      (λ g. allowed _ (λ κ a x e q (d, is, p).
      ap outcome_in (sym is) ∙ by_bytes a.1.0.now (λ es. a.0.0 + tai_minus_gps) (λ es. gps_to_civil es a.0.0) p
      ∙ of_image gps_to_civil size {n = g} q))
      (λ c. allowed _ (λ κ a x e q (d, is, p).
      ap outcome_in (sym is)
      ∙ by_bytes a.1.0.now (λ es. value_in 0 (civil_to_gps es a.0) + tai_minus_gps) (λ es. civil_to_gps es a.0) p
      ∙ of_image civil_to_gps size {n = c} q));
  built_in =
      of_pair builtin builtin_on_days
      (λ g. allowed _ (λ κ a r e q p. p ∙ ap (gps_to_civil builtin) q))
      (λ c. allowed _ (λ κ a r e q p. p ∙ ap (civil_to_gps builtin) q));
  exported = λ b size on.
      of_table (table_in b) on
      (λ g. allowed _ (λ κ a k e q p. as_told_lem gps_to_civil size no_fields (λ es g. g + tai_minus_gps) gps_to_civil_numbered q p))
      (λ c. allowed _ (λ κ a k e q p.
      as_told_lem civil_to_gps size 0 (λ es c. value_in 0 (civil_to_gps es c) + tai_minus_gps) civil_to_gps_numbered q p));
  exported_built_in =
      of_pair builtin builtin_on_days
      (λ g. allowed _ (λ κ a k e q p.
      told_is no_fields _ (gps_to_civil_numbered builtin a.0) p ∙ ap (gps_to_civil builtin) q))
      (λ c. allowed _ (λ κ a k e q p.
      let b = a.1.1.1 in
      let given = fields a.0 a.1.0 a.1.1.0 b.0 b.1.0 b.1.1.0 b.1.1.1.0 in
      told_is 0 _ (civil_to_gps_numbered builtin given) p ∙ ap (civil_to_gps builtin) q));
}
