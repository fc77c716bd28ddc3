-- Written by tools/write-scales from its template in tools/templates.
-- Demand 3 of the calls between UTC and a scale at a fixed difference: by their contracts they answer what
-- `shifted_to_utc` and `utc_to_shifted` say, and Shifted.antt proves it of these for any difference.
use mathlib.Core.Path.{refl, sym, ap, ◌∙◌}
use Prim.Native.Nat.{◌+◌}
use Rattle.refusals.specs.Outcome.{value_in, then, outcome_in}
use Rattle.refusals.proofs.Given.{told_is}
use Rattle.scales.specs.Answers.{utc_in, galileo_in, beidou_in}
use Rattle.scales.specs.Scales.{tai_minus_gps, gps_minus_galileo, gps_minus_beidou}
use Rattle.tables.specs.Slots.{entries_of, of_valid}
use Rattle.images.specs.Image.{table_in, by_image}
use Rattle.conversions.specs.Shifted.{shifted_to_utc, utc_to_shifted, shifted_reading}
use Rattle.builtin.specs.Builtin.{builtin}
use Rattle.builtin.proofs.Regular.{builtin-regular}
use Rattle.demands.specs.OfShifted.{Demand3Shifted}
use Rattle.demands.proofs.AnswerOrRefusal.{shifted_to_utc_numbered, utc_to_shifted_numbered}
use Rattle.demands.proofs.Demand3.{of_pair, of_table, by_table_lem, by_bytes, allowed, of_image, as_told_lem}
use Rattle.demands.proofs.Shifted.{shifted_instants}

pub demand_3_shifted : Demand3Shifted
demand_3_shifted = record {
  in_place = λ d b size r.
      of_table (table_in b) r (tai_minus_gps + d) (shifted_instants (entries_of (table_in b)) r.1 d)
      (λ n. allowed _ (λ κ a x e q (r, is, p).
      ap outcome_in (sym is) ∙ by_bytes a.1.0.now (λ es. value_in 0 (outcome_in a.0) + a.1.1.0 + tai_minus_gps)
      (λ es. then (outcome_in a.0) (shifted_to_utc a.1.1.0 es)) p
      ∙ (λ i. by_image a.1.0.now (λ es. then (outcome_in (q.0 i)) (shifted_to_utc (q.2 i) es)))
      ∙ of_image (shifted_to_utc d) size {n = n} (refl, q.1)))
      (λ u. allowed _ (λ κ a x e q (r, is, p).
      ap outcome_in (sym is) ∙ by_bytes a.1.0.now (λ es. shifted_reading a.1.1.0 es (value_in 0 (outcome_in a.0)))
      (λ es. then (outcome_in a.0) (utc_to_shifted a.1.1.0 es)) p
      ∙ (λ i. by_image a.1.0.now (λ es. then (outcome_in (q.0 i)) (utc_to_shifted (q.2 i) es)))
      ∙ of_image (utc_to_shifted d) size {n = u} (refl, q.1)));
  galileo_by_value = λ t r.
      of_table t r (tai_minus_gps + gps_minus_galileo) (shifted_instants (entries_of t) r.1 gps_minus_galileo)
      (λ n. allowed _ (λ κ a x e q (d, is, p).
      ap utc_in (sym is) ∙ by_table_lem a.1.0 (a.0.0 + gps_minus_galileo + tai_minus_gps)
      (shifted_to_utc gps_minus_galileo (entries_of a.1.0) a.0.0) p
      ∙ (λ i. of_valid (q.1 i) (shifted_to_utc gps_minus_galileo (entries_of (q.1 i)) (q.0 i)))))
      (λ u. allowed _ (λ κ a x e q (d, is, p).
      ap galileo_in (sym is) ∙ by_table_lem a.1.0 (shifted_reading gps_minus_galileo (entries_of a.1.0) a.0.0)
      (utc_to_shifted gps_minus_galileo (entries_of a.1.0) a.0.0) p
      ∙ (λ i. of_valid (q.1 i) (utc_to_shifted gps_minus_galileo (entries_of (q.1 i)) (q.0 i)))));
  galileo_built_in =
      of_pair builtin (tai_minus_gps + gps_minus_galileo) (shifted_instants builtin builtin-regular gps_minus_galileo)
      (λ n. allowed _ (λ κ a x e q p. p ∙ ap (shifted_to_utc gps_minus_galileo builtin) q))
      (λ u. allowed _ (λ κ a x e q p. p ∙ ap (utc_to_shifted gps_minus_galileo builtin) q));
  galileo_exported = λ b size r.
      of_table (table_in b) r (tai_minus_gps + gps_minus_galileo)
      (shifted_instants (entries_of (table_in b)) r.1 gps_minus_galileo)
      (λ n. allowed _ (λ κ a k e q p.
      as_told_lem (shifted_to_utc gps_minus_galileo) size 0 (λ es n. n + gps_minus_galileo + tai_minus_gps) (shifted_to_utc_numbered gps_minus_galileo) q p))
      (λ u. allowed _ (λ κ a k e q p.
      as_told_lem (utc_to_shifted gps_minus_galileo) size 0 (shifted_reading gps_minus_galileo) (utc_to_shifted_numbered gps_minus_galileo) q p));
  galileo_exported_built_in =
      of_pair builtin (tai_minus_gps + gps_minus_galileo) (shifted_instants builtin builtin-regular gps_minus_galileo)
      (λ n. allowed _ (λ κ a k e q p.
      told_is 0 _ (shifted_to_utc_numbered gps_minus_galileo builtin a.0) p
      ∙ ap (shifted_to_utc gps_minus_galileo builtin) q))
      (λ u. allowed _ (λ κ a k e q p.
      told_is 0 _ (utc_to_shifted_numbered gps_minus_galileo builtin a.0) p
      ∙ ap (utc_to_shifted gps_minus_galileo builtin) q));
  beidou_by_value = λ t r.
      of_table t r (tai_minus_gps + gps_minus_beidou) (shifted_instants (entries_of t) r.1 gps_minus_beidou)
      (λ n. allowed _ (λ κ a x e q (d, is, p).
      ap utc_in (sym is) ∙ by_table_lem a.1.0 (a.0.0 + gps_minus_beidou + tai_minus_gps)
      (shifted_to_utc gps_minus_beidou (entries_of a.1.0) a.0.0) p
      ∙ (λ i. of_valid (q.1 i) (shifted_to_utc gps_minus_beidou (entries_of (q.1 i)) (q.0 i)))))
      (λ u. allowed _ (λ κ a x e q (d, is, p).
      ap beidou_in (sym is) ∙ by_table_lem a.1.0 (shifted_reading gps_minus_beidou (entries_of a.1.0) a.0.0)
      (utc_to_shifted gps_minus_beidou (entries_of a.1.0) a.0.0) p
      ∙ (λ i. of_valid (q.1 i) (utc_to_shifted gps_minus_beidou (entries_of (q.1 i)) (q.0 i)))));
  beidou_built_in =
      of_pair builtin (tai_minus_gps + gps_minus_beidou) (shifted_instants builtin builtin-regular gps_minus_beidou)
      (λ n. allowed _ (λ κ a x e q p. p ∙ ap (shifted_to_utc gps_minus_beidou builtin) q))
      (λ u. allowed _ (λ κ a x e q p. p ∙ ap (utc_to_shifted gps_minus_beidou builtin) q));
  beidou_exported = λ b size r.
      of_table (table_in b) r (tai_minus_gps + gps_minus_beidou)
      (shifted_instants (entries_of (table_in b)) r.1 gps_minus_beidou)
      (λ n. allowed _ (λ κ a k e q p.
      as_told_lem (shifted_to_utc gps_minus_beidou) size 0 (λ es n. n + gps_minus_beidou + tai_minus_gps) (shifted_to_utc_numbered gps_minus_beidou) q p))
      (λ u. allowed _ (λ κ a k e q p.
      as_told_lem (utc_to_shifted gps_minus_beidou) size 0 (shifted_reading gps_minus_beidou) (utc_to_shifted_numbered gps_minus_beidou) q p));
  beidou_exported_built_in =
      of_pair builtin (tai_minus_gps + gps_minus_beidou) (shifted_instants builtin builtin-regular gps_minus_beidou)
      (λ n. allowed _ (λ κ a k e q p.
      told_is 0 _ (shifted_to_utc_numbered gps_minus_beidou builtin a.0) p
      ∙ ap (shifted_to_utc gps_minus_beidou builtin) q))
      (λ u. allowed _ (λ κ a k e q p.
      told_is 0 _ (utc_to_shifted_numbered gps_minus_beidou builtin a.0) p
      ∙ ap (utc_to_shifted gps_minus_beidou builtin) q));
}
