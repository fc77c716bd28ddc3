-- UTC to a scale that is behind GPS, by the table in an image: what UTC to GPS found, and what is made of it.
use mathlib.Core.Path.{◌≡◌, refl, sym, ap, ◌∙◌}
use mathlib.Core.Bool.{Bool, false, cond}
use mathlib.Core.List.{List}
use Prim.Native.Nat.{ℕ, ◌+◌, ◌≤◌, ◌<◌}
use Rattle.refusals.specs.Outcome.{Outcome, answered, refused, value_in, then}
use Rattle.counts.specs.Exact.{down}
use Rattle.counts.specs.Units.{second}
use Rattle.scales.specs.Scales.{tai_minus_gps}
use Rattle.tables.specs.Expiry.{dated}
use Rattle.conversions.specs.Conversions.{last_reading, utc_to_gps}
use Rattle.conversions.specs.Shifted.{later_of, utc_to_shifted, shifted_reading}
use Rattle.conversions.proofs.Later.{there_valid, from_epoch_on, before_epoch, refused_too, reads_first, reads-later}
use Rattle.conversions.proofs.Dated.{answer_is, stale_is}
use Rattle.images.specs.Image.{dated_by_image}
use Rattle.images.proofs.Held.{Held, holds, held}
use Rattle.images.proofs.Dated.{es, stale_in, in_one}

module _ (b : List ℕ) (d : ℕ) (utc : Outcome ℕ) {found : Outcome ℕ × Bool}
    (is : found ≡ dated_by_image b (λ es. last_reading es (value_in 0 utc)) (λ es. then utc (utc_to_gps es))) where
  abbrev due : Outcome ℕ
  due = cond (holds b) (then utc (utc_to_gps (es b))) (refused 8)

  abbrev told : Bool
  told = stale_in b (last_reading (es b) (value_in 0 utc))

  in_one_test : found ≡ dated told due
  in_one_test = is ∙ in_one b (λ es. last_reading es (value_in 0 utc)) (λ es. then utc (utc_to_gps es))

  answer : found.0 ≡ due
  answer = answer_is told due in_one_test

  abbrev whole : Outcome ℕ × Bool
  whole = dated_by_image b (λ es. shifted_reading d es (value_in 0 utc)) (λ es. then utc (utc_to_shifted d es))

  abbrev shifted : Outcome ℕ
  shifted = cond (holds b) (then utc (utc_to_shifted d (es b))) (refused 8)

  abbrev last : ℕ
  last = shifted_reading d (es b) (value_in 0 utc)

  of_one_test : dated (stale_in b last) shifted ≡ whole
  of_one_test = sym (in_one b (λ es. shifted_reading d es (value_in 0 utc)) (λ es. then utc (utc_to_shifted d es)))

  module _ {g : ℕ} (e : found.0 ≡ answered g) where
    pub holds-valid : Held b
    holds-valid = held b refl (there_valid d (holds b) (es b) utc answer e)

    pub by_later : g < d → dated (stale_in b (g + second + tai_minus_gps)) (then (later_of (es b) g) (down d)) ≡ whole
    by_later l =
        (λ i. dated (stale_in b (reads-later d (holds b) (es b) utc answer e l i))
        (before_epoch d (holds b) (es b) utc answer e l i))
        ∙ of_one_test

    pub by_first : d ≤ g → dated found.1 (down d g) ≡ whole
    by_first l =
        let reads = stale_is told due in_one_test (sym answer ∙ e)
        ∙ ap (stale_in b) (reads_first d (holds b) (es b) utc answer e l) in
        (λ i. dated (reads i) (from_epoch_on d (holds b) (es b) utc answer e l i)) ∙ of_one_test

  pub none_found : {k : ℕ} → found.0 ≡ refused k → (refused k, false) ≡ whole
  none_found e = (λ i. dated (stale_in b last) (refused_too d (holds b) (es b) utc answer e i)) ∙ of_one_test
