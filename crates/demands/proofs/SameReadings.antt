-- `CivilReadings` speaks of counts of 64 bits alone, so it holds of whatever answers the same on those and on fields.
use mathlib.Core.Path.{◌≡◌, sym, ◌∙◌}
use mathlib.Core.List.{List}
use Prim.Native.Nat.{ℕ, ◌^◌, ◌<◌}
use native.Mathlib.Omega.{arith}
use Rattle.refusals.specs.Outcome.{Outcome}
use Rattle.civil.specs.declared.CivilDateTime.{CivilDateTime}
use Rattle.tables.specs.Entries.{Entry}
use Rattle.demands.specs.CivilReadings.{ReadAs, CivilReadings}

module _ (es : List Entry) {there there' : ℕ → Outcome CivilDateTime} {back back' : CivilDateTime → Outcome ℕ}
    (to : (g : ℕ) → g < 2 ^ 64 → there' g ≡ there g) (from : (c : CivilDateTime) → back' c ≡ back c) where
  here : {g : ℕ} {c : CivilDateTime} → ReadAs there g c → ReadAs there' g c
  here {g} (fits, is) = (fits, to g (omega (arith, fits)) ∙ is)

  again : {g : ℕ} {c : CivilDateTime} → ReadAs there' g c → ReadAs there g c
  again {g} (fits, is) = (fits, sym (to g (omega (arith, fits))) ∙ is)

  pub kept : CivilReadings es there back → CivilReadings es there' back'
  kept t = record {
    refused_exactly = λ g fits k.
        let (only, all) = t.refused_exactly g fits k in
        (λ e. only (sym (to g fits) ∙ e), λ e. to g fits ∙ all e);
    inserted = λ g u c r. t.inserted g u c (again r);
    elsewhere = λ g u c r. t.elsewhere g u c (again r);
    rises = λ g g' c c' r r'. t.rises g g' c c' (again r) (again r');
    no_two = λ g g' c r r'. t.no_two g g' c (again r) (again r');
    read_exactly = λ c g.
        let (only, all) = t.read_exactly c g in
        (λ e. here (only (sym (from c) ∙ e)), λ r. from c ∙ all (again r));
    out_of_range_lem = λ c k.
        let (only, all) = t.out_of_range_lem c k in
        (λ o. let (e, no_14, no_1) = only o in (from c ∙ e, no_14, no_1), λ (e, no_14, no_1). all (sym (from c) ∙ e, no_14, no_1));
    sixty_refused = λ c r s.
        let (only, all) = t.sixty_refused c r s in
        (λ e g r. only (sym (from c) ∙ e) g (again r), λ none. from c ∙ all (λ g r. none g (here r)));
    others_refused = λ c r s.
        let (only, all) = t.others_refused c r s in
        (λ e g r. only (sym (from c) ∙ e) g (again r), λ none. from c ∙ all (λ g r. none g (here r)));
    has_their_count = λ c g s e. t.has_their_count c g s (sym (from c) ∙ e);
    the_later = λ c g s e. t.the_later c g s (sym (from c) ∙ e);
  }
