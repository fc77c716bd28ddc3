-- What an answer by a table says in plain values tells which answer it is.
use mathlib.Core.Path.{◌≡◌}
use Prim.Native.Nat.{ℕ}
use Rattle.refusals.proofs.Tells.{changed_tells}
use Rattle.tables.specs.declared.Dated.{Dated}
use Rattle.scales.proofs.Tells.{gps_count_tells, utc_count_tells, glonass_count_tells, galileo_count_tells, beidou_count_tells}
use Rattle.conversions.specs.Answers.{dated_on, dated_gps_in, dated_utc_in, dated_glonass_in}
use Rattle.scales.specs.declared.gps.Gps.{Gps}
use Rattle.scales.specs.declared.utc.Utc.{Utc}
use Rattle.scales.specs.declared.glonass.Glonass.{Glonass}
use Rattle.scales.specs.declared.galileo.Galileo.{Galileo}
use Rattle.scales.specs.declared.beidou.Beidou.{Beidou}

dated_on_tells : {S : Type 0} (count : S → ℕ) → ((a b : S) → count a ≡ count b → a ≡ b)
    → (x y : Dated S) → dated_on count x ≡ dated_on count y → x ≡ y
dated_on_tells count tells x y e =
    λ i. record { answer = changed_tells count tells x.answer y.answer (λ j. (e j).0) i; stale = (e i).1 }

pub dated_gps_tells : (x y : Dated Gps) → dated_gps_in x ≡ dated_gps_in y → x ≡ y
dated_gps_tells = dated_on_tells (λ t. t.0) gps_count_tells

pub dated_utc_tells : (x y : Dated Utc) → dated_utc_in x ≡ dated_utc_in y → x ≡ y
dated_utc_tells = dated_on_tells (λ t. t.0) utc_count_tells

pub dated_glonass_tells : (x y : Dated Glonass) → dated_glonass_in x ≡ dated_glonass_in y → x ≡ y
dated_glonass_tells = dated_on_tells (λ t. t.0) glonass_count_tells

pub dated_galileo_tells : (x y : Dated Galileo) → dated_on (λ t. t.0) x ≡ dated_on (λ t. t.0) y → x ≡ y
dated_galileo_tells = dated_on_tells (λ t. t.0) galileo_count_tells

pub dated_beidou_tells : (x y : Dated Beidou) → dated_on (λ t. t.0) x ≡ dated_on (λ t. t.0) y → x ≡ y
dated_beidou_tells = dated_on_tells (λ t. t.0) beidou_count_tells
