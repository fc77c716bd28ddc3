-- What an answer says in plain values tells which answer it is; and so does the number in a count.
use mathlib.Core.Path.{◌≡◌, ap}
use Prim.Native.Nat.{ℕ}
use Rattle.std.specs.Prelude.{Result}
use Rattle.refusals.specs.declared.Refusal.{Refusal}
use Rattle.refusals.proofs.Tells.{changed_tells}
use Rattle.scales.specs.Answers.{gps_in, utc_in, glonass_in, tai_in, galileo_in, beidou_in}
use Rattle.scales.specs.declared.gps.Gps.{Gps}
use Rattle.scales.specs.declared.utc.Utc.{Utc}
use Rattle.scales.specs.declared.glonass.Glonass.{Glonass}
use Rattle.scales.specs.declared.tai.Tai.{Tai}
use Rattle.scales.specs.declared.galileo.Galileo.{Galileo}
use Rattle.scales.specs.declared.beidou.Beidou.{Beidou}

pub gps_count_tells : (x y : Gps) → x.0 ≡ y.0 → x ≡ y
gps_count_tells x y e = ap (λ (n : ℕ). record { 0 = n }) e

pub gps_tells : (x y : Result Gps Refusal) → gps_in x ≡ gps_in y → x ≡ y
gps_tells = changed_tells (λ t. t.0) gps_count_tells

pub utc_count_tells : (x y : Utc) → x.0 ≡ y.0 → x ≡ y
utc_count_tells x y e = ap (λ (n : ℕ). record { 0 = n }) e

pub utc_tells : (x y : Result Utc Refusal) → utc_in x ≡ utc_in y → x ≡ y
utc_tells = changed_tells (λ t. t.0) utc_count_tells

pub glonass_count_tells : (x y : Glonass) → x.0 ≡ y.0 → x ≡ y
glonass_count_tells x y e = ap (λ (n : ℕ). record { 0 = n }) e

pub glonass_tells : (x y : Result Glonass Refusal) → glonass_in x ≡ glonass_in y → x ≡ y
glonass_tells = changed_tells (λ t. t.0) glonass_count_tells

pub tai_count_tells : (x y : Tai) → x.0 ≡ y.0 → x ≡ y
tai_count_tells x y e = ap (λ (n : ℕ). record { 0 = n }) e

pub tai_tells : (x y : Result Tai Refusal) → tai_in x ≡ tai_in y → x ≡ y
tai_tells = changed_tells (λ t. t.0) tai_count_tells

pub galileo_count_tells : (x y : Galileo) → x.0 ≡ y.0 → x ≡ y
galileo_count_tells x y e = ap (λ (n : ℕ). record { 0 = n }) e

pub galileo_tells : (x y : Result Galileo Refusal) → galileo_in x ≡ galileo_in y → x ≡ y
galileo_tells = changed_tells (λ t. t.0) galileo_count_tells

pub beidou_count_tells : (x y : Beidou) → x.0 ≡ y.0 → x ≡ y
beidou_count_tells x y e = ap (λ (n : ℕ). record { 0 = n }) e

pub beidou_tells : (x y : Result Beidou Refusal) → beidou_in x ≡ beidou_in y → x ≡ y
beidou_tells = changed_tells (λ t. t.0) beidou_count_tells
