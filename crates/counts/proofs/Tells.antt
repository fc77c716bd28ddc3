-- What an answer says in plain values tells which answer it is.
use mathlib.Core.Path.{◌≡◌, ap}
use lib.IntN.{ℤ}
use Rattle.std.specs.Prelude.{Result}
use Rattle.refusals.specs.declared.Refusal.{Refusal}
use Rattle.refusals.proofs.Tells.{changed_tells}
use Rattle.counts.specs.Answers.{duration_in}
use Rattle.counts.specs.declared.Duration.{Duration}

pub duration_number_tells : (x y : Duration) → x.0 ≡ y.0 → x ≡ y
duration_number_tells x y e = ap (λ (z : ℤ). record { 0 = z }) e

pub duration_tells : (x y : Result Duration Refusal) → duration_in x ≡ duration_in y → x ≡ y
duration_tells = changed_tells (λ d. d.0) duration_number_tells
