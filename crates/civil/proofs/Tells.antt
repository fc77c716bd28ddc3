-- What a check of fields says in plain values tells which answer it is.
use Rattle.std.specs.Prelude.{Err, Ok, Result}
use mathlib.Core.Path.{◌≡◌, refl, ap}
use Rattle.refusals.specs.declared.Refusal.{Refusal}
use Rattle.refusals.specs.Number.{number_of}
use Rattle.refusals.proofs.Tells.{number_tells}
use Rattle.civil.specs.Real.{check_in}

pub check_tells : (x y : Result Unit Refusal) → check_in x ≡ check_in y → x ≡ y
check_tells (Ok a) (Ok b) e = refl
check_tells (Ok tt) (Err r) e = cc
check_tells (Err r) (Ok tt) e = cc
check_tells (Err r) (Err s) e =
    let same : number_of r ≡ number_of s = cc in
    ap Err (number_tells r s same)
