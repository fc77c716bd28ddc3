-- Each call of this crate leaves one answer for each input.
use mathlib.Core.Path.{sym, ◌∙◌}
use Rattle.refusals.proofs.Tells.{outcome_tells}
use Rattle.refusals.proofs.OneAnswer.{OneAnswer, viewed}
use Rattle.scales.proofs.Tells.{utc_tells}
use Rattle.civil.proofs.Tells.{check_tells}
use Rattle.civil.proofs.CivilDateTime.from_utc_nanos.Reads as from_utc_nanos_contract
use Rattle.civil.proofs.CivilDateTime.check.Reads as check_contract
use Rattle.civil.proofs.CivilDateTime.to_utc_nanos.Reads as to_utc_nanos_contract
use Rattle.civil.proofs.CivilDateTime.to_utc.Reads as to_utc_contract
use Rattle.civil.proofs.CivilDateTime.is_whole_second.Reads as is_whole_second_contract
use Rattle.civil.proofs.to_civil.Reads as to_civil_contract

pub from_utc_nanos : OneAnswer from_utc_nanos_contract.Post
from_utc_nanos κ a x y e f p q = p ∙ sym q

pub check : OneAnswer check_contract.Post
check κ a x y e f p q = viewed check_tells x y p q

pub to_utc_nanos : OneAnswer to_utc_nanos_contract.Post
to_utc_nanos κ a x y e f p q = viewed outcome_tells x y p q

pub to_utc : OneAnswer to_utc_contract.Post
to_utc κ a x y e f p q = viewed utc_tells x y p q

pub is_whole_second : OneAnswer is_whole_second_contract.Post
is_whole_second κ a x y e f p q = p ∙ sym q

pub to_civil : OneAnswer to_civil_contract.Post
to_civil κ a x y e f p q = p ∙ sym q
