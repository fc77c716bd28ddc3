-- Each call of this crate leaves one answer for each input.
use mathlib.Core.Path.{sym, ◌∙◌}
use Rattle.refusals.proofs.Tells.{outcome_tells}
use Rattle.refusals.proofs.OneAnswer.{OneAnswer, viewed}
use Rattle.counts.proofs.Tells.{duration_tells}
use Rattle.counts.proofs.sums.by_sign.Reads as by_sign_contract
use Rattle.counts.proofs.sums.plus.Reads as plus_contract
use Rattle.counts.proofs.sums.minus.Reads as minus_contract
use Rattle.counts.proofs.sums.later.Reads as later_contract
use Rattle.counts.proofs.sums.earlier.Reads as earlier_contract
use Rattle.counts.proofs.sums.saturating_plus.Reads as plus_to_limit_contract
use Rattle.counts.proofs.sums.saturating_minus.Reads as minus_to_limit_contract
use Rattle.counts.proofs.sums.saturating_later.Reads as later_to_limit_contract
use Rattle.counts.proofs.sums.saturating_earlier.Reads as earlier_to_limit_contract
use Rattle.counts.proofs.sums.forward.Reads as forward_contract
use Rattle.counts.proofs.sums.backward.Reads as back_past_contract
use Rattle.counts.proofs.sums.elapsed.Reads as elapsed_contract
use Rattle.counts.proofs.units.from_seconds_and.Reads as from_seconds_and_contract
use Rattle.counts.proofs.units.from_seconds.Reads as from_seconds_contract
use Rattle.counts.proofs.units.parts.Reads as parts_contract
use Rattle.counts.proofs.units.DurationParts.new.Reads as duration_parts_new_contract
use Rattle.counts.proofs.units.of_units.Reads as of_units_contract
use Rattle.counts.proofs.unix.from_unix_seconds.Reads as from_unix_seconds_contract
use Rattle.counts.proofs.unix.from_unix_nanos.Reads as from_unix_nanos_contract
use Rattle.counts.proofs.unix.as_unix_seconds.Reads as as_unix_seconds_contract
use Rattle.counts.proofs.unix.as_unix_nanos.Reads as as_unix_nanos_contract

pub by_sign : OneAnswer by_sign_contract.Post
by_sign κ a x y e f p q = p ∙ sym q

pub plus : OneAnswer plus_contract.Post
plus κ a x y e f p q = viewed outcome_tells x y p q

pub minus : OneAnswer minus_contract.Post
minus κ a x y e f p q = viewed outcome_tells x y p q

pub later : OneAnswer later_contract.Post
later κ a x y e f p q = viewed outcome_tells x y p q

pub earlier : OneAnswer earlier_contract.Post
earlier κ a x y e f p q = viewed outcome_tells x y p q

pub saturating_plus : OneAnswer plus_to_limit_contract.Post
saturating_plus κ a x y e f p q = p ∙ sym q

pub saturating_minus : OneAnswer minus_to_limit_contract.Post
saturating_minus κ a x y e f p q = p ∙ sym q

pub saturating_later : OneAnswer later_to_limit_contract.Post
saturating_later κ a x y e f p q = p ∙ sym q

pub saturating_earlier : OneAnswer earlier_to_limit_contract.Post
saturating_earlier κ a x y e f p q = p ∙ sym q

pub forward : OneAnswer forward_contract.Post
forward κ a x y e f p q = viewed duration_tells x y p q

pub backward : OneAnswer back_past_contract.Post
backward κ a x y e f p q = viewed duration_tells x y p q

pub elapsed : OneAnswer elapsed_contract.Post
elapsed κ a x y e f p q = viewed duration_tells x y p q

pub from_seconds_and : OneAnswer from_seconds_and_contract.Post
from_seconds_and κ a x y e f p q = viewed outcome_tells x y p q

pub from-seconds : OneAnswer from_seconds_contract.Post
from-seconds κ a x y e f p q = viewed outcome_tells x y p q

pub parts : OneAnswer parts_contract.Post
parts κ a x y e f p q = p ∙ sym q

pub duration_parts_new : OneAnswer duration_parts_new_contract.Post
duration_parts_new κ a x y e f p q = viewed outcome_tells x y p q

pub of_units_lem : OneAnswer of_units_contract.Post
of_units_lem κ a x y e f p q = viewed outcome_tells x y p q

pub from_unix_seconds : OneAnswer from_unix_seconds_contract.Post
from_unix_seconds κ a x y e f p q = viewed outcome_tells x y p q

pub from_unix_nanos : OneAnswer from_unix_nanos_contract.Post
from_unix_nanos κ a x y e f p q = viewed outcome_tells x y p q

pub as_unix_seconds : OneAnswer as_unix_seconds_contract.Post
as_unix_seconds κ a x y e f p q = p ∙ sym q

pub as_unix_nanos : OneAnswer as_unix_nanos_contract.Post
as_unix_nanos κ a x y e f p q = p ∙ sym q
