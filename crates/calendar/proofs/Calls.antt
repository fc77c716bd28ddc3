-- Each call of this crate leaves one answer for each input.
use mathlib.Core.Path.{sym, ap, ◌∙◌}
use lib.IntN.{nat_abs}
use Rattle.refusals.proofs.Tells.{outcome_tells}
use Rattle.refusals.proofs.OneAnswer.{OneAnswer, viewed}
use Rattle.calendar.proofs.Tells.{date_tells}
use Rattle.calendar.proofs.CivilDate.new.Reads as new_contract
use Rattle.calendar.proofs.CivilDate.days_from_unix.Reads as days_from_unix_contract
use Rattle.calendar.proofs.CivilDate.days_until.Reads as days_until_contract
use Rattle.calendar.proofs.CivilDate.seconds_until.Reads as seconds_until_contract
use Rattle.calendar.proofs.CivilDate.nanos_until.Reads as nanos_until_contract
use Rattle.calendar.proofs.engine.days_of_date.Reads as days_of_date_contract
use Rattle.calendar.proofs.engine.date_of_utc_day.Reads as date_of_utc_day_contract
use Rattle.calendar.proofs.engine.has_month.Reads as has_month_contract
use Rattle.calendar.proofs.engine.has_day.Reads as has_day_contract
use Rattle.calendar.proofs.epochs.Epoch.date.Reads as epoch_date_contract
use Rattle.calendar.proofs.epochs.EpochSpan.length.Reads as epoch_span_length_contract

pub new : OneAnswer new_contract.Post
new κ a x y e f p q = viewed date_tells x y p q

pub days_from_unix_lem : OneAnswer days_from_unix_contract.Post
days_from_unix_lem κ a x y e f p q = viewed outcome_tells x y p q

pub days_until_lem : OneAnswer days_until_contract.Post
days_until_lem κ a x y e f p q = viewed outcome_tells x y p q

pub seconds_until_lem : OneAnswer seconds_until_contract.Post
seconds_until_lem κ a x y e f p q = viewed outcome_tells x y p q

pub nanos_until_lem : OneAnswer nanos_until_contract.Post
nanos_until_lem κ a x y e f p q = viewed outcome_tells x y p q

pub days_of_date : OneAnswer days_of_date_contract.Post
days_of_date κ a x y e f p q = p ∙ sym q

pub date_of_utc_day : OneAnswer date_of_utc_day_contract.Post
date_of_utc_day κ a x y e f p q = viewed date_tells x y p q

pub has_month_lem : OneAnswer has_month_contract.Post
has_month_lem κ a x y e f p q = p ∙ sym q

pub has_day_lem : OneAnswer has_day_contract.Post
has_day_lem κ a x y e f p q = p ∙ sym q

pub epoch_date : OneAnswer epoch_date_contract.Post
epoch_date κ a x y e f p q = viewed date_tells x y p q

pub epoch_span_length : OneAnswer epoch_span_length_contract.Post
epoch_span_length κ a x y e f p q = ap nat_abs (p ∙ sym q)
