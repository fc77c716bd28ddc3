-- Each call on a lent list of entries leaves one refusal number, and one value through each reference that it writes,
-- for each input.
use mathlib.Core.Path.{sym, ◌∙◌}
use Rattle.refusals.proofs.OneAnswer.{OneAnswer, OneAnswerAndEnd, both}
use Rattle.plaitgate.specs.Tables.{found_as, dated_as}
use Rattle.plaitgate.proofs.leap_lists.plaitgate_list_check.Reads as list_check_contract
use Rattle.plaitgate.proofs.leap_lists.plaitgate_list_len.Reads as list_len_contract
use Rattle.plaitgate.proofs.leap_lists.plaitgate_list_is_empty.Reads as list_is_empty_contract
use Rattle.plaitgate.proofs.leap_lists.plaitgate_list_last_update.Reads as list_last_update_contract
use Rattle.plaitgate.proofs.leap_lists.plaitgate_list_current_tai_minus_utc.Reads as list_current_tai_minus_utc_contract
use Rattle.plaitgate.proofs.leap_lists.plaitgate_list_tai_minus_utc_at.Reads as list_tai_minus_utc_at_contract

pub list_check : OneAnswer list_check_contract.Post
list_check κ a x y e f p q = p ∙ sym q

pub list_len : OneAnswerAndEnd list_len_contract.Post (λ κ e. e.1.0.now)
list_len κ a x y e f p q = both p q

pub list_is_empty : OneAnswerAndEnd list_is_empty_contract.Post (λ κ e. e.1.0.now)
list_is_empty κ a x y e f p q = both p q

pub list_last_update : OneAnswerAndEnd list_last_update_contract.Post
    (λ κ e. found_as e.1.0.now e.1.1.0.now)
list_last_update κ a x y e f p q = both p q

pub list_current_tai_minus_utc : OneAnswerAndEnd list_current_tai_minus_utc_contract.Post (λ κ e. e.1.0.now)
list_current_tai_minus_utc κ a x y e f p q = both p q

pub list_tai_minus_utc_at : OneAnswerAndEnd list_tai_minus_utc_at_contract.Post
    (λ κ e. dated_as e.1.1.0.now e.1.1.1.0.now)
list_tai_minus_utc_at κ a x y e f p q = both p q
