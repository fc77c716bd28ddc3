-- Each call on leap-second tables leaves one refusal number, and one value through each reference that it writes, for
-- each input.
use mathlib.Core.Path.{◌≡◌, sym, ap, ◌∙◌}
use mathlib.Core.List.{List}
use Prim.Native.Nat.{ℕ}
use Rattle.refusals.proofs.OneAnswer.{OneAnswerAndEnd, both}
use Rattle.plaitgate.specs.Tables.{leaves, found_as, dated_as, alike_as}
use Rattle.tables.specs.Entries.{entry}
use Rattle.plaitgate.proofs.leap_tables.plaitgate_table_len.Reads as table_len_contract
use Rattle.plaitgate.proofs.leap_tables.plaitgate_table_is_empty.Reads as table_is_empty_contract
use Rattle.plaitgate.proofs.leap_tables.plaitgate_table_current_tai_minus_utc.Reads as table_current_tai_minus_utc_contract
use Rattle.plaitgate.proofs.leap_tables.plaitgate_table_tai_minus_utc_at.Reads as table_tai_minus_utc_at_contract
use Rattle.plaitgate.proofs.leap_tables.plaitgate_table_last_update.Reads as table_last_update_contract
use Rattle.plaitgate.proofs.leap_tables.plaitgate_table_expiry.Reads as table_expiry_contract
use Rattle.plaitgate.proofs.leap_tables.plaitgate_table_set_expiry.Reads as table_set_expiry_contract
use Rattle.plaitgate.proofs.leap_tables.plaitgate_table_entry_at.Reads as table_entry_at_contract
use Rattle.plaitgate.proofs.leap_tables.plaitgate_table_new.Reads as table_new_contract
use Rattle.plaitgate.proofs.leap_tables.plaitgate_table_from_builtin.Reads as table_from_builtin_contract
use Rattle.plaitgate.proofs.leap_tables.plaitgate_table_from_entries.Reads as table_from_entries_contract
use Rattle.plaitgate.proofs.leap_tables.plaitgate_table_try_extend.Reads as table_try_extend_contract
use Rattle.plaitgate.proofs.leap_tables.plaitgate_table_alike.Reads as table_alike_contract

-- one number, and one list of bytes left
left_one : {k m : ℕ} {b d : List ℕ} {o : ℕ × List ℕ} → leaves k b ≡ o → leaves m d ≡ o → (k ≡ m) × (b ≡ d)
left_one p q = (ap (λ (x : ℕ × List ℕ). x.0) (p ∙ sym q), ap (λ (x : ℕ × List ℕ). x.1) (p ∙ sym q))

pub table_len : OneAnswerAndEnd table_len_contract.Post (λ κ e. e.1.0.now)
table_len κ a x y e f p q = both p q

pub table_is_empty : OneAnswerAndEnd table_is_empty_contract.Post (λ κ e. e.1.0.now)
table_is_empty κ a x y e f p q = both p q

pub table_current_tai_minus_utc : OneAnswerAndEnd table_current_tai_minus_utc_contract.Post (λ κ e. e.1.0.now)
table_current_tai_minus_utc κ a x y e f p q = both p q

pub table_tai_minus_utc_at : OneAnswerAndEnd table_tai_minus_utc_at_contract.Post
    (λ κ e. dated_as e.1.1.0.now e.1.1.1.0.now)
table_tai_minus_utc_at κ a x y e f p q = both p q

pub table_last_update : OneAnswerAndEnd table_last_update_contract.Post
    (λ κ e. found_as e.1.0.now e.1.1.0.now)
table_last_update κ a x y e f p q = both p q

pub table_expiry : OneAnswerAndEnd table_expiry_contract.Post (λ κ e. found_as e.1.0.now e.1.1.0.now)
table_expiry κ a x y e f p q = both p q

pub table_entry_at : OneAnswerAndEnd table_entry_at_contract.Post
    (λ κ e. found_as e.1.1.0.now (entry e.1.1.1.0.now e.1.1.1.1.0.now))
table_entry_at κ a x y e f p q = both p q

pub table_new : OneAnswerAndEnd table_new_contract.Post (λ κ e. e.0.now)
table_new κ a x y e f p q = left_one p q

pub table_from_builtin : OneAnswerAndEnd table_from_builtin_contract.Post (λ κ e. e.0.now)
table_from_builtin κ a x y e f p q = left_one p q

pub table_from_entries : OneAnswerAndEnd table_from_entries_contract.Post (λ κ e. e.1.0.now)
table_from_entries κ a x y e f p q = left_one p q

pub table_try_extend : OneAnswerAndEnd table_try_extend_contract.Post (λ κ e. e.0.now)
table_try_extend κ a x y e f p q = left_one p q

pub table_set_expiry : OneAnswerAndEnd table_set_expiry_contract.Post (λ κ e. e.0.now)
table_set_expiry κ a x y e f p q = left_one p q

pub table_alike : OneAnswerAndEnd table_alike_contract.Post
    (λ κ e. alike_as e.1.1.0.now e.1.1.1.0.now e.1.1.1.1.0.now)
table_alike κ a x y e f p q = both p q
