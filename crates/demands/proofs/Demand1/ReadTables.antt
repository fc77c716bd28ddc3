-- Readers of an image: each call gives the number and the value of an outcome, so a refusal writes zeros.
use lib.Dec.{eqb}
use lib.ListN.{length, get_elem?}
use lib.IntN.{pos}
use Rattle.refusals.specs.Outcome.{answered, changed}
use Rattle.refusals.proofs.Given.{zeros_on_refusal}
use Rattle.tables.specs.Entries.{entry, offset_at, current_offset, last_update}
use Rattle.tables.specs.Expiry.{expiry_in}
use Rattle.plaitgate.specs.Tables.{bit, dated_as, with_stale, found_as, found_entry, found_count, alike_as, in_numbers}
use Rattle.plaitgate.proofs.leap_tables
use Rattle.images.specs.Image.{table_in, by_image, dated_by_image}
use Rattle.alike.specs.Alike.{alike}
use Rattle.demands.specs.RefusalsLeave.{ZerosOnRefusal}

pub len : ZerosOnRefusal leap_tables.plaitgate_table_len.Reads.Post 0 (λ κ e. e.1.0.now)
len κ a k e = zeros_on_refusal (by_image a.0.now (λ es. answered (length es)))

pub is_empty : ZerosOnRefusal leap_tables.plaitgate_table_is_empty.Reads.Post 0 (λ κ e. e.1.0.now)
is_empty κ a k e = zeros_on_refusal (changed bit (by_image a.0.now (λ es. answered (eqb (length es) 0))))

pub entry_at : ZerosOnRefusal leap_tables.plaitgate_table_entry_at.Reads.Post
    (found_as 0 (entry 0 (pos 0)))
    (λ κ e. found_as e.1.1.0.now (entry e.1.1.1.0.now e.1.1.1.1.0.now))
entry_at κ a k e = zeros_on_refusal (changed found_entry (by_image a.0.now (λ es. answered (get_elem? es a.1.0))))

pub last_update_lem : ZerosOnRefusal leap_tables.plaitgate_table_last_update.Reads.Post
    (found_as 0 0) (λ κ e. found_as e.1.0.now e.1.1.0.now)
last_update_lem κ a k e = zeros_on_refusal (changed found_count (by_image a.0.now (λ es. answered (last_update es))))

pub current_tai_minus_utc : ZerosOnRefusal leap_tables.plaitgate_table_current_tai_minus_utc.Reads.Post
    (pos 0) (λ κ e. e.1.0.now)
current_tai_minus_utc κ a k e = zeros_on_refusal (by_image a.0.now (λ es. answered (current_offset es)))

pub tai_minus_utc_at : ZerosOnRefusal leap_tables.plaitgate_table_tai_minus_utc_at.Reads.Post
    (dated_as (pos 0) 0) (λ κ e. dated_as e.1.1.0.now e.1.1.1.0.now)
tai_minus_utc_at κ a k e =
    zeros_on_refusal (with_stale (dated_by_image a.0.now (λ es. a.1.0) (λ es. answered (offset_at es a.1.0))))

pub expiry : ZerosOnRefusal leap_tables.plaitgate_table_expiry.Reads.Post
    (found_as 0 0) (λ κ e. found_as e.1.0.now e.1.1.0.now)
expiry κ a k e =
    zeros_on_refusal (changed found_count (by_image a.0.now (λ es. answered (expiry_in (table_in a.0.now)))))

pub alike-told : ZerosOnRefusal leap_tables.plaitgate_table_alike.Reads.Post
    (alike_as 0 0 0) (λ κ e. alike_as e.1.1.0.now e.1.1.1.0.now e.1.1.1.1.0.now)
alike-told κ a k e =
    zeros_on_refusal (changed in_numbers (by_image a.0.now (λ es. by_image a.1.0.now (λ fs. alike es fs))))
