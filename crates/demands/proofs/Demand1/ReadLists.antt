-- Readers of a lent list: each call gives the number and the value of an outcome, so a refusal writes zeros.
use mathlib.Core.Bool.{false}
use lib.Dec.{eqb}
use lib.ListN.{length}
use lib.IntN.{pos}
use Rattle.refusals.specs.Outcome.{answered, changed}
use Rattle.refusals.proofs.Given.{zeros_on_refusal}
use Rattle.tables.specs.Entries.{offset_at, current_offset, last_update}
use Rattle.images.specs.Listed.{of_listed}
use Rattle.plaitgate.specs.Tables.{bit, dated_as, with_stale, found_as, found_count}
use Rattle.plaitgate.proofs.leap_lists
use Rattle.demands.specs.RefusalsLeave.{ZerosOnRefusal}

pub len : ZerosOnRefusal leap_lists.plaitgate_list_len.Reads.Post 0 (λ κ e. e.1.0.now)
len κ a k e = zeros_on_refusal (of_listed a.0.now (λ es. answered (length es)))

pub is_empty : ZerosOnRefusal leap_lists.plaitgate_list_is_empty.Reads.Post 0 (λ κ e. e.1.0.now)
is_empty κ a k e = zeros_on_refusal (changed bit (of_listed a.0.now (λ es. answered (eqb (length es) 0))))

pub last_update_lem : ZerosOnRefusal leap_lists.plaitgate_list_last_update.Reads.Post
    (found_as 0 0) (λ κ e. found_as e.1.0.now e.1.1.0.now)
last_update_lem κ a k e = zeros_on_refusal (changed found_count (of_listed a.0.now (λ es. answered (last_update es))))

pub current_tai_minus_utc : ZerosOnRefusal leap_lists.plaitgate_list_current_tai_minus_utc.Reads.Post
    (pos 0) (λ κ e. e.1.0.now)
current_tai_minus_utc κ a k e = zeros_on_refusal (of_listed a.0.now (λ es. answered (current_offset es)))

pub tai_minus_utc_at : ZerosOnRefusal leap_lists.plaitgate_list_tai_minus_utc_at.Reads.Post
    (dated_as (pos 0) 0) (λ κ e. dated_as e.1.1.0.now e.1.1.1.0.now)
tai_minus_utc_at κ a k e =
    zeros_on_refusal (with_stale (of_listed a.0.now (λ es. answered (offset_at es a.1.0)), false))
