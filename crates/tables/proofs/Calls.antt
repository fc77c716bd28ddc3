-- Each call of this crate leaves one answer for each input, and one table where it gives one.
use mathlib.Core.Path.{sym, ◌∙◌}
use denote.RattleType
use denote.Param.Laws
use Rattle.refusals.proofs.Tells.{outcome_tells}
use Rattle.refusals.proofs.OneAnswer.{OneAnswer, viewed}
use Rattle.tables.proofs.Tells.{extension_tells, entry_tells, update_tells, dated_tells}
use Rattle.tables.proofs.Dated.new.Reads as dated_new_contract
use Rattle.tables.proofs.LeapEntry.new.Reads as entry_new_contract
use Rattle.tables.proofs.LeapTable.new.Reads as new_contract
use Rattle.tables.proofs.LeapTable.from_lists.Reads as from_lists_contract
use Rattle.tables.proofs.LeapTable.try_extend.Reads as try_extend_contract
use Rattle.tables.proofs.LeapTable.len.Reads as len_contract
use Rattle.tables.proofs.LeapTable.is_empty.Reads as is_empty_contract
use Rattle.tables.proofs.LeapTable.entry_at.Reads as entry_at_contract
use Rattle.tables.proofs.LeapTable.last_update.Reads as last_update_contract
use Rattle.tables.proofs.LeapTable.current_tai_minus_utc.Reads as current_tai_minus_utc_contract
use Rattle.tables.proofs.LeapTable.tai_minus_utc_at.Reads as tai_minus_utc_at_contract
use Rattle.tables.proofs.LeapTable.expiry.Reads as expiry_contract
use Rattle.tables.proofs.LeapTable.with_expiry.Reads as with_expiry_contract

-- whatever the answer's type
module _ (T : denote.RattleType.RattleType) (L : denote.Param.Laws.Laws T) where
  pub dated_new : OneAnswer (dated_new_contract.Post T L)
  dated_new κ a x y e f p q = viewed dated_tells x y p q

pub entry_new : OneAnswer entry_new_contract.Post
entry_new κ a x y e f p q = p ∙ sym q

pub new : OneAnswer new_contract.Post
new κ a x y e f p q = p ∙ sym q

pub from-lists : OneAnswer from_lists_contract.Post
from-lists κ a x y e f p q = viewed extension_tells x y p q

pub try_extend : OneAnswer try_extend_contract.Post
try_extend κ a x y e f p q = viewed extension_tells x y p q

pub len : OneAnswer len_contract.Post
len κ a x y e f p q = viewed outcome_tells x y p q

pub is_empty : OneAnswer is_empty_contract.Post
is_empty κ a x y e f p q = viewed outcome_tells x y p q

pub entry_at : OneAnswer entry_at_contract.Post
entry_at κ a x y e f p q = viewed entry_tells x y p q

pub last_update_lem : OneAnswer last_update_contract.Post
last_update_lem κ a x y e f p q = viewed update_tells x y p q

pub current_tai_minus_utc : OneAnswer current_tai_minus_utc_contract.Post
current_tai_minus_utc κ a x y e f p q = viewed outcome_tells x y p q

pub tai_minus_utc_at : OneAnswer tai_minus_utc_at_contract.Post
tai_minus_utc_at κ a x y e f p q = viewed dated_tells x y p q

pub expiry : OneAnswer expiry_contract.Post
expiry κ a x y e f p q = viewed update_tells x y p q

pub with_expiry_lem : OneAnswer with_expiry_contract.Post
with_expiry_lem κ a x y e f p q = viewed extension_tells x y p q
