-- Each call on a list as bytes leaves one answer for each input.
use Rattle.refusals.proofs.Tells.{outcome_tells}
use Rattle.refusals.proofs.OneAnswer.{OneAnswer, viewed}
use Rattle.tables.proofs.Tells.{taken_tells, update_tells, dated_tells}
use Rattle.images.proofs.list

pub try_from_slice : OneAnswer list.try_from_slice.Reads.Post
try_from_slice κ a x y e f p q = viewed taken_tells x y p q

pub tai_minus_utc_at : OneAnswer list.tai_minus_utc_at.Reads.Post
tai_minus_utc_at κ a x y e f p q = viewed dated_tells x y p q

pub len : OneAnswer list.len.Reads.Post
len κ a x y e f p q = viewed outcome_tells x y p q

pub is_empty : OneAnswer list.is_empty.Reads.Post
is_empty κ a x y e f p q = viewed outcome_tells x y p q

pub last_update_lem : OneAnswer list.last_update.Reads.Post
last_update_lem κ a x y e f p q = viewed update_tells x y p q

pub current_tai_minus_utc : OneAnswer list.current_tai_minus_utc.Reads.Post
current_tai_minus_utc κ a x y e f p q = viewed outcome_tells x y p q
