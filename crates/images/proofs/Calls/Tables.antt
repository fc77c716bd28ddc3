-- Each call on a table as bytes leaves one answer for each input, and one image where it writes one.
use Rattle.std.specs.Prelude.{Result}
use mathlib.Core.Path.{◌≡◌, sym, ap, ◌∙◌}
use mathlib.Core.List.{List}
use Prim.Native.Nat.{ℕ}
use Rattle.refusals.specs.declared.Refusal.{Refusal}
use Rattle.refusals.proofs.Tells.{outcome_tells}
use Rattle.refusals.proofs.OneAnswer.{OneAnswer, OneAnswerAndEnd, viewed}
use Rattle.tables.specs.Answers.{taken_in}
use Rattle.tables.proofs.Tells.{taken_tells, extension_tells, entry_tells, update_tells, dated_tells}
use Rattle.images.proofs.table

-- an answer and the bytes left, by one equation
answer_and_bytes : {x y : Result Unit Refusal} {l m : List ℕ} {d : ℕ × List ℕ} → (taken_in x, l) ≡ d → (taken_in y, m) ≡ d
    → (x ≡ y) × (l ≡ m)
answer_and_bytes {x} {y} p q =
    let e = p ∙ sym q in
    (taken_tells x y (ap (λ (v : ℕ × List ℕ). v.0) e), ap (λ (v : ℕ × List ℕ). v.1) e)

pub read : OneAnswer table.read.Reads.Post
read κ a x y e f p q = viewed extension_tells x y p q

pub write : OneAnswerAndEnd table.write.Reads.Post (λ κ e. e.1.0.now)
write κ a x y e f p q = answer_and_bytes p q

pub build : OneAnswer table.build.Reads.Post
build κ a x y e f p q = viewed extension_tells x y p q

pub extend : OneAnswerAndEnd table.extend.Reads.Post (λ κ e. e.0.now)
extend κ a x y e f p q = answer_and_bytes p q

pub len : OneAnswer table.len.Reads.Post
len κ a x y e f p q = viewed outcome_tells x y p q

pub is_empty : OneAnswer table.is_empty.Reads.Post
is_empty κ a x y e f p q = viewed outcome_tells x y p q

pub entry_at : OneAnswer table.entry_at.Reads.Post
entry_at κ a x y e f p q = viewed entry_tells x y p q

pub last_update_lem : OneAnswer table.last_update.Reads.Post
last_update_lem κ a x y e f p q = viewed update_tells x y p q

pub current_tai_minus_utc : OneAnswer table.current_tai_minus_utc.Reads.Post
current_tai_minus_utc κ a x y e f p q = viewed outcome_tells x y p q

pub tai_minus_utc_at : OneAnswer table.tai_minus_utc_at.Reads.Post
tai_minus_utc_at κ a x y e f p q = viewed dated_tells x y p q

pub expiry : OneAnswer table.expiry.Reads.Post
expiry κ a x y e f p q = viewed update_tells x y p q

pub set_expiry : OneAnswerAndEnd table.set_expiry.Reads.Post (λ κ e. e.0.now)
set_expiry κ a x y e f p q = answer_and_bytes p q

pub utc_from_gps : OneAnswer table.utc_from_gps.Reads.Post
utc_from_gps κ a x y e f p q = viewed dated_tells x y p q

pub gps_from_utc : OneAnswer table.gps_from_utc.Reads.Post
gps_from_utc κ a x y e f p q = viewed dated_tells x y p q

pub utc_from_shifted : OneAnswer table.utc_from_shifted.Reads.Post
utc_from_shifted κ a x y e f p q = viewed dated_tells x y p q

pub shifted_from_utc : OneAnswer table.shifted_from_utc.Reads.Post
shifted_from_utc κ a x y e f p q = viewed dated_tells x y p q
