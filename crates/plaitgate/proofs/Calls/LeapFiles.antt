-- The call on files with leap seconds leaves one refusal number, one line and one list of bytes for each input.
use mathlib.Core.Path.{◌≡◌, sym, ap, ◌∙◌}
use mathlib.Core.List.{List}
use Prim.Native.Nat.{ℕ}
use Rattle.refusals.proofs.OneAnswer.{OneAnswerAndEnd}
use Rattle.plaitgate.specs.Tables.{ListLeft, list_left}
use Rattle.plaitgate.proofs.leap_files.plaitgate_read_leap_list.Reads as read_leap_list_contract

-- one number, one line and one list of bytes left
left_one : {k m : ℕ} {n l : ℕ} {b d : List ℕ} {o : ListLeft} → list_left k n b ≡ o → list_left m l d ≡ o
    → (k ≡ m) × (◌≡◌ {A = ℕ × List ℕ} (n, b) (l, d))
left_one p q =
    (ap (λ (x : ListLeft). x.number) (p ∙ sym q), ap (λ (x : ListLeft). (x.line, x.image)) (p ∙ sym q))

pub read_leap_list : OneAnswerAndEnd {Left = ℕ × List ℕ} read_leap_list_contract.Post
    (λ κ e. (e.1.1.0.now, e.1.0.now))
read_leap_list κ a x y e f p q = left_one p q
