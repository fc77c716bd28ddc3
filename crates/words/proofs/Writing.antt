-- Writing digits: fields that stand side by side, and the turns of the writers' loops.
use mathlib.Core.Path.{◌≡◌, refl, sym, ap, ◌∙◌}
use mathlib.Core.List.{List, [], ◌∷◌, ◌++◌, append-nil, append_assoc}
use Prim.Native.Nat.{ℕ, zero, suc, zero-le, ◌+◌, ◌-◌, ◌*◌, ◌/◌, ◌%◌, ◌^◌, ◌<◌, ◌≤◌}
use native.Mathlib.Nat.{pow-suc, pow-succ', pow-le-pow_right, add-zero, zero-add, sub-zero, sub_self, add-suc, suc-add}
use native.Mathlib.Nat.{div-one, div-div-eq-div-mul}
use native.Mathlib.Numerals.{add-one}
use native.Mathlib.Omega.{arith}
use borrow.Author.Tests.{lt-ltb, le-ltb}
use lib.Arith.{mod-mul}
use lib.Dec.{lit<}
use lib.ListN.{length, length-append, set}
use lib.Pow.{pow-add}
use lib.Seq.{sets, length-sets}
use Rattle.words.specs.Decimal.{in_digits, places_up_to}
use Rattle.words.proofs.Stores.{sets_before, joined}

pub digits_length : (k n : ℕ) → length (in_digits k n) ≡ k
digits_length zero n = refl
digits_length (suc k) n =
    length-append (in_digits k (n / 10)) ((48 + n % 10) ∷ []) ∙ ap (λ (j : ℕ). j + 1) (digits_length k (n / 10))
    ∙ add-one k

-- the digits of a number, cut after the first k
pub cut : (j k n : ℕ) → in_digits (k + j) n ≡ in_digits k (n / 10 ^ j) ++ in_digits j n
cut zero k n = rw (add-zero, div-one, append-nil)
cut (suc j) k n = rw (add-suc, cut j k (n / 10), append_assoc, div-div-eq-div-mul, pow-succ')

-- the last j digits are those of the remainder
pub of_remainder : (j n : ℕ) → in_digits j (n % 10 ^ j) ≡ in_digits j n
of_remainder zero n = refl
of_remainder (suc j) n =
    let pos : 0 < 10 ^ j = omega (arith, pow-le-pow_right {n = 10} (lit< tt) {i = 0} {j = j} zero-le) in
    let parts : n % 10 ^ suc j ≡ n / 10 % 10 ^ j * 10 + n % 10
    = rw pow-suc (mod-mul n {m = 10 ^ j} {c = 10} pos (lit< tt)) in
    let high : n % 10 ^ suc j / 10 ≡ n / 10 % 10 ^ j = omega arith in
    let low : n % 10 ^ suc j % 10 ≡ n % 10 = omega arith in
    rw (high, low, of_remainder j (n / 10))

-- two digits by themselves, four as two and two, nine as one and two fours
module _ (out : List ℕ) (at n : ℕ) where
  pub two_digits : n < 100 → set (set out at (48 + n / 10)) (at + 1) (48 + n % 10) ≡ sets out at (in_digits 2 n)
  two_digits h =
      let tens : n / 10 % 10 ≡ n / 10 = omega arith in
      rw (add-one, tens)

  module _ {x y : List ℕ} where
    pub four-digits : x ≡ sets out at (in_digits 2 (n / 100)) → y ≡ sets x (at + 2) (in_digits 2 (n % 100))
        → y ≡ sets out at (in_digits 4 n)
    four-digits e f =
        joined out at (at + 2) (in_digits 2 (n / 100)) (in_digits 2 (n % 100)) e refl f
        ∙ ap (λ (l : List ℕ). sets out at (in_digits 2 (n / 100) ++ l)) (of_remainder 2 n)
        ∙ ap (sets out at) (sym (cut 2 2 n))

    pub nine_digits : n < 1000000000
        → x ≡ sets (set out at (48 + n / 100000000)) (at + 1) (in_digits 4 (n / 10000 % 10000))
        → y ≡ sets x (at + 5) (in_digits 4 (n % 10000)) → y ≡ sets out at (in_digits 9 n)
    nine_digits h e f =
        let start = set out at (48 + n / 100000000) in
        let first : n / 10000 / 10000 % 10 ≡ n / 100000000 = omega arith in
        let fours = in_digits 4 (n / 10000 % 10000) ++ in_digits 4 (n % 10000) in
        let all : in_digits 9 n ≡ (48 + n / 100000000) ∷ fours
        = cut 4 5 n ∙ ap (λ (l : List ℕ). l ++ in_digits 4 n) (cut 4 1 (n / 10000))
        ∙ (λ i. (48 + first i) ∷ (sym (of_remainder 4 (n / 10000)) i ++ sym (of_remainder 4 n) i)) in
        joined start (at + 1) (at + 5) (in_digits 4 (n / 10000 % 10000)) (in_digits 4 (n % 10000)) e (omega arith) f
        ∙ ap (λ (p : ℕ). sets start p fours) (add-one at) ∙ ap (sets out at) (sym all)

-- a writer from the end: the digits from `left` on are written, and `rest` is the number without them
pub record Written (out₀ : List ℕ) (at width n : ℕ) (out : List ℕ) (left rest : ℕ) : Type 0 where
  pub within : left ≤ width
  pub digits : out ≡ sets out₀ (at + left) (in_digits (width - left) n)
  pub without : rest ≡ n / 10 ^ (width - left)
  pub size : length out ≡ length out₀

module _ {out₀ : List ℕ} {at width n : ℕ} where
  pub none_written : Written out₀ at width n out₀ width n
  none_written = record { within = omega arith; digits = rw sub_self; without = rw (sub_self, div-one); size = refl }

  module _ {out : List ℕ} {left rest : ℕ} (h : Written out₀ at width n out left rest) where
    -- k digits more, before those that are written
    pub some_written : (k : ℕ) → k ≤ left
        → Written out₀ at width n (sets out (at + (left - k)) (in_digits k rest)) (left - k) (rest / 10 ^ k)
    some_written k l =
        let wider : width - (left - k) ≡ k + (width - left) = omega (arith, h.within) in
        let sum : width - left + k ≡ k + (width - left) = omega arith in
        let place : at + left ≡ at + (left - k) + length (in_digits k rest) = omega (arith, digits_length k rest) in
        let before = sets_before (in_digits k rest) (in_digits (width - left) n) out₀ _ (at + left) place in
        record {
          within = omega (arith, h.within);
          digits = rw h.digits (before ∙ rw (wider, cut (width - left) k n, h.without));
          without = rw (h.without, div-div-eq-div-mul, ← pow-add 10 (width - left) k, sum, wider);
          size = length-sets out (at + (left - k)) (in_digits k rest) ∙ h.size;
        }

    pub all-written : sets out at (in_digits left rest) ≡ sets out₀ at (in_digits width n)
    all-written = rw (sub_self, add-zero, sub-zero) at (some_written left (omega arith)).digits

-- from 10 ^ j up to 10 ^ suc j a number has suc j places
pub places_are : (j k n : ℕ) → 10 ^ j ≤ n → n < 10 ^ suc j → places_up_to (j + suc k) n ≡ suc j
unfolding places_up_to
places_are zero k n least most = rw (zero-add, lt-ltb n 10 (omega arith))
places_are (suc j) k n least most =
    let big : 10 ≤ n = omega (arith, pow-le-pow_right {n = 10} (lit< tt) {i = 1} {j = suc j} (omega arith)) in
    rw (suc-add, le-ltb n 10 big)
    (ap suc (places_are j k (n / 10) (omega (arith, pow-suc 10 j)) (omega (arith, pow-suc 10 (suc j)))))

-- the last turn of `counted_places`, and another: the rest has at most k digits
pub last-place : (k rest : ℕ) → 0 < k → rest < 10 → places_up_to k rest ≡ 1
unfolding places_up_to
last-place zero rest s h = absurd (omega arith)
last-place (suc f) rest s h = rw (lt-ltb rest 10 h)

pub next_place : (k rest : ℕ) → rest < 10 ^ k → 10 ≤ rest
    → (places_up_to k rest ≡ suc (places_up_to (k - 1) (rest / 10))) × (rest / 10 < 10 ^ (k - 1)) × (2 ≤ k)
unfolding places_up_to
next_place zero rest s h = absurd (omega arith)
next_place (suc zero) rest s h = absurd (omega arith)
next_place (suc (suc f)) rest s h =
    let one_less : suc (suc f) - 1 ≡ suc f = omega arith in
    (rw (le-ltb rest 10 h, one_less), rw one_less (omega (arith, pow-suc 10 (suc f))), omega arith)
