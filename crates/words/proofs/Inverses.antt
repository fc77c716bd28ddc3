-- A number to bytes and back, and bytes to a number and back.
use mathlib.Core.Path.{◌≡◌, refl, sym, ap, ◌∙◌}
use mathlib.Core.List.{List, [], ◌∷◌}
use Prim.Native.Nat.{ℕ, zero, suc, ◌+◌, ◌*◌, ◌/◌, ◌%◌, ◌^◌, ◌≤◌, ◌<◌}
use native.Mathlib.Nat.{pow-suc, pow-le-pow_right}
use native.Mathlib.Omega.{arith}
use lib.Dec.{lit<}
use lib.ListN.{length, get_or, take, drop, length-take}
use lib.Seq.{get_or-drop, length-take-le}
use Rattle.words.specs.Words.{number_in, bytes_of}

-- each number of a list is below a bound
abbrev pub Below : ℕ → List ℕ → Type 0
Below m ns = (i : ℕ) → get_or ns i 0 < m

below_take : {m : ℕ} (k : ℕ) (ns : List ℕ) → Below m ns → Below m (take k ns)
below_take zero ns h i = let first = h 0 in omega arith
below_take (suc k) [] h i = h i
below_take (suc k) (x ∷ ns) h zero = h 0
below_take (suc k) (x ∷ ns) h (suc i) = below_take k ns (λ j. h (suc j)) i

pub below_drop : {m : ℕ} (k : ℕ) (ns : List ℕ) → Below m ns → Below m (drop k ns)
below_drop k ns h i = rw get_or-drop (h (k + i))

pub number_of_bytes : (k n : ℕ) → n < 256 ^ k → number_in (bytes_of k n) ≡ n
unfolding number_in bytes_of
number_of_bytes zero n h = omega arith
number_of_bytes (suc k) n h =
    let p = pow-suc 256 k in
    let rest : number_in (bytes_of k (n / 256)) ≡ n / 256 = number_of_bytes k (n / 256) (omega arith) in
    omega arith

bytes_of_number : (b : List ℕ) → Below 256 b → bytes_of (length b) (number_in b) ≡ b
unfolding number_in bytes_of
bytes_of_number [] h = refl
bytes_of_number (x ∷ b) h =
    let first = h 0 in
    let low : (x + 256 * number_in b) % 256 ≡ x = omega arith in
    let high : (x + 256 * number_in b) / 256 ≡ number_in b = omega arith in
    rw (low, high, bytes_of_number b (λ j. h (suc j)))

pub bytes_of_part : (k : ℕ) (b : List ℕ) → Below 256 b → k ≤ length b → bytes_of k (number_in (take k b)) ≡ take k b
bytes_of_part k b h l =
    ap (λ (j : ℕ). bytes_of j (number_in (take k b))) (sym (length-take-le k b l))
    ∙ bytes_of_number (take k b) (below_take k b h)

number_below : (b : List ℕ) → Below 256 b → number_in b < 256 ^ length b
unfolding number_in
number_below [] h = lit< tt
number_below (x ∷ b) h =
    let first = h 0 in
    let rest = number_below b (λ j. h (suc j)) in
    let p = pow-suc 256 (length b) in omega arith

pub part_below : (k : ℕ) (b : List ℕ) → Below 256 b → number_in (take k b) < 256 ^ k
part_below k b h =
    let few : length (take k b) ≤ k = rw length-take (omega arith) in
    omega (arith, number_below (take k b) (below_take k b h), pow-le-pow_right {n = 256} (lit< tt) few)
