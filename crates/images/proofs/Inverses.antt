-- Numbers of one width to bytes and back, and bytes to numbers and back.
use mathlib.Core.Path.{◌≡◌, refl, ◌∙◌}
use mathlib.Core.List.{List, [], ◌∷◌, ◌++◌, map, append_assoc}
use Prim.Native.Nat.{ℕ, zero, suc, ◌+◌, ◌*◌, ◌^◌, ◌≤◌}
use native.Mathlib.Nat.{mul-zero, mul-suc, pow-le-pow_right}
use native.Mathlib.Omega.{arith}
use lib.Dec.{lit<}
use lib.ListN.{length, get_or, take, drop, length-drop}
use lib.Seq.{take_at, drop_at, take-add}
use Rattle.words.specs.Words.{bytes_of}
use Rattle.words.proofs.Bytes.{bytes_count}
use Rattle.words.proofs.Inverses.{Below, below_drop, number_of_bytes, bytes_of_part, part_below}
use Rattle.images.specs.Image.{numbers_in, bytes_of_all}

-- a map undone element by element
pub undone : {A B : Type 0} (d : A) (f : A → B) (g : B → A) (xs : List A)
    → ((i : ℕ) → g (f (get_or xs i d)) ≡ get_or xs i d) → map g (map f xs) ≡ xs
undone d f g [] h = refl
undone d f g (x ∷ xs) h = λ i. h 0 i ∷ undone d f g xs (λ j. h (suc j)) i

pub numbers_of_bytes : (k : ℕ) (ns rest : List ℕ) → Below (256 ^ k) ns
    → numbers_in k k (length ns) (bytes_of_all k ns ++ rest) ≡ ns
unfolding numbers_in bytes_of_all
numbers_of_bytes k [] rest h = refl
numbers_of_bytes k (n ∷ ns) rest h =
    let first = take_at (bytes_of k n) (bytes_of_all k ns ++ rest) k (bytes_count k n) in
    let others = drop_at (bytes_of k n) (bytes_of_all k ns ++ rest) k (bytes_count k n) in
    rw (append_assoc, first, others, number_of_bytes k n (h 0), numbers_of_bytes k ns rest (λ j. h (suc j)))

pub bytes_of_numbers : (k n : ℕ) (b : List ℕ) → Below 256 b → k * n ≤ length b
    → bytes_of_all k (numbers_in k k n b) ≡ take (k * n) b
unfolding numbers_in bytes_of_all
bytes_of_numbers k zero b h l = rw mul-zero
bytes_of_numbers k (suc n) b h l =
    let whole : k * suc n ≡ k + k * n = mul-suc k n ∙ omega arith in
    let rest : k * n ≤ length (drop k b) = rw length-drop (omega arith) in
    rw (bytes_of_part k b h (omega arith), bytes_of_numbers k n (drop k b) (below_drop k b h) rest, whole, take-add)

pub numbers_below : (k stride n : ℕ) (b : List ℕ) → Below 256 b → Below (256 ^ k) (numbers_in k stride n b)
unfolding numbers_in
numbers_below k stride zero b h i = pow-le-pow_right {n = 256} (lit< tt) {i = 0} {j = k} (omega arith)
numbers_below k stride (suc n) b h zero = part_below k b h
numbers_below k stride (suc n) b h (suc i) = numbers_below k stride n (drop stride b) (below_drop stride b h) i
