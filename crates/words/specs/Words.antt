-- Numbers in bytes.
use Rattle.std.specs.Prelude.{cond, List, [], ◌∷◌, reverse, ℕ, zero, suc, ◌+◌, ◌*◌, ◌/◌, ◌%◌, ◌-◌, ◌^◌, ltb, ℤ, pos, negsuc}

-- the number that bytes hold, low byte first
unfoldable pub number_in : List ℕ → ℕ
number_in [] = 0
number_in (b ∷ bs) = b + 256 * number_in bs

-- the number that bytes hold, high byte first
abbrev pub number_high_first : List ℕ → ℕ
number_high_first bs = number_in (reverse bs)

-- a number in k bytes, low byte first
unfoldable pub bytes_of : ℕ → ℕ → List ℕ
bytes_of zero n = []
bytes_of (suc k) n = n % 256 ∷ bytes_of k (n / 256)

-- the number whose two's complement in k bytes is n
abbrev pub signed_in : ℕ → ℕ → ℤ
signed_in k n = cond (ltb (2 * n) (256 ^ k)) (pos n) (negsuc (256 ^ k - suc n))
