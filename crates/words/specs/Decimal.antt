-- Numbers in decimal digits: their value, and their digits as bytes.
use Rattle.std.specs.Prelude.{ℕ, zero, suc, ◌+◌, ◌-◌, ◌*◌, ◌/◌, ◌%◌, ◌^◌, Bool, true, cond, ◌&&◌, List, [], ◌∷◌, ◌++◌, leb, ltb, length}
use Rattle.refusals.specs.Outcome.{Outcome, answered, refused}

-- `0` to `9`
abbrev pub is_digit : ℕ → Bool
is_digit b = leb 48 b && leb b 57

abbrev pub all_digits : List ℕ → Bool
all_digits [] = true
all_digits (b ∷ bs) = is_digit b && all_digits bs

-- the value of digits that follow digits of value v
abbrev pub value_from : ℕ → List ℕ → ℕ
value_from v [] = v
value_from v (b ∷ bs) = value_from (v * 10 + (b - 48)) bs

-- the value of digits; zeros in front change nothing
abbrev pub value_of : List ℕ → ℕ
value_of bs = value_from 0 bs

-- a count in 1 to 20 digits: 10 where the bytes are none
abbrev pub count_read : List ℕ → Outcome ℕ
count_read bs = cond ((ltb 0 (length bs) && leb (length bs) 20) && (all_digits bs && ltb (value_of bs) (2 ^ 64))) (answered (value_of bs)) (refused 10)

-- n in exactly k digits: its last k
abbrev pub in_digits : ℕ → ℕ → List ℕ
in_digits zero n = []
in_digits (suc k) n = in_digits k (n / 10) ++ ((48 + n % 10) ∷ [])

-- how many digits n has, where they are at most f
unfoldable pub places_up_to : ℕ → ℕ → ℕ
places_up_to zero n = 0
places_up_to (suc f) n = cond (ltb n 10) 1 (suc (places_up_to f (n / 10)))

-- the digits of a count, with no zero in front
abbrev pub decimal : ℕ → List ℕ
decimal n = in_digits (places_up_to 20 n) n
