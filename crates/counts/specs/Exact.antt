-- Exact integers, and what the 64-bit types hold of them.
use Rattle.std.specs.Prelude.{cond, ℕ, suc, ◌+◌, ◌-◌, ◌^◌, ltb, ℤ, pos, negsuc, ◌-ℤ◌}
use Rattle.refusals.specs.Outcome.{Outcome, answered, refused}
use Rattle.counts.specs.declared.sums.Step.{Step}
use Rattle.counts.specs.declared.sums.Step.TheVariants.{Forward, Back}

-- an exact result as a count: 1 where it is none
abbrev pub count_of : ℤ → Outcome ℕ
count_of (pos k) = cond (ltb k (2 ^ 64)) (answered k) (refused 1)
count_of (negsuc k) = refused 1

-- a count moved by a fixed difference: 1 where that is no count
abbrev pub up : ℕ → ℕ → Outcome ℕ
up d n = count_of (pos (n + d))

abbrev pub down : ℕ → ℕ → Outcome ℕ
down d n = count_of (pos n -ℤ pos d)

-- an exact result as a duration: 1 where it is none
abbrev pub duration_of : ℤ → Outcome ℤ
duration_of (pos k) = cond (ltb k (2 ^ 63)) (answered (pos k)) (refused 1)
duration_of (negsuc k) = cond (ltb k (2 ^ 63)) (answered (negsuc k)) (refused 1)

-- the count nearest to an exact result
abbrev pub nearest_count : ℤ → ℕ
nearest_count (pos k) = cond (ltb k (2 ^ 64)) k (2 ^ 64 - 1)
nearest_count (negsuc k) = 0

-- a duration by its sign
abbrev pub step_of : ℤ → Step
step_of (pos k) = Forward k
step_of (negsuc k) = Back (suc k)
