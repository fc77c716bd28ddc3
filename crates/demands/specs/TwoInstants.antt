-- Demand 3, over a regular list of entries, of a scale at a fixed difference from TAI. Counts are in nanoseconds.
--     lead      TAI − the scale: for GPS 19 s
--     first     the scale begins at this count: for GPS at 0
--     there n   what the scale to UTC gives for its count n
--     back u    what UTC to the scale gives for the UTC count u
use Rattle.std.specs.Prelude.{◌≡◌, ◌↔◌, ◌≢◌, ℕ, ◌+◌, ◌^◌, ◌≤◌, ◌<◌, drop}
use mathlib.Core.List.{List, Memᴰ}
use Rattle.refusals.specs.Outcome.{Outcome, answered, refused}
use Rattle.counts.specs.Units.{second}
use Rattle.tables.specs.Entries.{Entry, threshold}

-- the count n of the scale, of 64 bits and from the first on, converts to the UTC count u
abbrev pub Converts : ℕ → (ℕ → Outcome ℕ) → ℕ → ℕ → Type 0
Converts first there n u = (first ≤ n) × (n < 2 ^ 64) × (there n ≡ answered u)

-- the TAI reading t is in the first second from the threshold of an entry after the first
abbrev pub InFirstSecond : List Entry → ℕ → Type 0
InFirstSecond es t = (e : Entry) × Memᴰ e (drop 1 es) × (threshold e ≤ t) × (t < threshold e + second)

pub record TwoInstants (es : List Entry) (lead first : ℕ) (there back : ℕ → Outcome ℕ) : Type 0 where
  -- UTC to the scale refuses exactly if no count of the scale converts to that UTC count;
  pub refused_exactly : (u : ℕ) → u < 2 ^ 64
      → ((k : ℕ) × (back u ≡ refused k)) ↔ ((n : ℕ) → Converts first there n u → ⊥)
  -- otherwise it gives the earliest that does,
  pub the_earliest : (u n : ℕ) → u < 2 ^ 64 → back u ≡ answered n → (n' : ℕ) → Converts first there n' u → n ≤ n'
  -- which converts back exactly.
  pub converts_back : (u n : ℕ) → u < 2 ^ 64 → back u ≡ answered n → Converts first there n u
  -- Two different counts of the scale that both convert share a UTC count exactly if they are one second apart and the
  -- later one's TAI reading is in the first second from the threshold of an entry after the first.
  pub shared_exactly : (n₁ n₂ u₁ u₂ : ℕ) → Converts first there n₁ u₁ → Converts first there n₂ u₂ → n₁ < n₂
      → (u₁ ≡ u₂) ↔ ((n₂ ≡ n₁ + second) × InFirstSecond es (n₂ + lead))
  -- No three share one.
  pub at_most_two : (n₁ n₂ n₃ u : ℕ) → Converts first there n₁ u → Converts first there n₂ u → Converts first there n₃ u
      → n₁ ≢ n₂ → n₂ ≢ n₃ → n₁ ≢ n₃ → ⊥
