-- A number in bytes, read and written a byte at a time.
use mathlib.Core.Path.{◌≡◌, refl, ap, ◌∙◌}
use mathlib.Core.List.{List, ◌++◌, append_assoc, reverse-append}
use Prim.Native.Nat.{ℕ, zero, suc, ◌+◌, ◌-◌, ◌*◌, ◌/◌, ◌%◌, ◌^◌, ◌≤◌, ◌<◌}
use native.Mathlib.Nat.{pow-suc, pow-le-pow_right}
use native.Mathlib.Omega.{arith}
use lib.Dec.{lit<}
use lib.ListN.{length, get_or, take, drop, set}
use lib.Seq.{take-suc, take-suc-set, drop-cons}
use Rattle.words.specs.Words.{number_in, number_high_first, bytes_of}

-- ---- low byte first, without a loop

module _ (b : List ℕ) where
  -- one byte and the bytes after it
  first_byte : (k at next : ℕ) → suc at ≡ next → at < length b
      → number_in (take (suc k) (drop at b)) ≡ get_or b at 0 + 256 * number_in (take k (drop next b))
  unfolding number_in
  first_byte k at next e h = ap (λ (l : List ℕ). number_in (take (suc k) l)) (drop-cons b at 0 h) ∙ rw e

  -- four bytes, each 256 times as heavy as the one before
  abbrev four : ℕ → ℕ
  four at = get_or b at 0 + get_or b (at + 1) 0 * 256 + get_or b (at + 2) 0 * 65_536 + get_or b (at + 3) 0 * 16_777_216

  first-four : (k at : ℕ) → at + 4 ≤ length b
      → number_in (take (suc (suc (suc (suc k)))) (drop at b))
      ≡ four at + number_in (take k (drop (at + 4) b)) * 4_294_967_296
  first-four k at h =
      omega (
        arith,
        first_byte (suc (suc (suc k))) at (at + 1) (omega arith) (omega arith),
        first_byte (suc (suc k)) (at + 1) (at + 2) (omega arith) (omega arith),
        first_byte (suc k) (at + 2) (at + 3) (omega arith) (omega arith),
        first_byte k (at + 3) (at + 4) (omega arith) (omega arith),
      )

  pub number_in_4 : (at : ℕ) → at + 4 ≤ length b → four at ≡ number_in (take 4 (drop at b))
  unfolding number_in
  number_in_4 at h = omega (arith, first-four 0 at h)

  pub number_in_8 : (at : ℕ) → at + 8 ≤ length b
      → number_in (take 4 (drop at b)) + number_in (take 4 (drop (at + 4) b)) * 4_294_967_296
      ≡ number_in (take 8 (drop at b))
  number_in_8 at h = omega (arith, first-four 4 at (omega arith), number_in_4 at (omega arith))

-- ---- high byte first, from the first byte to the last

pub next_high : (b : List ℕ) (i : ℕ) → i < length b
    → number_high_first (take (i + 1) b) ≡ number_high_first (take i b) * 256 + get_or b i 0
unfolding number_in
next_high b i h =
    let more : i + 1 ≡ suc i = omega arith in
    rw (more, take-suc b i 0 h, reverse-append) (omega arith)

pub byte_above : (n d i j : ℕ) → n < 256 ^ i → d < 256 → suc i ≡ j → n * 256 + d < 256 ^ j
byte_above n d i j h l e = let p : 256 ^ j ≡ 256 ^ i * 256 = rw (← e, pow-suc) in omega arith

-- fewer than eight bytes leave room for another
pub room_for_byte : (n k : ℕ) → n < 256 ^ k → k ≤ 7 → n < 256 ^ 7
room_for_byte n k h l = omega (arith, pow-le-pow_right {n = 256} (lit< tt) l)

-- ---- writing from the first byte to the last

-- what is left to be written, one byte fewer
pub byte-written : (b : List ℕ) (width i rest : ℕ) → i < length b → i < width
    → take (i + 1) (set b i (rest % 256)) ++ bytes_of (width - (i + 1)) (rest / 256)
    ≡ take i b ++ bytes_of (width - i) rest
unfolding bytes_of
byte-written b width i rest l h =
    let w : width - i ≡ suc (width - (i + 1)) = omega arith in
    let more : i + 1 ≡ suc i = omega arith in
    rw (w, more, take-suc-set b i (rest % 256) l, append_assoc)

pub bytes_count : (k n : ℕ) → length (bytes_of k n) ≡ k
unfolding bytes_of
bytes_count zero n = refl
bytes_count (suc k) n = ap suc (bytes_count k _)
