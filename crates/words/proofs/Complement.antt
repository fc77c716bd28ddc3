-- A signed number as its two's complement: of 32 bits by its sign, and of one to eight bytes.
use mathlib.Core.Path.{◌≡◌, refl, sym, ap, ◌∙◌}
use mathlib.Core.Bool.{true, false, true≢false}
use Prim.Native.Nat.{ℕ, zero, suc, ◌+◌, ◌-◌, ◌*◌, ◌/◌, ◌%◌, ◌^◌, ◌≤◌, ◌<◌}
use native.Mathlib.Omega.{arith}
use borrow.Author.Tests.{le-leb}
use lib.Dec.{T, lit≤}
use lib.IntN.{ℤ, pos, negsuc, nat_abs}
use lib.Signed.{non_neg, le_z}
use mir.Syntax.{w32}
use mir.Val.{Fits, SFits, to_z, of_z}
use mir.Facts.{to_z_pos}

-- a number that is cast to 32 bits without a sign
abbrev pub Casts : ℤ → Type 0
Casts z = T (non_neg z) × Fits w32 (nat_abs z)

pub not_negative : (z : ℤ) → SFits w32 z → le_z (pos 0) z ≡ true → Casts z × (nat_abs z ≡ of_z w32 z)
not_negative (pos k) f h = ((tt, record { fits = omega (arith, f.sfits) }), refl)
not_negative (negsuc k) f h = absurd (true≢false (sym h))

-- all 32 bits turned
turned : (k : ℕ) → k < 2 ^ 31 → to_z w32 (4294967295 - (4294967296 - suc k)) ≡ pos k
turned k h = let e : 4294967295 - (4294967296 - suc k) ≡ k = omega arith in ap (to_z w32) e ∙ to_z_pos w32 {n = k} h

pub negative : (z : ℤ) → SFits w32 z → le_z (pos 0) z ≡ false → let y = to_z w32 (4294967295 - of_z w32 z) in
    Casts y × (4294967295 - nat_abs y ≡ of_z w32 z)
negative (pos k) f h = absurd (true≢false (sym (le-leb 0 k (omega arith)) ∙ h))
negative (negsuc k) f h =
    rw (turned k f.sfits) ((tt, record { fits = omega (arith, f.sfits) }), omega (arith, f.sfits))

-- a width of one to eight bytes: its largest number is all ones, and half of its numbers have the first bit
abbrev pub Width : ℕ → Type 0
Width w = (18446744073709551615 / 2 ^ (64 - 8 * w) + 1 ≡ 256 ^ w) × (256 ^ w % 2 ≡ 0) × (256 ^ w ≤ 2 ^ 64)

pub width : (w : ℕ) → 0 < w → w ≤ 8 → Width w
width zero h l = absurd (omega arith)
width (suc zero) h l = (refl, refl, lit≤ tt)
width (suc (suc zero)) h l = (refl, refl, lit≤ tt)
width (suc (suc (suc zero))) h l = (refl, refl, lit≤ tt)
width (suc (suc (suc (suc zero)))) h l = (refl, refl, lit≤ tt)
width (suc (suc (suc (suc (suc zero))))) h l = (refl, refl, lit≤ tt)
width (suc (suc (suc (suc (suc (suc zero)))))) h l = (refl, refl, lit≤ tt)
width (suc (suc (suc (suc (suc (suc (suc zero))))))) h l = (refl, refl, lit≤ tt)
width (suc (suc (suc (suc (suc (suc (suc (suc zero)))))))) h l = (refl, refl, lit≤ tt)
width (suc (suc (suc (suc (suc (suc (suc (suc (suc w))))))))) h l = absurd (omega arith)
