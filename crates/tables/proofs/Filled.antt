-- The table that thresholds and offsets make, with zeros after them.
use mathlib.Core.Path.{◌≡◌, refl, ap}
use mathlib.Core.List.{List, [], ◌∷◌, ◌++◌, map}
use Prim.Native.Nat.{ℕ, zero, suc, ◌-◌}
use native.Mathlib.Nat.{sub-zero, zero-sub, suc-sub-suc}
use native.Mathlib.Omega.{arith}
use lib.ListN.{length, drop, replicate}
use lib.IntN.{ℤ, pos}
use Rattle.tables.specs.Entries.{threshold, offset}
use Rattle.tables.specs.Slots.{paired, no_expiry, table_of}
use Rattle.tables.specs.declared.LeapTable.{LeapTable}
use Rattle.tables.proofs.FirstSlots.{paired_length}

drop_same : {A : Type 0} (n m : ℕ) (z : A) → drop n (replicate m z) ≡ replicate (m - n) z
drop_same zero m z = rw sub-zero
drop_same (suc n) zero z = rw zero-sub
drop_same (suc n) (suc m) z = rw suc-sub-suc (drop_same n m z)

thresholds-of : (xs : List ℕ) (zs : List ℤ) → length xs ≡ length zs → map threshold (paired xs zs) ≡ xs
unfolding paired
thresholds-of [] zs e = refl
thresholds-of (x ∷ xs) [] e = absurd (omega (arith, e))
thresholds-of (x ∷ xs) (z ∷ zs) e = ap (λ (l : List ℕ). x ∷ l) (thresholds-of xs zs (omega (arith, e)))

offsets_of : (xs : List ℕ) (zs : List ℤ) → length xs ≡ length zs → map offset (paired xs zs) ≡ zs
unfolding paired
offsets_of [] [] e = refl
offsets_of [] (z ∷ zs) e = absurd (omega (arith, e))
offsets_of (x ∷ xs) [] e = absurd (omega (arith, e))
offsets_of (x ∷ xs) (z ∷ zs) e = ap (λ (l : List ℤ). z ∷ l) (offsets_of xs zs (omega (arith, e)))

-- thresholds and offsets, and zeros after them
pub table_is : (xs : List ℕ) (zs : List ℤ) → length xs ≡ length zs
    → ◌≡◌ {A = LeapTable}
    (record {
      thresholds = xs ++ drop (length xs) (replicate 64 0);
      offsets = zs ++ drop (length xs) (replicate 64 (pos 0));
      len = length xs;
      expiry = no_expiry;
    })
    (table_of (paired xs zs))
table_is xs zs e =
    let n : length (paired xs zs) ≡ length xs = omega (arith, paired_length xs zs) in
    rw (
      n,
      thresholds-of xs zs e,
      offsets_of xs zs e,
      ← drop_same {A = ℕ} (length xs) 64 0,
      ← drop_same (length xs) 64 (pos 0),
    )
