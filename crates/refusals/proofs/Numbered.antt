-- Which refusal has a number. Written by tools/check-refusals from README's table.
use mathlib.Core.Path.{◌≡◌, refl}
use mathlib.Core.List.{[], ◌∷◌}
use Prim.Native.Nat.{ℕ, ◌-◌}
use lib.ListN.{get_or}
use Rattle.refusals.specs.Number.{number_of}
use Rattle.refusals.specs.declared.Refusal.{Refusal}
use Rattle.refusals.specs.declared.Refusal.TheVariants as refusal

unfoldable pub numbered : ℕ → Refusal
numbered k =
    get_or
    (refusal.Overflow ∷
    refusal.InvalidSeconds ∷
    refusal.NotStrictlyAscending ∷
    refusal.NonUnitIncrement ∷
    refusal.BufferFull ∷
    refusal.EmptyTable ∷
    refusal.OffsetOverflow ∷
    refusal.BadTable ∷
    refusal.OffsetRange ∷
    refusal.BadLine ∷
    refusal.InvalidNanos ∷
    refusal.BadList ∷
    refusal.NotOnDays ∷
    refusal.NoInsertedSecond ∷
    refusal.NoSuchMonth ∷
    refusal.NoSuchDay ∷
    refusal.NoSuchHour ∷
    refusal.NoSuchMinute ∷
    refusal.NoSuchSecond ∷
    [])
    (k - 1)
    refusal.Overflow

pub numbered_again : (r : Refusal) → numbered (number_of r) ≡ r
unfolding numbered
numbered_again refusal.Overflow = refl
numbered_again refusal.InvalidSeconds = refl
numbered_again refusal.NotStrictlyAscending = refl
numbered_again refusal.NonUnitIncrement = refl
numbered_again refusal.BufferFull = refl
numbered_again refusal.EmptyTable = refl
numbered_again refusal.OffsetOverflow = refl
numbered_again refusal.BadTable = refl
numbered_again refusal.OffsetRange = refl
numbered_again refusal.BadLine = refl
numbered_again refusal.InvalidNanos = refl
numbered_again refusal.BadList = refl
numbered_again refusal.NotOnDays = refl
numbered_again refusal.NoInsertedSecond = refl
numbered_again refusal.NoSuchMonth = refl
numbered_again refusal.NoSuchDay = refl
numbered_again refusal.NoSuchHour = refl
numbered_again refusal.NoSuchMinute = refl
numbered_again refusal.NoSuchSecond = refl
