-- The number of each refusal.
use Rattle.std.specs.Prelude.{ℕ}
use Rattle.refusals.specs.declared.Refusal.{Refusal}
use Rattle.refusals.specs.declared.Refusal.TheVariants as refusal

abbrev pub number_of : Refusal → ℕ
number_of refusal.Overflow = 1
number_of refusal.InvalidSeconds = 2
number_of refusal.NotStrictlyAscending = 3
number_of refusal.NonUnitIncrement = 4
number_of refusal.BufferFull = 5
number_of refusal.EmptyTable = 6
number_of refusal.OffsetOverflow = 7
number_of refusal.BadTable = 8
number_of refusal.OffsetRange = 9
number_of refusal.BadLine = 10
number_of refusal.InvalidNanos = 11
number_of refusal.BadList = 12
number_of refusal.NotOnDays = 13
number_of refusal.NoInsertedSecond = 14
number_of refusal.NoSuchMonth = 15
number_of refusal.NoSuchDay = 16
number_of refusal.NoSuchHour = 17
number_of refusal.NoSuchMinute = 18
number_of refusal.NoSuchSecond = 19
