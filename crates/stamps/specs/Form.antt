-- The form YYYY-MM-DDThh:mm:ss.nnnnnnnnnZ: 30 bytes, any digits in its fields.
use Rattle.std.specs.Prelude.{◌≡◌, ℕ, ◌^◌, ◌<◌, Bool, true, false, cond, ◌&&◌, List, [], ◌∷◌, ◌++◌, leb, pos, nat_abs, take, drop}
use Rattle.refusals.specs.Outcome.{Outcome, answered, refused}
use Rattle.civil.specs.Fields.{fields}
use Rattle.civil.specs.declared.CivilDateTime.{CivilDateTime}
use Rattle.words.specs.Decimal.{value_of, in_digits}

-- a number in k digits, and the mark after it
abbrev pub field : ℕ → ℕ → ℕ → List ℕ
field k n mark = in_digits k n ++ (mark ∷ [])

-- the fields in the form, the year without its sign
abbrev pub written : CivilDateTime → List ℕ
written f =
    field 4 (nat_abs f.year) 45 ++ (field 2 f.month 45 ++ (field 2 f.day 84 ++ (field 2 f.hour 58 ++ (field 2 f.minute 58 ++ (field 2 f.second 46 ++ field 9 f.nanos 90)))))

-- the first and the last of all stamps, in the order of their bytes
abbrev pub first : List ℕ
first = written (fields (pos 0) 0 0 0 0 0 0)

abbrev pub last : List ℕ
last = written (fields (pos 9999) 99 99 99 99 99 999999999)

-- as many bytes as in both others, each from the one up to the other
abbrev pub within : List ℕ → List ℕ → List ℕ → Bool
within [] hs [] = true
within [] hs (b ∷ bs) = false
within (l ∷ ls) [] bs = false
within (l ∷ ls) (h ∷ hs) [] = false
within (l ∷ ls) (h ∷ hs) (b ∷ bs) = (leb l b && leb b h) && within ls hs bs

-- the fields at their places
abbrev pub fields_at : List ℕ → CivilDateTime
fields_at s =
    fields (pos (value_of (take 4 s))) (value_of (take 2 (drop 5 s))) (value_of (take 2 (drop 8 s))) (value_of (take 2 (drop 11 s)))
    (value_of (take 2 (drop 14 s))) (value_of (take 2 (drop 17 s))) (value_of (take 9 (drop 20 s)))

-- the fields of bytes in the form: 10 for any other bytes
unfoldable pub stamp_read : List ℕ → Outcome CivilDateTime
stamp_read s = cond (within first last s) (answered (fields_at s)) (refused 10)

-- ---- of private functions only: fields that the form has room for
pub record Fits (f : CivilDateTime) : Type 0 where
  pub natural : f.year ≡ pos (nat_abs f.year)
  pub year : nat_abs f.year < 10 ^ 4
  pub month : f.month < 10 ^ 2
  pub day : f.day < 10 ^ 2
  pub hour : f.hour < 10 ^ 2
  pub minute : f.minute < 10 ^ 2
  pub second : f.second < 10 ^ 2
  pub nanos : f.nanos < 10 ^ 9
