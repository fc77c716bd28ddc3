-- The published leap-seconds.list: what a line of it is, and the table that the whole makes.
use Rattle.std.specs.Prelude.{Bool, true, false, cond, ◌&&◌, ◌||◌, List, [], ◌∷◌, ℕ, suc, ◌+◌, ◌-◌, ◌^◌, eqb, ltb, length, drop, ℤ, pos, ◌+ℤ◌, Option, None, Some}
use Rattle.std.proofs.Math.IntN.{sub_ℕ}
use Rattle.refusals.specs.Outcome.{Outcome, answered, refused}
use Rattle.words.specs.Decimal.{is_digit, count_read}
use Rattle.texts.specs.Lines.{lines_of}
use Rattle.tables.specs.Slots.{table_of}
use Rattle.tables.specs.declared.LeapTable.{LeapTable}
use Rattle.records.specs.Records.{Record, record_of, table_from}

-- ---- parts of a line
-- the leading bytes that pass a test
unfoldable pub take_while : (ℕ → Bool) → List ℕ → List ℕ
take_while test [] = []
take_while test (b ∷ bs) = cond (test b) (b ∷ take_while test bs) []

-- the bytes after them
unfoldable pub drop_while : (ℕ → Bool) → List ℕ → List ℕ
drop_while test [] = []
drop_while test (b ∷ bs) = cond (test b) (drop_while test bs) (b ∷ bs)

-- the first byte passes a test; `empty` where there is none
abbrev pub begins : Bool → (ℕ → Bool) → List ℕ → Bool
begins empty test [] = empty
begins empty test (b ∷ bs) = test b

-- a space or a tab
abbrev pub is_blank : ℕ → Bool
is_blank b = eqb b 32 || eqb b 9

-- the sign of a comment, `#`
abbrev pub is_hash : ℕ → Bool
is_hash b = eqb b 35

-- the two bytes of an expiry, `#@`
abbrev pub begins_expiry : List ℕ → Bool
begins_expiry l = begins false is_hash l && begins false (λ b. eqb b 64) (drop 1 l)

-- the last byte is 13, as in a file whose lines end with CR LF
unfoldable pub ends_in_return : List ℕ → Bool
ends_in_return [] = false
ends_in_return (b ∷ bs) = cond (eqb (length bs) 0) (eqb b 13) (ends_in_return bs)

-- ---- a line
-- a comment or blanks; a record; an expiry in NTP seconds; or none of these
pub data Line : Type 0 where
  passes : Line
  holds : Record → Line
  expires : ℕ → Line
  malformed : Line

-- a number of 31 bits; 12 where there is none
abbrev pub in31_bits : Outcome ℕ → Outcome ℕ
in31_bits (answered n) = cond (ltb n (2 ^ 31)) (answered n) (refused 12)
in31_bits (refused k) = refused 12

-- one or more blanks, a number, any blanks, and then nothing or a byte that passes a test
abbrev pub field_read : (ℕ → Bool) → List ℕ → Outcome ℕ
field_read test rest =
    cond (begins false is_blank rest && begins true test (drop_while is_blank (drop_while is_digit (drop_while is_blank rest))))
    (count_read (take_while is_digit (drop_while is_blank rest))) (refused 12)

-- the rest of a line after the NTP seconds: the offset, and perhaps a comment
abbrev pub offset_read : List ℕ → Outcome ℕ
offset_read rest = in31_bits (field_read is_hash rest)

-- NTP seconds are counted from 1900: 2,524,953,600 of them up to 1980-01-06
abbrev pub record_at : ℕ → ℕ → Record
record_at ntp n = record_of (sub_ℕ (ntp + n) 2_524_953_600) (pos n)

-- a line with two numbers, where both are read
abbrev pub line_with : Outcome ℕ → Outcome ℕ → Line
line_with (answered ntp) (answered n) = holds (record_at ntp n)
line_with (answered ntp) (refused k) = malformed
line_with (refused k) n = malformed

-- an expiry, where its number is read
abbrev pub expires_at : Outcome ℕ → Line
expires_at (answered ntp) = expires ntp
expires_at (refused k) = malformed

-- the rest of a line after `#@`: the NTP seconds, and no comment
abbrev pub expiry_read : List ℕ → Line
expiry_read rest = expires_at (field_read (λ b. false) rest)

-- an expiry begins with `#@`, and any other line with `#` is a comment; a line of blanks may be empty; all else is data,
-- which begins with its first digit
abbrev pub line_read : List ℕ → Line
line_read l =
    cond (begins_expiry l) (expiry_read (drop 2 l))
    (cond (ends_in_return l) malformed
    (cond (begins false is_hash l || eqb (length (drop_while is_blank l)) 0) passes
    (line_with (count_read (take_while is_digit l)) (offset_read (drop_while is_digit l)))))

-- ---- the file
abbrev pub is_expiry : Line → Bool
is_expiry passes = false
is_expiry (holds r) = false
is_expiry (expires ntp) = true
is_expiry malformed = false

-- a line that is malformed by itself, or an expiry where `dated` says that one came before it
abbrev pub is_malformed : Bool → Line → Bool
is_malformed dated passes = false
is_malformed dated (holds r) = false
is_malformed dated (expires ntp) = dated
is_malformed dated malformed = true

-- the number of the first malformed line, where the first line is number k and `dated` says whether an expiry came before
-- it; 0 where there is none
unfoldable pub first_malformed : Bool → ℕ → List (List ℕ) → ℕ
first_malformed dated k [] = 0
first_malformed dated k (l ∷ ls) =
    cond (is_malformed dated (line_read l)) k (first_malformed (dated || is_expiry (line_read l)) (suc k) ls)

-- the records of lines, in their order
abbrev pub with_record : Line → List Record → List Record
with_record passes rs = rs
with_record (holds r) rs = r ∷ rs
with_record (expires ntp) rs = rs
with_record malformed rs = rs

unfoldable pub records_in : List (List ℕ) → List Record
records_in [] = []
records_in (l ∷ ls) = with_record (line_read l) (records_in ls)

-- the NTP second of the first expiry
abbrev pub expiry_or : Line → Option ℕ → Option ℕ
expiry_or passes later = later
expiry_or (holds r) later = later
expiry_or (expires ntp) later = Some ntp
expiry_or malformed later = later

unfoldable pub first_expiry : List (List ℕ) → Option ℕ
first_expiry [] = None
first_expiry (l ∷ ls) = expiry_or (line_read l) (first_expiry ls)

-- the offset of the last record, where the one before them all is n
unfoldable pub last_offset : ℤ → List Record → ℤ
last_offset n [] = n
last_offset n (r ∷ rs) = last_offset r.offset rs

-- the TAI second of an expiry by an offset
abbrev pub expiry_second : Option ℕ → ℤ → Option ℤ
expiry_second None n = None
expiry_second (Some ntp) n = Some (sub_ℕ ntp 2_524_953_600 +ℤ n)

-- the table of records and an expiry in NTP seconds, which the last record's offset brings to TAI
abbrev pub table_with : Option ℕ → List Record → ℕ × LeapTable
table_with expiry rs = table_from 12 (expiry_second expiry (last_offset (pos 0) rs)) rs

-- what the reader answers: a number, 0 with a table; the number of a malformed line, or 0; how many records are dropped;
-- the table, or the one with no entry
pub record Reading : Type 0 where
  pub number : ℕ
  pub line : ℕ
  pub dropped : ℕ
  pub table : LeapTable

abbrev pub reading : ℕ → ℕ → ℕ → LeapTable → Reading
reading k l d t = record { number = k; line = l; dropped = d; table = t }

-- a refusal of the form at a line, or at none
abbrev pub bad_list : ℕ → Reading
bad_list l = reading 12 l 0 (table_of [])

-- what n records make: those that are no entry are dropped
abbrev pub of_records : ℕ → ℕ × LeapTable → Reading
of_records n x = reading x.0 0 (cond (eqb x.0 0) (n - x.1.len) 0) x.1

-- 12 with the first malformed line, 12 where no record has offset 19, then as the records and the expiry
abbrev pub of_lines : List (List ℕ) → Reading
of_lines ls =
    cond (eqb (first_malformed false 1 ls) 0)
    (of_records (length (records_in ls)) (table_with (first_expiry ls) (records_in ls)))
    (bad_list (first_malformed false 1 ls))

-- a file of at most 65,536 bytes
abbrev pub list_read : List ℕ → Reading
list_read bs = cond (ltb 65_536 (length bs)) (bad_list 0) (of_lines (lines_of bs))
