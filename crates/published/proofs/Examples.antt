-- Worked examples of the reader: a list of files, and what each is read as.
use mathlib.Core.Path.{◌≡◌, refl}
use mathlib.Core.List.{List, [], ◌∷◌, map}
use Prim.Native.Nat.{ℕ}
use lib.IntN.{pos}
use Rattle.tables.specs.Entries.{entry}
use Rattle.tables.specs.Slots.{table_of}
use Rattle.tables.specs.Expiry.{with_expiry}
use Rattle.records.specs.Records.{has_first, up_to_first, after_first, order_refusal, some_above}
use Rattle.published.specs.LeapSecondsList.{take_while, drop_while, ends_in_return, first_malformed, records_in}
use Rattle.published.specs.LeapSecondsList.{first_expiry, last_offset, Reading, reading, bad_list, list_read}

abbrev pub files : List (List ℕ)
files =
    -- an entry and one after it; the last line may lack its end: '2524521600 19\n2571782400 20'
    (50 ∷ 53 ∷ 50 ∷ 52 ∷ 53 ∷ 50 ∷ 49 ∷ 54 ∷ 48 ∷ 48 ∷ 32 ∷ 49 ∷ 57 ∷ 10 ∷ 50 ∷ 53 ∷ 55 ∷ 49 ∷ 55 ∷ 56 ∷ 50 ∷ 52 ∷ 48 ∷ 48 ∷ 32 ∷ 50 ∷ 48 ∷ []) ∷
    -- a comment, blanks, leading zeros, and a comment without a blank: '#c\n \t\n0009\t19#c\n'
    (35 ∷ 99 ∷ 10 ∷ 32 ∷ 9 ∷ 10 ∷ 48 ∷ 48 ∷ 48 ∷ 57 ∷ 9 ∷ 49 ∷ 57 ∷ 35 ∷ 99 ∷ 10 ∷ []) ∷
    -- a dropped line: '8 18\n9 19'
    (56 ∷ 32 ∷ 49 ∷ 56 ∷ 10 ∷ 57 ∷ 32 ∷ 49 ∷ 57 ∷ []) ∷
    -- no byte: ''
    [] ∷
    -- data, and no offset 19: '9 18'
    (57 ∷ 32 ∷ 49 ∷ 56 ∷ []) ∷
    -- a letter after the offset, in line 2: '#\n9 19s'
    (35 ∷ 10 ∷ 57 ∷ 32 ∷ 49 ∷ 57 ∷ 115 ∷ []) ∷
    -- a leading blank: ' 9 19'
    (32 ∷ 57 ∷ 32 ∷ 49 ∷ 57 ∷ []) ∷
    -- a comment that ends in CR: '#\r\n9 19'
    (35 ∷ 13 ∷ 10 ∷ 57 ∷ 32 ∷ 49 ∷ 57 ∷ []) ∷
    -- a number of 65 bits: '18446744073709551616 19'
    (49 ∷ 56 ∷ 52 ∷ 52 ∷ 54 ∷ 55 ∷ 52 ∷ 52 ∷ 48 ∷ 55 ∷ 51 ∷ 55 ∷ 48 ∷ 57 ∷ 53 ∷ 53 ∷ 49 ∷ 54 ∷ 49 ∷ 54 ∷ 32 ∷ 49 ∷ 57 ∷ []) ∷
    -- an offset of 32 bits: '9 2147483648'
    (57 ∷ 32 ∷ 50 ∷ 49 ∷ 52 ∷ 55 ∷ 52 ∷ 56 ∷ 51 ∷ 54 ∷ 52 ∷ 56 ∷ []) ∷
    -- a dropped line whose NTP second does not rise: '9 18\n9 19'
    (57 ∷ 32 ∷ 49 ∷ 56 ∷ 10 ∷ 57 ∷ 32 ∷ 49 ∷ 57 ∷ []) ∷
    -- an offset that is left out: '8 17\n9 19'
    (56 ∷ 32 ∷ 49 ∷ 55 ∷ 10 ∷ 57 ∷ 32 ∷ 49 ∷ 57 ∷ []) ∷
    -- no offset after the largest: '8 2147483647\n9 19'
    (56 ∷ 32 ∷ 50 ∷ 49 ∷ 52 ∷ 55 ∷ 52 ∷ 56 ∷ 51 ∷ 54 ∷ 52 ∷ 55 ∷ 10 ∷ 57 ∷ 32 ∷ 49 ∷ 57 ∷ []) ∷
    -- a threshold of 0, and the first above it: '9 19\n2524953580 20'
    (57 ∷ 32 ∷ 49 ∷ 57 ∷ 10 ∷ 50 ∷ 53 ∷ 50 ∷ 52 ∷ 57 ∷ 53 ∷ 51 ∷ 53 ∷ 56 ∷ 48 ∷ 32 ∷ 50 ∷ 48 ∷ []) ∷
    -- '9 19\n2524953581 20'
    (57 ∷ 32 ∷ 49 ∷ 57 ∷ 10 ∷ 50 ∷ 53 ∷ 50 ∷ 52 ∷ 57 ∷ 53 ∷ 51 ∷ 53 ∷ 56 ∷ 49 ∷ 32 ∷ 50 ∷ 48 ∷ []) ∷
    -- the last second that is a count, and the next: '9 19\n20971697653 20'
    (57 ∷ 32 ∷ 49 ∷ 57 ∷ 10 ∷ 50 ∷ 48 ∷ 57 ∷ 55 ∷ 49 ∷ 54 ∷ 57 ∷ 55 ∷ 54 ∷ 53 ∷ 51 ∷ 32 ∷ 50 ∷ 48 ∷ []) ∷
    -- '9 19\n20971697654 20'
    (57 ∷ 32 ∷ 49 ∷ 57 ∷ 10 ∷ 50 ∷ 48 ∷ 57 ∷ 55 ∷ 49 ∷ 54 ∷ 57 ∷ 55 ∷ 54 ∷ 53 ∷ 52 ∷ 32 ∷ 50 ∷ 48 ∷ []) ∷
    -- 1 before 3: the second record does not rise: '9 18\n9 19\n20971697654 20'
    (57 ∷ 32 ∷ 49 ∷ 56 ∷ 10 ∷ 57 ∷ 32 ∷ 49 ∷ 57 ∷ 10 ∷ 50 ∷ 48 ∷ 57 ∷ 55 ∷ 49 ∷ 54 ∷ 57 ∷ 55 ∷ 54 ∷ 53 ∷ 52 ∷ 32 ∷ 50 ∷ 48 ∷ []) ∷
    -- an expiry before the data: '#@ 2524953600\n9 19'
    (35 ∷ 64 ∷ 32 ∷ 50 ∷ 53 ∷ 50 ∷ 52 ∷ 57 ∷ 53 ∷ 51 ∷ 54 ∷ 48 ∷ 48 ∷ 10 ∷ 57 ∷ 32 ∷ 49 ∷ 57 ∷ []) ∷
    -- an expiry after the data, by the last offset, with a tab, a zero and blanks: '9 19\n2571782400 20\n#@\t03991593600 \t\n'
    (57 ∷ 32 ∷ 49 ∷ 57 ∷ 10 ∷ 50 ∷ 53 ∷ 55 ∷ 49 ∷ 55 ∷ 56 ∷ 50 ∷ 52 ∷ 48 ∷ 48 ∷ 32 ∷ 50 ∷ 48 ∷ 10 ∷ 35 ∷ 64 ∷ 9 ∷ 48 ∷ 51 ∷ 57 ∷ 57 ∷ 49 ∷ 53 ∷ 57 ∷ 51 ∷ 54 ∷ 48 ∷ 48 ∷ 32 ∷ 9 ∷ 10 ∷ []) ∷
    -- a second expiry, in line 3: '#@ 2524953600\n#\n#@ 2524953600\n9 19'
    (35 ∷ 64 ∷ 32 ∷ 50 ∷ 53 ∷ 50 ∷ 52 ∷ 57 ∷ 53 ∷ 51 ∷ 54 ∷ 48 ∷ 48 ∷ 10 ∷ 35 ∷ 10 ∷ 35 ∷ 64 ∷ 32 ∷ 50 ∷ 53 ∷ 50 ∷ 52 ∷ 57 ∷ 53 ∷ 51 ∷ 54 ∷ 48 ∷ 48 ∷ 10 ∷ 57 ∷ 32 ∷ 49 ∷ 57 ∷ []) ∷
    -- no blank after the sign, in line 2: '9 19\n#@2524953600'
    (57 ∷ 32 ∷ 49 ∷ 57 ∷ 10 ∷ 35 ∷ 64 ∷ 50 ∷ 53 ∷ 50 ∷ 52 ∷ 57 ∷ 53 ∷ 51 ∷ 54 ∷ 48 ∷ 48 ∷ []) ∷
    -- no number: '#@ \n9 19'
    (35 ∷ 64 ∷ 32 ∷ 10 ∷ 57 ∷ 32 ∷ 49 ∷ 57 ∷ []) ∷
    -- nothing after the sign: '#@'
    (35 ∷ 64 ∷ []) ∷
    -- a letter after the number: '#@ 2524953600s\n9 19'
    (35 ∷ 64 ∷ 32 ∷ 50 ∷ 53 ∷ 50 ∷ 52 ∷ 57 ∷ 53 ∷ 51 ∷ 54 ∷ 48 ∷ 48 ∷ 115 ∷ 10 ∷ 57 ∷ 32 ∷ 49 ∷ 57 ∷ []) ∷
    -- a comment after the number: '#@ 2524953600 #\n9 19'
    (35 ∷ 64 ∷ 32 ∷ 50 ∷ 53 ∷ 50 ∷ 52 ∷ 57 ∷ 53 ∷ 51 ∷ 54 ∷ 48 ∷ 48 ∷ 32 ∷ 35 ∷ 10 ∷ 57 ∷ 32 ∷ 49 ∷ 57 ∷ []) ∷
    -- a number of 65 bits: '#@ 18446744073709551616\n9 19'
    (35 ∷ 64 ∷ 32 ∷ 49 ∷ 56 ∷ 52 ∷ 52 ∷ 54 ∷ 55 ∷ 52 ∷ 52 ∷ 48 ∷ 55 ∷ 51 ∷ 55 ∷ 48 ∷ 57 ∷ 53 ∷ 53 ∷ 49 ∷ 54 ∷ 49 ∷ 54 ∷ 10 ∷ 57 ∷ 32 ∷ 49 ∷ 57 ∷ []) ∷
    -- an expiry that ends in CR: '#@ 2524953600\r\n9 19'
    (35 ∷ 64 ∷ 32 ∷ 50 ∷ 53 ∷ 50 ∷ 52 ∷ 57 ∷ 53 ∷ 51 ∷ 54 ∷ 48 ∷ 48 ∷ 13 ∷ 10 ∷ 57 ∷ 32 ∷ 49 ∷ 57 ∷ []) ∷
    -- a comment that has the sign later: '# @\n9 19'
    (35 ∷ 32 ∷ 64 ∷ 10 ∷ 57 ∷ 32 ∷ 49 ∷ 57 ∷ []) ∷
    -- an expiry at TAI second 0, and one below it: '#@ 2524953581\n9 19'
    (35 ∷ 64 ∷ 32 ∷ 50 ∷ 53 ∷ 50 ∷ 52 ∷ 57 ∷ 53 ∷ 51 ∷ 53 ∷ 56 ∷ 49 ∷ 10 ∷ 57 ∷ 32 ∷ 49 ∷ 57 ∷ []) ∷
    -- '#@ 2524953580\n9 19'
    (35 ∷ 64 ∷ 32 ∷ 50 ∷ 53 ∷ 50 ∷ 52 ∷ 57 ∷ 53 ∷ 51 ∷ 53 ∷ 56 ∷ 48 ∷ 10 ∷ 57 ∷ 32 ∷ 49 ∷ 57 ∷ []) ∷
    -- the last second that is a count, and the next: '#@ 20971697654\n9 19'
    (35 ∷ 64 ∷ 32 ∷ 50 ∷ 48 ∷ 57 ∷ 55 ∷ 49 ∷ 54 ∷ 57 ∷ 55 ∷ 54 ∷ 53 ∷ 52 ∷ 10 ∷ 57 ∷ 32 ∷ 49 ∷ 57 ∷ []) ∷
    -- '#@ 20971697655\n9 19'
    (35 ∷ 64 ∷ 32 ∷ 50 ∷ 48 ∷ 57 ∷ 55 ∷ 49 ∷ 54 ∷ 57 ∷ 55 ∷ 54 ∷ 53 ∷ 53 ∷ 10 ∷ 57 ∷ 32 ∷ 49 ∷ 57 ∷ []) ∷
    -- 1 before 3: '#@ 9\n9 18\n9 19'
    (35 ∷ 64 ∷ 32 ∷ 57 ∷ 10 ∷ 57 ∷ 32 ∷ 49 ∷ 56 ∷ 10 ∷ 57 ∷ 32 ∷ 49 ∷ 57 ∷ []) ∷
    -- an expiry, and no data: '#@ 2524953600'
    (35 ∷ 64 ∷ 32 ∷ 50 ∷ 53 ∷ 50 ∷ 52 ∷ 57 ∷ 53 ∷ 51 ∷ 54 ∷ 48 ∷ 48 ∷ []) ∷
    -- a malformed expiry, and no data: '#\n#@ x'
    (35 ∷ 10 ∷ 35 ∷ 64 ∷ 32 ∷ 120 ∷ []) ∷
    []

abbrev pub readings : List Reading
readings =
    reading 0 0 0 (table_of (entry 0 (pos 19) ∷ entry 46828820000000000 (pos 20) ∷ [])) ∷
    reading 0 0 0 (table_of (entry 0 (pos 19) ∷ [])) ∷
    reading 0 0 1 (table_of (entry 0 (pos 19) ∷ [])) ∷
    reading 6 0 0 (table_of []) ∷
    bad_list 0 ∷
    bad_list 2 ∷
    bad_list 1 ∷
    bad_list 1 ∷
    bad_list 1 ∷
    bad_list 1 ∷
    reading 3 0 0 (table_of []) ∷
    reading 4 0 0 (table_of []) ∷
    reading 7 0 0 (table_of []) ∷
    reading 3 0 0 (table_of []) ∷
    reading 0 0 0 (table_of (entry 0 (pos 19) ∷ entry 1000000000 (pos 20) ∷ [])) ∷
    reading 0 0 0 (table_of (entry 0 (pos 19) ∷ entry 18446744073000000000 (pos 20) ∷ [])) ∷
    reading 1 0 0 (table_of []) ∷
    reading 1 0 0 (table_of []) ∷
    reading 0 0 0 (with_expiry 19000000000 (table_of (entry 0 (pos 19) ∷ []))) ∷
    reading 0 0 0 (with_expiry 1466640020000000000 (table_of (entry 0 (pos 19) ∷ entry 46828820000000000 (pos 20) ∷ []))) ∷
    bad_list 3 ∷
    bad_list 2 ∷
    bad_list 1 ∷
    bad_list 1 ∷
    bad_list 1 ∷
    bad_list 1 ∷
    bad_list 1 ∷
    bad_list 1 ∷
    reading 0 0 0 (table_of (entry 0 (pos 19) ∷ [])) ∷
    reading 0 0 0 (with_expiry 0 (table_of (entry 0 (pos 19) ∷ []))) ∷
    reading 1 0 0 (table_of []) ∷
    reading 0 0 0 (with_expiry 18446744073000000000 (table_of (entry 0 (pos 19) ∷ []))) ∷
    reading 1 0 0 (table_of []) ∷
    reading 1 0 0 (table_of []) ∷
    reading 6 0 0 (table_of []) ∷
    bad_list 2 ∷
    []

pub every_example : map list_read files ≡ readings
unfolding take_while drop_while ends_in_return first_malformed records_in first_expiry last_offset has_first up_to_first after_first order_refusal some_above
every_example = refl
