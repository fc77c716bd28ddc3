-- What leaplist writes for the bytes of a file.
use Rattle.std.specs.Prelude.{Bool, true, cond, ◌&&◌, ◌||◌, List, [], ◌∷◌, ◌++◌, ℕ, ◌+◌, ◌-◌, ◌/◌, eqb, leb, nat_abs, take, get_or}
use Rattle.counts.specs.Units.{second}
use Rattle.civil.specs.Fields.{fields_at}
use Rattle.words.specs.Decimal.{decimal}
use Rattle.texts.specs.Lines.{lines_of}
use Rattle.tables.specs.Entries.{Entry, threshold, offset, current_offset}
use Rattle.tables.specs.Slots.{entries_of, no_expiry}
use Rattle.stamps.specs.Form.{written}
use Rattle.lines.specs.OutcomeLine.{refused_word}
use Rattle.published.specs.LeapSecondsList.{Reading, list_read}

-- a number in decimal, and the byte after it
abbrev pub number_and : ℕ → ℕ → List ℕ
number_and n mark = decimal n ++ (mark ∷ [])

-- ---- a file that is accepted
-- the UTC second at a TAI count by an offset, counted from 1972-01-01: 252,892,800 seconds before 1980-01-06
abbrev pub utc_second : ℕ → ℕ → ℕ
utc_second t n = t / second + 252_892_800 - n

-- the date and time, the offset without a sign, and the threshold
unfoldable pub entry_line : Entry → List ℕ
entry_line e =
    written (fields_at (utc_second (threshold e) (nat_abs (offset e))) 0)
    ++ (32 ∷ (number_and (nat_abs (offset e)) 32 ++ number_and (threshold e) 10))

unfoldable pub entry_lines : List Entry → List ℕ
entry_lines [] = []
entry_lines (e ∷ es) = entry_line e ++ entry_lines es

-- the bytes of `expires `
abbrev pub expires_word : List ℕ
expires_word = 101 ∷ 120 ∷ 112 ∷ 105 ∷ 114 ∷ 101 ∷ 115 ∷ 32 ∷ []

-- the bytes of `none`
abbrev pub none_word : List ℕ
none_word = 110 ∷ 111 ∷ 110 ∷ 101 ∷ []

-- the date and time of an expiry by an offset without a sign
unfoldable pub expiry_line : ℕ → ℕ → List ℕ
expiry_line expiry n =
    expires_word ++ (cond (eqb expiry no_expiry) none_word (written (fields_at (utc_second expiry n) 0)) ++ (10 ∷ []))

-- the bytes of `dropped `
abbrev pub dropped_word : List ℕ
dropped_word = 100 ∷ 114 ∷ 111 ∷ 112 ∷ 112 ∷ 101 ∷ 100 ∷ 32 ∷ []

-- the entries, the expiry by the last offset, and how many data lines were dropped before the first entry
abbrev pub table_report : List Entry → ℕ → ℕ → List ℕ
table_report es expiry dropped =
    entry_lines es ++ (expiry_line expiry (nat_abs (current_offset es)) ++ (dropped_word ++ number_and dropped 10))

-- ---- a file that is refused
-- a tab, or a byte from the space to `~`
abbrev pub is_text : ℕ → Bool
is_text b = eqb b 9 || (leb 32 b && leb b 126)

unfoldable pub all_text : List ℕ → Bool
all_text [] = true
all_text (b ∷ bs) = is_text b && all_text bs

-- `: "` and the bytes and `"`, where all of them are text
abbrev pub quoted : List ℕ → List ℕ
quoted bs = cond (all_text bs) (58 ∷ 32 ∷ 34 ∷ (bs ++ (34 ∷ []))) []

-- the bytes of ` at line `
abbrev pub at_line : List ℕ
at_line = 32 ∷ 97 ∷ 116 ∷ 32 ∷ 108 ∷ 105 ∷ 110 ∷ 101 ∷ 32 ∷ []

-- the first 40 bytes of line k, counted from 1
abbrev pub start_of_line : ℕ → List ℕ → List ℕ
start_of_line k bs = take 40 (get_or (lines_of bs) (k - 1) [])

-- what follows the number of a refusal: nothing but the line end where no line is told
abbrev pub place : ℕ → List ℕ → List ℕ
place k bs = cond (eqb k 0) (10 ∷ []) (at_line ++ (decimal k ++ (quoted (start_of_line k bs) ++ (10 ∷ []))))

abbrev pub refusal_report : ℕ → ℕ → List ℕ → List ℕ
refusal_report number k bs = refused_word ++ (decimal number ++ place k bs)

-- ---- any file
abbrev pub report_of : List ℕ → Reading → List ℕ
report_of bs r =
    cond (eqb r.number 0) (table_report (entries_of r.table) r.table.expiry r.dropped)
    (refusal_report r.number r.line bs)

unfoldable pub report : List ℕ → List ℕ
report bs = report_of bs (list_read bs)
