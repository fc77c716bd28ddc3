-- What leaplist writes for the bytes of two files, OLD and NEW.
use Rattle.std.specs.Prelude.{Bool, cond, List, [], ◌∷◌, ◌++◌, ℕ, ◌/◌, eqb, ltb, length, take}
use Rattle.refusals.specs.Outcome.{changed}
use Rattle.counts.specs.Units.{second}
use Rattle.civil.specs.Fields.{fields_at}
use Rattle.tables.specs.Entries.{Entry}
use Rattle.tables.specs.Slots.{entries_of, of_valid}
use Rattle.tables.specs.declared.LeapTable.{LeapTable}
use Rattle.stamps.specs.Form.{written}
use Rattle.alike.specs.Alike.{alike}
use Rattle.alike.specs.declared.Alike.{Alike}
use Rattle.alike.specs.declared.Alike.TheVariants as how
use Rattle.lines.specs.OutcomeLine.{line_of}
use Rattle.published.specs.LeapSecondsList.{Reading, list_read}
use Rattle.leaplist.specs.Report.{refusal_report}

-- ---- two tables
-- the bytes of `same everywhere`
abbrev pub everywhere_words : List ℕ
everywhere_words = 115 ∷ 97 ∷ 109 ∷ 101 ∷ 32 ∷ 101 ∷ 118 ∷ 101 ∷ 114 ∷ 121 ∷ 119 ∷ 104 ∷ 101 ∷ 114 ∷ 101 ∷ []

-- the bytes of `same before `
abbrev pub before_words : List ℕ
before_words = 115 ∷ 97 ∷ 109 ∷ 101 ∷ 32 ∷ 98 ∷ 101 ∷ 102 ∷ 111 ∷ 114 ∷ 101 ∷ 32 ∷ []

-- the bytes of ` UTC`
abbrev pub utc_word : List ℕ
utc_word = 32 ∷ 85 ∷ 84 ∷ 67 ∷ []

-- the bytes of `, and NEW lacks entries of OLD`
abbrev pub lacks_words : List ℕ
lacks_words =
    44 ∷ 32 ∷ 97 ∷ 110 ∷ 100 ∷ 32 ∷ 78 ∷ 69 ∷ 87 ∷ 32 ∷ 108 ∷ 97 ∷ 99 ∷ 107 ∷ 115 ∷ 32 ∷ 101 ∷ 110 ∷ 116 ∷ 114 ∷ 105
    ∷ 101 ∷ 115 ∷ 32 ∷ 111 ∷ 102 ∷ 32 ∷ 79 ∷ 76 ∷ 68 ∷ []

-- the bytes of `, and neither extends the other`
abbrev pub neither_words : List ℕ
neither_words =
    44 ∷ 32 ∷ 97 ∷ 110 ∷ 100 ∷ 32 ∷ 110 ∷ 101 ∷ 105 ∷ 116 ∷ 104 ∷ 101 ∷ 114 ∷ 32 ∷ 101 ∷ 120 ∷ 116 ∷ 101 ∷ 110 ∷ 100
    ∷ 115 ∷ 32 ∷ 116 ∷ 104 ∷ 101 ∷ 32 ∷ 111 ∷ 116 ∷ 104 ∷ 101 ∷ 114 ∷ []

-- the bytes of `nothing is promised: entries less than a day apart`
abbrev pub irregular_words : List ℕ
irregular_words =
    110 ∷ 111 ∷ 116 ∷ 104 ∷ 105 ∷ 110 ∷ 103 ∷ 32 ∷ 105 ∷ 115 ∷ 32 ∷ 112 ∷ 114 ∷ 111 ∷ 109 ∷ 105 ∷ 115 ∷ 101 ∷ 100 ∷ 58
    ∷ 32 ∷ 101 ∷ 110 ∷ 116 ∷ 114 ∷ 105 ∷ 101 ∷ 115 ∷ 32 ∷ 108 ∷ 101 ∷ 115 ∷ 115 ∷ 32 ∷ 116 ∷ 104 ∷ 97 ∷ 110 ∷ 32 ∷ 97
    ∷ 32 ∷ 100 ∷ 97 ∷ 121 ∷ 32 ∷ 97 ∷ 112 ∷ 97 ∷ 114 ∷ 116 ∷ []

-- a UTC count in whole seconds: the date and time up to the second
abbrev pub second_of : ℕ → List ℕ
second_of utc = take 19 (written (fields_at (utc / second) 0))

abbrev pub same_before : ℕ → List ℕ
same_before utc = before_words ++ (second_of utc ++ utc_word)

-- how far two tables convert alike; `lacking` says that NEW has fewer entries than OLD
abbrev pub words_for : Bool → Alike → List ℕ
words_for lacking how.Everywhere = everywhere_words
words_for lacking (how.Before c) = same_before c.utc ++ cond lacking lacks_words []
words_for lacking (how.Apart c) = same_before c.utc ++ neither_words
words_for lacking how.Irregular = irregular_words

-- one list has fewer entries than another
abbrev pub fewer : List Entry → List Entry → Bool
fewer es fs = ltb (length es) (length fs)

-- the words, or the refusal to tell
abbrev pub alike_line : LeapTable → LeapTable → List ℕ
alike_line old new =
    line_of
    (changed (words_for (fewer (entries_of new) (entries_of old)))
    (of_valid old (of_valid new (alike (entries_of old) (entries_of new)))))

-- ---- two files
-- the bytes of `OLD `
abbrev pub old_word : List ℕ
old_word = 79 ∷ 76 ∷ 68 ∷ 32 ∷ []

-- the bytes of `NEW `
abbrev pub new_word : List ℕ
new_word = 78 ∷ 69 ∷ 87 ∷ 32 ∷ []

-- a refused file: its name, and the report on it
abbrev pub refused_line : List ℕ → List ℕ → Reading → List ℕ
refused_line name bs r = name ++ refusal_report r.number r.line bs

-- the table of OLD, and the bytes of NEW with what the reader answers
abbrev pub line_with_new : LeapTable → List ℕ → Reading → List ℕ
line_with_new old bs r = cond (eqb r.number 0) (alike_line old r.table) (refused_line new_word bs r)

-- OLD is judged before NEW
abbrev pub line_with_old : List ℕ → Reading → List ℕ → List ℕ
line_with_old bs r new = cond (eqb r.number 0) (line_with_new r.table new (list_read new)) (refused_line old_word bs r)

unfoldable pub since_line : List ℕ → List ℕ → List ℕ
since_line old new = line_with_old old (list_read old) new
