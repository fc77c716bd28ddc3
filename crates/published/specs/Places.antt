-- What the parts of the reader find, and where. Only contracts of functions in `inner` cite it.
use Rattle.std.specs.Prelude.{◌≡◌, Bool, ◌&&◌, ◌||◌, List, ℕ, ◌<◌, ◌^◌, eqb, take, nat_abs, Option, None, Some}
use Rattle.refusals.specs.Outcome.{Outcome, answered, refused}
use Rattle.texts.specs.Ends.{until_end}
use Rattle.tables.specs.Answers.{taken_in}
use Rattle.records.specs.Records.{event}
use Rattle.published.specs.LeapSecondsList.{Line, passes, holds, expires, malformed, is_hash}
use Rattle.published.specs.LeapSecondsList.{Reading, reading}
use Rattle.published.specs.declared.ListAnswer.{ListAnswer}
use Rattle.published.specs.declared.inner.LineRead.{LineRead}
use Rattle.published.specs.declared.inner.LineRead.TheVariants as read

-- the line at the start of a text
abbrev pub first_line : List ℕ → List ℕ
first_line s = take (until_end s) s

-- a number that is read; 12 where there is none
abbrev pub in64_bits : Outcome ℕ → Outcome ℕ
in64_bits (answered n) = answered n
in64_bits (refused k) = refused 12

-- a number, and how many bytes were read for it
abbrev pub number_found : Option (ℕ × ℕ) → Outcome ℕ
number_found (Some n) = answered n.0
number_found None = refused 12

-- what may follow a field: the sign of a comment, where there may be one
abbrev pub opens : Bool → ℕ → Bool
opens comment b = comment && is_hash b

-- and in a text the end of the line
abbrev pub ends_field : Bool → ℕ → Bool
ends_field comment b = opens comment b || eqb b 10

-- what a line is that is not malformed
abbrev pub line_of : LineRead → Line
line_of read.Passes = passes
line_of (read.Holds r) = holds r
line_of (read.Expires ntp) = expires ntp

-- the event of its record is below 2 ^ 64
abbrev pub EventFits : LineRead → Type 0
EventFits read.Passes = Unit {0}
EventFits (read.Holds r) = nat_abs (event r) < 2 ^ 64
EventFits (read.Expires ntp) = Unit {0}

-- what a line is
abbrev pub line_found : Option (LineRead × ℕ) → Line
line_found (Some l) = line_of l.0
line_found None = malformed

-- and where it ends
abbrev pub LineEnds : List ℕ → Option (LineRead × ℕ) → Type 0
LineEnds s (Some l) = (l.1 ≡ until_end s) × EventFits l.0
LineEnds s None = Unit {0}

abbrev pub reading_in : ListAnswer → Reading
reading_in x = reading (taken_in x.answer) x.line x.dropped x.table
