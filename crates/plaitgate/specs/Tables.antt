-- Tables that cross as images, and what is said of their entries.
use Rattle.std.specs.Prelude.{Bool, cond, List, ℕ, pos}
use Rattle.std.proofs.Math.Option.{Option, none, some}
use Rattle.refusals.specs.Outcome.{Outcome, changed}
use Rattle.tables.specs.Entries.{Entry, entry}
use Rattle.images.specs.Image.{sized, image_of, built_from}
use Rattle.alike.specs.declared.Alike.{Alike}
use Rattle.alike.specs.declared.Alike.TheVariants as how
use Rattle.published.specs.LeapSecondsList.{Reading, list_read}

-- the number that a call gives, and the bytes that it leaves
abbrev pub leaves : ℕ → List ℕ → ℕ × List ℕ
leaves k b = (k, b)

-- building into an image: the number, and the image of the table built; 8 and the bytes as they were where they are no
-- image
abbrev pub image_built : List ℕ → List ℕ → ℕ × List ℕ
image_built entries b = cond (sized b) ((built_from entries).0, image_of (built_from entries).1) (8, b)

-- reading a list into an image: the number, the line, and the image of the table made; 8, 0 and the bytes as they were
-- where they are no image
pub record ListLeft : Type 0 where
  pub number : ℕ
  pub line : ℕ
  pub image : List ℕ

abbrev pub list_left : ℕ → ℕ → List ℕ → ListLeft
list_left k n b = record { number = k; line = n; image = b }

abbrev pub left_of : Reading → ListLeft
left_of r = list_left r.number r.line (image_of r.table)

abbrev pub image_listed : List ℕ → List ℕ → ListLeft
image_listed bytes b = cond (sized b) (left_of (list_read bytes)) (list_left 8 0 b)

-- a yes or no as a number
abbrev pub bit : Bool → ℕ
bit b = cond b 1 0

-- a value by a table, and 1 where the table is stale
pub record Dated (A : Type 0) : Type 0 where
  pub value : A
  pub stale : ℕ

abbrev pub dated_as : {A : Type 0} → A → ℕ → Dated A
dated_as a k = record { value = a; stale = k }

abbrev pub with_stale : {A : Type 0} → Outcome A × Bool → Outcome (Dated A)
with_stale x = changed (λ a. dated_as a (bit x.1)) x.0

-- what may be there: 1 and it, or zeros
pub record Found (A : Type 0) : Type 0 where
  pub found : ℕ
  pub value : A

abbrev pub found_as : {A : Type 0} → ℕ → A → Found A
found_as k a = record { found = k; value = a }

abbrev pub found_entry : Option Entry → Found Entry
found_entry (some e) = found_as 1 e
found_entry none = found_as 0 (entry 0 (pos 0))

abbrev pub found_count : Option ℕ → Found ℕ
found_count (some n) = found_as 1 n
found_count none = found_as 0 0

-- how far two tables convert alike, and the counts before which they do, or zeros
pub record AlikeTold : Type 0 where
  pub how : ℕ
  pub gps : ℕ
  pub utc : ℕ

abbrev pub alike_as : ℕ → ℕ → ℕ → AlikeTold
alike_as k g u = record { how = k; gps = g; utc = u }

abbrev pub in_numbers : Alike → AlikeTold
in_numbers how.Irregular = alike_as 0 0 0
in_numbers how.Everywhere = alike_as 1 0 0
in_numbers (how.Before c) = alike_as 2 c.gps c.utc
in_numbers (how.Apart c) = alike_as 3 c.gps c.utc
