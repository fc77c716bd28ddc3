-- The order of civil readings: field by field from the year on, and 60 after 59.
use Rattle.std.specs.Prelude.{Bool, false, ◌&&◌, ◌||◌, List, [], ◌∷◌, ℤ, pos}
use Rattle.std.specs.Int.Signed.{lt_z}
use Rattle.civil.specs.declared.CivilDateTime.{CivilDateTime}
use Rattle.tables.specs.Entries.{equal}

abbrev pub in_order : CivilDateTime → List ℤ
in_order c =
    c.year ∷ pos c.month ∷ pos c.day ∷ pos c.hour ∷ pos c.minute ∷ pos c.second ∷ pos c.nanos ∷ []

-- the first numbers that differ tell
unfoldable pub below : List ℤ → List ℤ → Bool
below [] ys = false
below (x ∷ xs) [] = false
below (x ∷ xs) (y ∷ ys) = lt_z x y || (equal x y && below xs ys)

abbrev pub earlier : CivilDateTime → CivilDateTime → Bool
earlier a b = below (in_order a) (in_order b)
