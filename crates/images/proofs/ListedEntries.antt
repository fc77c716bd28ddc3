-- A list of entries in bytes: thresholds and offsets taken apart are its entries.
use mathlib.Core.Path.{◌≡◌, refl, sym, ap, ◌∙◌}
use mathlib.Core.List.{List, ◌∷◌, map}
use Prim.Native.Nat.{ℕ, zero, suc}
use lib.ListN.{length, drop}
use lib.Seq.{drop-drop}
use lib.IntN.{ℤ}
use mir.Syntax.{w32}
use mir.Val.{to_z}
use Rattle.tables.specs.Entries.{Entry}
use Rattle.tables.specs.Slots.{paired}
use Rattle.images.specs.Listed.{first_in, entries_from}
use Rattle.images.specs.Image.{numbers_in}

paired-from : (n : ℕ) (b : List ℕ)
    → paired (numbers_in 8 12 n b) (map (to_z w32) (numbers_in 4 12 n (drop 8 b))) ≡ entries_from n b
unfolding paired numbers_in entries_from
paired-from zero b = refl
paired-from (suc n) b =
    ap (λ (es : List Entry). first_in b ∷ es)
    (ap (λ (l : List ℕ). paired (numbers_in 8 12 n (drop 12 b)) (map (to_z w32) (numbers_in 4 12 n l)))
    (drop-drop 12 8 b ∙ sym (drop-drop 8 12 b))
    ∙ paired-from n (drop 12 b))

pub entries_paired : (n : ℕ) (b : List ℕ) {ts : List ℕ} {zs : List ℤ} → ts ≡ numbers_in 8 12 n b
    → zs ≡ map (to_z w32) (numbers_in 4 12 n (drop 8 b)) → paired ts zs ≡ entries_from n b
entries_paired n b e f = (λ i. paired (e i) (f i)) ∙ paired-from n b

pub entries_count : (n : ℕ) (b : List ℕ) → length (entries_from n b) ≡ n
unfolding entries_from
entries_count zero b = refl
entries_count (suc n) b = ap suc (entries_count n (drop 12 b))
