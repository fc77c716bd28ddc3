-- The first n slots of thresholds and offsets: how many they are, which entry stands in each, and what one more brings.
use mathlib.Core.Path.{◌≡◌, refl, ap, ◌∙◌}
use mathlib.Core.List.{List, [], ◌∷◌, ◌++◌}
use Prim.Native.Nat.{ℕ, zero, suc, ◌≤◌, ◌<◌, min}
use native.Mathlib.Omega.{arith}
use mathlib.Core.Option.{some, none}
use lib.ListN.{length, get_or, get_elem?, set, take}
use lib.Seq.{length-take-le, take-suc, take-suc-set, get_or-take, take_all}
use lib.IntN.{ℤ, pos}
use Rattle.tables.specs.Entries.{Entry, entry}
use Rattle.tables.specs.Slots.{paired, slot_at, slots}

pub paired_length : (xs : List ℕ) (zs : List ℤ) → length (paired xs zs) ≡ min (length xs) (length zs)
unfolding paired
paired_length [] zs = omega arith
paired_length (x ∷ xs) [] = omega arith
paired_length (x ∷ xs) (z ∷ zs) = omega (arith, paired_length xs zs)

held : (k : ℕ) (xs : List ℕ) (zs : List ℤ) (d : Entry) → k < length xs → k < length zs
    → get_or (paired xs zs) k d ≡ slot_at xs zs k
unfolding paired
held zero (x ∷ xs) (z ∷ zs) d h l = refl
held (suc k) (x ∷ xs) (z ∷ zs) d h l = held k xs zs d (omega arith) (omega arith)
held k [] zs d h l = absurd (omega arith)
held k (x ∷ xs) [] d h l = absurd (omega arith)

stored : (n : ℕ) (xs : List ℕ) (zs : List ℤ) (x : ℕ) (z : ℤ)
    → paired (set xs n x) (set zs n z) ≡ set (paired xs zs) n (entry x z)
unfolding paired
stored n [] zs x z = refl
stored zero (y ∷ xs) [] x z = refl
stored (suc n) (y ∷ xs) [] x z = refl
stored zero (y ∷ xs) (w ∷ zs) x z = refl
stored (suc n) (y ∷ xs) (w ∷ zs) x z = ap (λ (es : List Entry). entry y w ∷ es) (stored n xs zs x z)

pub some_at : (es : List Entry) (k : ℕ) (d : Entry) → k < length es → get_elem? es k ≡ some (get_or es k d)
some_at [] k d l = absurd (omega arith)
some_at (e ∷ es) zero d l = refl
some_at (e ∷ es) (suc k) d l = some_at es k d (omega arith)

pub none-at : (es : List Entry) (k : ℕ) → length es ≤ k → get_elem? es k ≡ none
none-at [] k l = refl
none-at (e ∷ es) zero l = absurd (omega arith)
none-at (e ∷ es) (suc k) l = none-at es k (omega arith)

module _ (xs : List ℕ) (zs : List ℤ) where
  pub slots_length : (n : ℕ) → n ≤ length xs → n ≤ length zs → length (slots xs zs n) ≡ n
  slots_length n h k = length-take-le n (paired xs zs) (omega (arith, paired_length xs zs))

  pub slot_is : (n k : ℕ) (d : Entry) → k < n → n ≤ length xs → n ≤ length zs
      → get_or (slots xs zs n) k d ≡ slot_at xs zs k
  slot_is n k d l h h' = get_or-take n (paired xs zs) k d l ∙ held k xs zs d (omega arith) (omega arith)

  pub one_more : (n : ℕ) → n < length xs → n < length zs
      → slots xs zs (suc n) ≡ slots xs zs n ++ slot_at xs zs n ∷ []
  one_more n h k =
      take-suc (paired xs zs) n (entry 0 (pos 0)) (omega (arith, paired_length xs zs))
      ∙ ap (λ (e : Entry). slots xs zs n ++ e ∷ []) (held n xs zs (entry 0 (pos 0)) h k)

  -- an entry stored in the slot past the first n
  pub one_stored : (n x : ℕ) (z : ℤ) → n < length xs → n < length zs
      → slots (set xs n x) (set zs n z) (suc n) ≡ slots xs zs n ++ entry x z ∷ []
  one_stored n x z h k =
      ap (take (suc n)) (stored n xs zs x z)
      ∙ take-suc-set (paired xs zs) n (entry x z) (omega (arith, paired_length xs zs))

  pub whole : slots xs zs (min (length xs) (length zs)) ≡ paired xs zs
  whole = take_all (min (length xs) (length zs)) (paired xs zs) (omega (arith, paired_length xs zs))

module _ (xs : List ℕ) (zs : List ℤ) (n : ℕ) (h : n ≤ length xs) (h' : n ≤ length zs) (k : ℕ) where
  pub there : k < n → get_elem? (slots xs zs n) k ≡ some (slot_at xs zs k)
  there l =
      some_at (slots xs zs n) k (entry 0 (pos 0)) (omega (arith, slots_length xs zs n h h'))
      ∙ ap some (slot_is xs zs n k (entry 0 (pos 0)) l h h')

  pub past : n ≤ k → get_elem? (slots xs zs n) k ≡ none
  past l = none-at (slots xs zs n) k (omega (arith, slots_length xs zs n h h'))
