-- Bytes between two others: what is tested of a list is tested of its parts.
use mathlib.Core.Path.{◌≡◌, refl, sym, ap, ◌∙◌}
use mathlib.Core.Bool.{true, false, ◌&&◌, and_assoc, false≢true, not-eq-not}
use mathlib.Core.List.{List, [], ◌∷◌}
use Prim.Native.Nat.{ℕ, zero, suc, ◌+◌, ◌<◌}
use native.Mathlib.Numerals.{add-one}
use lib.Dec.{leb, lit≤}
use lib.ListN.{length, get_or, take, drop}
use lib.Seq.{drop-cons, take-take}
use Rattle.words.proofs.WayBack.{first_half, second_half}
use Rattle.stamps.specs.Form.{within}

pub as_long : (l h s : List ℕ) → within l h s ≡ true → length s ≡ length l
as_long [] h [] e = refl
as_long [] h (b ∷ s) e = absurd (false≢true e)
as_long (x ∷ l) [] s e = absurd (false≢true e)
as_long (x ∷ l) (y ∷ h) [] e = absurd (false≢true e)
as_long (x ∷ l) (y ∷ h) (b ∷ s) e = ap suc (as_long l h s (second_half (leb x b && leb b y) (within l h s) e))

pub not_as_long : (l h s : List ℕ) → (length s ≡ length l → ⊥) → within l h s ≡ false
not_as_long l h s n = (not-eq-not {a = within l h s} {b = false}).0 (λ e. n (as_long l h s e))

-- the first n bytes, and the rest
cut : (n : ℕ) (l h s : List ℕ)
    → within l h s ≡ (within (take n l) (take n h) (take n s) && within (drop n l) (drop n h) (drop n s))
cut zero l h s = refl
cut (suc n) [] h [] = refl
cut (suc n) [] h (b ∷ s) = refl
cut (suc n) (x ∷ l) [] s = refl
cut (suc n) (x ∷ l) (y ∷ h) [] = refl
cut (suc n) (x ∷ l) (y ∷ h) (b ∷ s) = rw (cut n l h s) (sym (and_assoc (leb x b && leb b y) _ _))

module _ (n : ℕ) (l h s : List ℕ) (e : within l h s ≡ true) where
  pub start-within : within (take n l) (take n h) (take n s) ≡ true
  start-within = first_half (within (take n l) (take n h) (take n s)) _ (sym (cut n l h s) ∙ e)

  pub rest-within : within (drop n l) (drop n h) (drop n s) ≡ true
  rest-within = second_half (within (take n l) (take n h) (take n s)) _ (sym (cut n l h s) ∙ e)

-- a turn of the test
pub opened : (l h s : List ℕ) (i : ℕ) → i < length l → i < length h → i < length s
    → within (drop i l) (drop i h) (drop i s)
    ≡ ((leb (get_or l i 0) (get_or s i 0) && leb (get_or s i 0) (get_or h i 0)) && within (drop (i + 1) l) (drop (i + 1) h)
    (drop (i + 1) s))
opened l h s i in_l in_h in_s = rw (add-one, drop-cons l i 0 in_l, drop-cons h i 0 in_h, drop-cons s i 0 in_s)

-- the first 16 bytes, and those after the first 14
module _ (l h s : List ℕ) where
  pub not_at_start : within (take 16 l) (take 16 h) (take 16 s) ≡ false → within l h s ≡ false
  not_at_start f = cut 16 l h s ∙ rw f

  pub at-end : within (take 16 l) (take 16 h) (take 16 s) ≡ true
      → within (drop 14 l) (drop 14 h) (drop 14 s) ≡ within l h s
  at-end e =
      let start = rw (take-take 14 16 l (lit≤ tt), take-take 14 16 h (lit≤ tt), take-take 14 16 s (lit≤ tt)) at
      (start-within 14 (take 16 l) (take 16 h) (take 16 s) e) in
      sym (cut 14 l h s ∙ rw start)
