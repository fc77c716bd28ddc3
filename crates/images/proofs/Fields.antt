-- Numbers of one width in bytes, read and written a number at a turn.
use mathlib.Core.Path.{◌≡◌, refl, sym, ap, ◌∙◌}
use mathlib.Core.List.{List, [], ◌∷◌, ◌++◌, map, map-append}
use Prim.Native.Nat.{ℕ, zero, suc, ◌+◌, ◌*◌, ◌<◌}
use native.Mathlib.Nat.{add_comm, mul-zero, mul-suc}
use native.Mathlib.Numerals.{add-one}
use native.Mathlib.Omega.{arith}
use lib.ListN.{length, get_or, take, drop, set, length-append, length-set}
use lib.Seq.{take-suc-set, drop-cons, drop-drop, drop-length, sets}
use Rattle.words.specs.Words.{number_in, bytes_of}
use Rattle.words.proofs.Bytes.{bytes_count}
use Rattle.words.proofs.Stores.{joined}
use Rattle.images.specs.Image.{numbers_in, bytes_of_all}

-- one stride and then n more
pub strides : (stride n : ℕ) (bs : List ℕ) → drop (stride * n) (drop stride bs) ≡ drop (stride * suc n) bs
strides stride n bs = rw (drop-drop (stride * n) stride bs, mul-suc, add_comm stride (stride * n))

-- one number more at the end
field_more : (k stride n : ℕ) (bs : List ℕ)
    → numbers_in k stride (suc n) bs ≡ numbers_in k stride n bs ++ (number_in (take k (drop (stride * n) bs)) ∷ [])
unfolding numbers_in
field_more k stride zero bs = rw mul-zero
field_more k stride (suc n) bs =
    ap (λ (l : List ℕ). number_in (take k bs) ∷ l) (rw (← strides stride n bs) (field_more k stride n (drop stride bs)))

-- a number as it is
abbrev pub itself : ℕ → ℕ
itself n = n

pub map_itself : (ns : List ℕ) → map itself ns ≡ ns
map_itself [] = refl
map_itself (n ∷ ns) = ap (λ (l : List ℕ). n ∷ l) (map_itself ns)

-- the first i of 64 slots hold the first i numbers, and the next number is put into the slot after them
pub record Kept {A : Type 0} (f : ℕ → A) (k stride start : ℕ) (b : List ℕ) (kept : List A) (i : ℕ) : Type 0 where
  pub size : length kept ≡ 64
  pub first : take i kept ≡ map f (numbers_in k stride i (drop start b))

module _ {A : Type 0} {f : ℕ → A} {k stride start : ℕ} {b : List ℕ} {kept : List A} where
  pub none_kept : length kept ≡ 64 → Kept f k stride start b kept 0
  unfolding numbers_in
  none_kept h = record { size = h; first = refl }

  pub field-kept : {i : ℕ} {v : A} → Kept f k stride start b kept i → i < 64
      → v ≡ f (number_in (take k (drop (start + stride * i) b))) → Kept f k stride start b (set kept i v) (i + 1)
  field-kept {i} {v} h l g =
      let within : i < length kept = omega (arith, h.size) in
      let next = ap (λ (l : List ℕ). number_in (take k l)) (drop-drop (stride * i) start b) in
      record {
        size = simp length-set h.size;
        first = rw (add-one, take-suc-set kept i v within, field_more k stride i (drop start b), map-append)
            (rw (h.first, g, next));
      }

pub all_bytes_count : (k : ℕ) (ns : List ℕ) → length (bytes_of_all k ns) ≡ k * length ns
unfolding bytes_of_all
all_bytes_count k [] = sym (mul-zero k)
all_bytes_count k (n ∷ ns) =
    length-append (bytes_of k n) (bytes_of_all k ns) ∙ rw (bytes_count, all_bytes_count k ns, mul-suc) (omega arith)

-- what is left to be written, one number fewer
pub field-written : (out ns : List ℕ) (k start i v : ℕ) → i < length ns → v ≡ get_or ns i 0
    → sets (sets out (start + k * i) (bytes_of k v)) (start + k * (i + 1)) (bytes_of_all k (drop (i + 1) ns))
    ≡ sets out (start + k * i) (bytes_of_all k (drop i ns))
unfolding bytes_of_all
field-written out ns k start i v h e =
    let further : start + k * (i + 1) ≡ start + k * i + length (bytes_of k v)
    = rw (add-one, mul-suc, bytes_count) (omega arith) in
    joined out _ _ (bytes_of k v) (bytes_of_all k (drop (i + 1) ns)) refl further refl
    ∙ rw (add-one, drop-cons ns i 0 h, e)

pub all_fields_written : (out ns : List ℕ) (k at i : ℕ) → i ≡ length ns → sets out at (bytes_of_all k (drop i ns)) ≡ out
unfolding bytes_of_all
all_fields_written out ns k at i e = rw (e, drop-length)
