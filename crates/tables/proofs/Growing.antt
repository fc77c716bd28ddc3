-- When an extension has room, and what a building gives, by the number that its rule gives.
use mathlib.Core.Path.{◌≡◌, refl, sym, ap, ◌∙◌}
use mathlib.Core.Bool.{Bool, true, false, cond}
use mathlib.Core.List.{List, [], ◌∷◌}
use Prim.Native.Nat.{ℕ, ◌≤◌, ◌<◌, min}
use native.Mathlib.Omega.{arith}
use native.Mathlib.Decide.{dec_lt}
use borrow.Author.Tests.{ne_eqb, lt-ltb, le-ltb}
use lib.ListN.{length}
use lib.IntN.{ℤ}
use Rattle.tables.specs.Entries.{Entry, join_refusal, first_refusal, checking, building_refusal}
use Rattle.tables.specs.Slots.{paired, slots, table_of, built}
use Rattle.tables.proofs.FirstSlots.{whole, paired_length}
use Rattle.tables.proofs.Joining.{full_slots}

-- a list that is too long is refused by 5 first
pub not_too_long : (long : Bool) {k : ℕ} → cond long 5 k ≡ 0 → (long ≡ false) × (k ≡ 0)
not_too_long true z = absurd (omega arith)
not_too_long false z = (refl, z)

-- an entry is taken only where there is room
pub has_room : (xs : List ℕ) (zs : List ℤ) (n : ℕ) (e : Entry) → n ≤ length xs → n ≤ length zs
    → 0 ≡ join_refusal (slots xs zs n) e → n < 64
has_room xs zs n e h h' z = go (dec_lt n 64)
  where
    go : Dec (n < 64) → n < 64
    go (yes l) = l
    go (no l) = absurd (omega (arith, z ∙ full_slots xs zs n h h' e (omega (arith, l))))

pub too_many : (es : List Entry) → 64 < length es → (5, table_of []) ≡ built es
too_many es h = rw (lt-ltb 64 (length es) h)

none-built : (es : List Entry) → length es ≡ 0 → (6, table_of []) ≡ built es
unfolding checking
none-built [] h = refl
none-built (e ∷ es) h = absurd (omega arith)

-- a list of entries is built as it is checked
by_neighbours : (es : List Entry) → 0 < length es → length es ≤ 64 → building_refusal es ≡ first_refusal es
unfolding checking
by_neighbours [] p h = absurd (omega arith)
by_neighbours (e ∷ es) p h = rw (le-ltb 64 (length (e ∷ es)) h)

-- the slots up to the shorter length are all that are given
module _ (xs : List ℕ) (zs : List ℤ) (n : ℕ) (shorter : n ≡ min (length xs) (length zs)) where
  abbrev given : List Entry
  given = paired xs zs

  all : slots xs zs n ≡ given
  all = rw shorter (whole xs zs)

  sized : length given ≡ n
  sized = paired_length xs zs ∙ sym shorter

  pub nothing_given : n ≡ 0 → (6, table_of []) ≡ built given
  nothing_given z = none-built given (sized ∙ z)

  pub too_many_given : 64 < n → (5, table_of []) ≡ built given
  too_many_given l = too_many given (rw sized l)

  module _ (p : n ≡ 0 → ⊥) (l : n ≤ 64) where
    judged : {k : ℕ} → k ≡ first_refusal (slots xs zs n) → building_refusal given ≡ k
    judged q =
        let is = sized in
        by_neighbours given (omega (arith, p)) (omega arith) ∙ sym (q ∙ ap first_refusal all)

    pub entry_refused : (k : ℕ) → (k ≡ 0 → ⊥) → k ≡ first_refusal (slots xs zs n) → (k, table_of []) ≡ built given
    entry_refused k z q = rw (judged q, ne_eqb k 0 z)

    pub all_taken : 0 ≡ first_refusal (slots xs zs n) → (0, table_of (slots xs zs n)) ≡ built given
    all_taken q = rw (judged q, all)
