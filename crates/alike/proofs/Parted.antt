-- Where two lists part, an entry at a time: the entries that are left part where all do.
use mathlib.Core.Path.{◌≡◌, refl}
use mathlib.Core.Bool.{true, false, cond}
use mathlib.Core.List.{List, [], ◌∷◌}
use mathlib.Core.Option.{some, none}
use Prim.Native.Nat.{ℕ, zero, suc, ◌≤◌}
use native.Mathlib.Omega.{arith}
use lib.ListN.{length, get_elem?, drop}
use Rattle.refusals.specs.Outcome.{answered}
use Rattle.tables.specs.Entries.{Entry}
use Rattle.alike.specs.Alike.{same_entry, earlier, parting}
use Rattle.alike.specs.declared.inner.Parting.{Parting}
use Rattle.alike.specs.declared.inner.Parting.TheVariants as parts

found : (es : List Entry) (i : ℕ) (e : Entry) → answered (some e) ≡ answered (get_elem? es i) → drop i es ≡ e ∷ drop (suc i) es
found [] i e g = cc
found (x ∷ es) zero e g = cc
found (x ∷ es) (suc i) e g = found es i e g

none_found : (es : List Entry) (i : ℕ) → answered none ≡ answered (get_elem? es i) → drop i es ≡ []
none_found [] zero g = refl
none_found [] (suc i) g = refl
none_found (x ∷ es) zero g = cc
none_found (x ∷ es) (suc i) g = none_found es i g

none_left : (es : List Entry) (i : ℕ) → length es ≤ i → drop i es ≡ []
none_left [] zero l = refl
none_left [] (suc i) l = refl
none_left (e ∷ es) zero l = absurd (omega arith)
none_left (e ∷ es) (suc i) l = none_left es i (omega arith)

module _ (es fs : List Entry) (i : ℕ) {at : Parting} (left : parting (drop i es) (drop i fs) ≡ at) where
  pub one_goes_on : (e : Entry) → answered (some e) ≡ answered (get_elem? es i) → answered none ≡ answered (get_elem? fs i)
      → parts.Onward e ≡ at
  unfolding parting
  one_goes_on e g h = rw (found es i e g, none_found fs i h) at left

  pub other_goes_on : (f : Entry) → answered none ≡ answered (get_elem? es i) → answered (some f) ≡ answered (get_elem? fs i)
      → parts.Onward f ≡ at
  unfolding parting
  other_goes_on f g h = rw (none_found es i g, found fs i f h) at left

  pub neither_goes_on : answered none ≡ answered (get_elem? es i) → answered none ≡ answered (get_elem? fs i)
      → parts.Nowhere ≡ at
  unfolding parting
  neither_goes_on g h = rw (none_found es i g, none_found fs i h) at left

  pub ended : length es ≤ i → length fs ≤ i → parts.Nowhere ≡ at
  unfolding parting
  ended l m = rw (none_left es i l, none_left fs i m) at left

  -- an entry of each
  module _ (e f : Entry) (g : answered (some e) ≡ answered (get_elem? es i)) (h : answered (some f) ≡ answered (get_elem? fs i)) where
    here : cond (same_entry e f) (parting (drop (suc i) es) (drop (suc i) fs)) (parts.Apart (earlier e f)) ≡ at
    unfolding parting
    here = rw (found es i e g, found fs i f h) at left

    pub parts_here : same_entry e f ≡ false → parts.Apart (earlier e f) ≡ at
    parts_here differ = rw differ at here

    pub goes_on : same_entry e f ≡ true → parting (drop (suc i) es) (drop (suc i) fs) ≡ at
    goes_on agree = rw agree at here
