-- Where two lists part tells how they begin, and how they begin tells where they part.
use mathlib.Core.Path.{◌≡◌, refl, sym, ap, ◌∙◌}
use mathlib.Core.Logic.{◌⊎◌, inl, inr}
use mathlib.Core.Bool.{Bool, true, false, cond, false≢true}
use mathlib.Core.List.{List, [], ◌∷◌, ◌++◌}
use mathlib.Core.Option as option
use Prim.Native.Nat.{ℕ, zero, suc, ◌<◌}
use native.Mathlib.Omega.{arith}
use borrow.Author.Tests.{eq-eqb, eqb-true}
use lib.Dec.{eqb}
use lib.ListN.{length, length-append, get_elem?}
use lib.IntN.{pos}
use Rattle.tables.specs.Entries.{Entry, threshold, offset, entry, equal, regular}
use Rattle.tables.proofs.Integers.{equal_true, equal_yes}
use Rattle.tables.proofs.Neighbours.{both}
use Rattle.tables.proofs.Tested.{regular_tested}
use Rattle.alike.specs.Alike.{same_entry, earlier, parting}
use Rattle.alike.specs.declared.inner.Parting.TheVariants as parts

-- the test of two entries, turned into the fact
is_same : (e f : Entry) → same_entry e f ≡ true → e ≡ f
is_same e f h =
    let (t, n) = both (eqb (threshold e) (threshold f)) (equal (offset e) (offset f)) h in
    λ i. entry (eqb-true (threshold e) (threshold f) t i) (equal_true (offset e) (offset f) n i)

same_as : (e f : Entry) → threshold e ≡ threshold f → offset e ≡ offset f → same_entry e f ≡ true
same_as e f t n = rw (eq-eqb _ _ t, equal_yes _ _ n)

-- two different constructors
pub clash : {A : Type 0} → ◌≡◌ {A = ℕ} 0 1 → A
clash z = absurd (omega arith)

-- ---- how two lists begin
pub nowhere : (es fs : List Entry) → parting es fs ≡ parts.Nowhere → es ≡ fs
unfolding parting
nowhere [] [] h = refl
nowhere [] (f ∷ fs) h = clash (cc)
nowhere (e ∷ es) [] h = clash (cc)
nowhere (e ∷ es) (f ∷ fs) h = go (same_entry e f) refl (nowhere es fs) h
  where
    go : (b : Bool) → same_entry e f ≡ b → (parting es fs ≡ parts.Nowhere → es ≡ fs)
        → cond b (parting es fs) (parts.Apart (earlier e f)) ≡ parts.Nowhere → e ∷ es ≡ f ∷ fs
    go true s rest h = λ i. is_same e f s i ∷ rest h i
    go false s rest h = clash (cc)

abbrev pub GoesOn : List Entry → List Entry → Entry → Type 0
GoesOn es fs e = (rest : List Entry) × (fs ≡ es ++ e ∷ rest)

pub onward : (es fs : List Entry) (x : Entry) → parting es fs ≡ parts.Onward x → GoesOn es fs x ⊎ GoesOn fs es x
unfolding parting
onward [] [] x h = clash (cc)
onward [] (f ∷ fs) x h = let is : f ≡ x = cc in inl (fs, ap (λ (g : Entry). g ∷ fs) is)
onward (e ∷ es) [] x h = let is : e ≡ x = cc in inr (es, ap (λ (g : Entry). g ∷ es) is)
onward (e ∷ es) (f ∷ fs) x h = go (same_entry e f) refl (onward es fs x) h
  where
    more : e ≡ f → GoesOn es fs x ⊎ GoesOn fs es x → GoesOn (e ∷ es) (f ∷ fs) x ⊎ GoesOn (f ∷ fs) (e ∷ es) x
    more s (inl (rest, is)) = inl (rest, λ i. sym s i ∷ is i)
    more s (inr (rest, is)) = inr (rest, λ i. s i ∷ is i)

    go : (b : Bool) → same_entry e f ≡ b → (parting es fs ≡ parts.Onward x → GoesOn es fs x ⊎ GoesOn fs es x)
        → cond b (parting es fs) (parts.Apart (earlier e f)) ≡ parts.Onward x
        → GoesOn (e ∷ es) (f ∷ fs) x ⊎ GoesOn (f ∷ fs) (e ∷ es) x
    go true s rest h = more (is_same e f s) (rest h)
    go false s rest h = clash (cc)

-- two lists that begin alike and then differ
pub record Fork (es fs : List Entry) (x : Entry) : Type 0 where
  pub common : List Entry
  pub one : Entry
  pub one_rest : List Entry
  pub other : Entry
  pub other_rest : List Entry
  pub one_is : es ≡ common ++ one ∷ one_rest
  pub other_is : fs ≡ common ++ other ∷ other_rest
  pub differ : same_entry one other ≡ false
  pub first : earlier one other ≡ x

pub apart : (es fs : List Entry) (x : Entry) → parting es fs ≡ parts.Apart x → Fork es fs x
unfolding parting
apart [] [] x h = clash (cc)
apart [] (f ∷ fs) x h = clash (cc)
apart (e ∷ es) [] x h = clash (cc)
apart (e ∷ es) (f ∷ fs) x h = go (same_entry e f) refl (apart es fs x) h
  where
    go : (b : Bool) → same_entry e f ≡ b → (parting es fs ≡ parts.Apart x → Fork es fs x)
        → cond b (parting es fs) (parts.Apart (earlier e f)) ≡ parts.Apart x → Fork (e ∷ es) (f ∷ fs) x
    go true s rest h =
        let k = rest h in
        record {
          common = e ∷ k.common;
          one = k.one;
          one_rest = k.one_rest;
          other = k.other;
          other_rest = k.other_rest;
          one_is = ap (λ (xs : List Entry). e ∷ xs) k.one_is;
          other_is = λ i. sym (is_same e f s) i ∷ k.other_is i;
          differ = k.differ;
          first = k.first;
        }
    go false s rest h = record {
      common = [];
      one = e;
      one_rest = es;
      other = f;
      other_rest = fs;
      one_is = refl;
      other_is = refl;
      differ = s;
      first = cc;
    }

-- ---- and the other way
pub same_parts : (es : List Entry) → parting es es ≡ parts.Nowhere
unfolding parting
same_parts [] = refl
same_parts (e ∷ es) = rw (same_as e e refl refl) (same_parts es)

pub extended_parts : (es : List Entry) (e : Entry) (rest : List Entry) → parting es (es ++ e ∷ rest) ≡ parts.Onward e
unfolding parting
extended_parts [] e rest = refl
extended_parts (f ∷ fs) e rest = rw (same_as f f refl refl) (extended_parts fs e rest)

pub extending_parts : (es : List Entry) (e : Entry) (rest : List Entry) → parting (es ++ e ∷ rest) es ≡ parts.Onward e
unfolding parting
extending_parts [] e rest = refl
extending_parts (f ∷ fs) e rest = rw (same_as f f refl refl) (extending_parts fs e rest)

-- ---- two regular lists begin alike, and what they have in common is regular
stays : (es fs : List Entry) (k : ℕ) {e : Entry} → get_elem? es k ≡ option.some e → get_elem? (es ++ fs) k ≡ option.some e
stays [] fs k h = clash (cc)
stays (g ∷ es) fs zero h = h
stays (g ∷ es) fs (suc k) h = stays es fs k h

begins_so : (es fs : List Entry) {e : Entry} → 0 < length es → get_elem? (es ++ fs) 0 ≡ option.some e → get_elem? es 0 ≡ option.some e
begins_so [] fs l h = absurd (omega arith)
begins_so (g ∷ es) fs l h = h

pub beginning_regular : (es fs : List Entry) → 0 < length es → regular (es ++ fs) ≡ true → regular es ≡ true
beginning_regular es fs l r =
    let w = (regular_tested (es ++ fs)).0 r in
    (regular_tested es).1 (record {
      valid = record {
        rises = λ k p e h h'. w.valid.rises k p e (stays es fs k h) (stays es fs (suc k) h');
        by_one = λ k p e h h'. w.valid.by_one k p e (stays es fs k h) (stays es fs (suc k) h');
      };
      few = omega (arith, w.few, length-append es fs);
      begins = begins_so es fs l w.begins;
      a_day_on_lem = λ k p e h h'. w.a_day_on_lem k p e (stays es fs k h) (stays es fs (suc k) h');
    })

-- what two lists that fork have in common is not empty
pub some_common : {es fs : List Entry} {x : Entry} (k : Fork es fs x) → regular es ≡ true → regular fs ≡ true
    → 0 < length k.common
some_common {es} {fs} k r r' = go k.common k.one_is k.other_is
  where
    go : (common : List Entry) → es ≡ common ++ k.one ∷ k.one_rest → fs ≡ common ++ k.other ∷ k.other_rest → 0 < length common
    go (p ∷ ps) is is' = omega arith
    go [] is is' =
        let a : option.some k.one ≡ option.some (entry 0 (pos 19))
        = sym (ap (λ (xs : List Entry). get_elem? xs 0) is) ∙ ((regular_tested es).0 r).begins in
        let b : option.some k.other ≡ option.some (entry 0 (pos 19))
        = sym (ap (λ (xs : List Entry). get_elem? xs 0) is') ∙ ((regular_tested fs).0 r').begins in
        let same : k.one ≡ k.other = cc in
        absurd (false≢true (sym k.differ ∙ same_as k.one k.other (ap threshold same) (ap offset same)))

-- the earlier of two that differ, with the same offset, is before the other
pub by_threshold_lem : {es fs : List Entry} {x : Entry} (k : Fork es fs x) → offset k.one ≡ offset k.other
    → threshold k.one ≡ threshold k.other → ⊥
by_threshold_lem k n t = false≢true (sym k.differ ∙ same_as k.one k.other t n)
