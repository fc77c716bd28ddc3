-- What several reads or writes have moved, one after the other.
use Rattle.std.proofs.Common.{◌≡◌, ℕ, ◌+◌, ◌-◌, ◌≤◌, List, ◌++◌, None, Some, length, take, drop, length-drop, sym, ap, subst, ◌∙◌, arith}
use borrow.Rule.Slice.PartMut.{put_mid, post_of}
use lib.Seq.{take_all, take-add, take-append-add, take-append-le, length-take-le}
use Rattle.std.proofs.KnownBytes.{Appends-trans, Consumes-trans}
use Rattle.std.specs.Io.KnownBytes.{Appends, Consumes, Keeps}
use Rattle.std.specs.declared.option.Option.{Option}

-- n bytes more are written, from `at` on
pub written_more : (a b c : Option (List ℕ)) (bytes : List ℕ) (at n : ℕ) → Appends a b (take at bytes)
    → Appends b c (take n (take (length bytes - at) (drop at bytes))) → Appends a c (take (at + n) bytes)
written_more a b c bytes at n before more =
    let rest = drop at bytes in
    let whole : take (length bytes - at) rest ≡ rest = take_all (length bytes - at) rest (omega (arith, length-drop at bytes)) in
    rw (take-add at n bytes) (Appends-trans a b c _ _ before (rw whole at more))

-- n bytes more are read, into the part from `at` on
pub read_more : (a b c : Option (List ℕ)) (block part : List ℕ) (at n : ℕ) → at ≤ length block → n ≤ length part
    → Consumes a b (take at block) → Consumes b c (take n part)
    → Consumes a c (take (at + n) (put_mid at (length block - at) block part))
read_more a b c block part at n inside fits before more =
    let front = take at block in
    let after = post_of at (length block - at) block in
    let long : length front ≡ at = length-take-le at block inside in
    let all : take (at + n) (front ++ (part ++ after)) ≡ front ++ take n part
    = rw long at (take-append-add front (part ++ after) n) ∙ ap (λ (l : List ℕ). front ++ l) (take-append-le n part after fits) in
    subst (Consumes a c) (sym all) (Consumes-trans a b c _ _ before more)

-- and what was there before stays
pub read_none : (block part : List ℕ) (at : ℕ) → at ≤ length block
    → take at (put_mid at (length block - at) block part) ≡ take at block
read_none block part at inside =
    let front = take at block in
    let long : length front ≡ at = length-take-le at block inside in
    take-append-le at front _ (omega (arith, long)) ∙ take_all at front (omega (arith, long))

pub appends_kept : (a b c : Option (List ℕ)) (bytes : List ℕ) → Appends a b bytes → Keeps b c → Appends a c bytes
appends_kept None b c bytes p q = tt
appends_kept (Some x) None c bytes p q = absurd p
appends_kept (Some x) (Some y) None bytes p q = absurd q
appends_kept (Some x) (Some y) (Some z) bytes p q = q ∙ p
