-- What theorems need of a regular list: the leap seconds counted up to a TAI reading.
use mathlib.Core.Path.{◌≡◌, ap, ◌∙◌}
use mathlib.Core.Bool.{true}
use mathlib.Core.List.{List}
use Prim.Native.Nat.{ℕ, suc, ◌+◌, ◌≤◌, ◌<◌}
use native.Mathlib.Omega.{arith}
use native.Mathlib.Nat.{zero-add}
use lib.ListN.{drop}
use lib.IntN.{pos}
use Rattle.tables.specs.Entries.{Entry, regular, day, lookup, offset_at}
use Rattle.tables.specs.declared.Lookup.{Lookup}
use Rattle.tables.proofs.Reached as p
use Rattle.tables.proofs.Reached.{Between}

-- k t: the leap seconds up to t, one at each threshold after the first
pub record LeapSeconds (es : List Entry) (k : ℕ → ℕ) : Type 0 where
  pub tells : (t : ℕ) → lookup es t ≡ p.told (19 + k t) (k t) (drop (k t) (drop 1 es))
  pub few : (t : ℕ) → k t ≤ 63
  pub none_on_the_first_day : (t : ℕ) → t < day → k t ≡ 0
  pub rises : (t t' : ℕ) → t ≤ t' → k t ≤ k t'
  pub one_in_a_day : (t t' : ℕ) → t' < t + day → k t' ≤ suc (k t)
  pub more_by_an_entry : (t t' : ℕ) → k t < k t' → Between (drop 1 es) t t'
  pub an_entry_more : (t t' : ℕ) → Between (drop 1 es) t t' → k t < k t'

-- how many thresholds after the first are at most t
unfoldable pub leaps : List Entry → ℕ → ℕ
leaps es t = p.reached (drop 1 es) t

pub counted : (es : List Entry) → regular es ≡ true → LeapSeconds es (leaps es)
unfolding leaps lookup
counted es r =
    let later = drop 1 es in
    let l = p.of-regular es r in
    let at_0 = l.at_0 in
    record {
      tells = λ t.
          ap (λ (fs : List Entry). lookup fs t) l.begins_with
          ∙ (rw (zero-add (p.reached later t)) at (p.by_number l.first later t 0 19 l.later l.is_19));
      few = λ t. omega (arith, p.few later t, l.few);
      none_on_the_first_day = λ t k. p.none_within_a_day l.first later t l.later (omega arith);
      rises = p.rises later;
      one_in_a_day = λ t t'. p.one_in_a_day l.first later t t' l.later;
      more_by_an_entry = p.more_by_an_entry later;
      an_entry_more = p.an_entry_more later;
    }

pub in_force_lem : {es : List Entry} {k : ℕ → ℕ} → LeapSeconds es k → (t : ℕ) → offset_at es t ≡ pos (19 + k t)
in_force_lem f t = ap (λ (l : Lookup). l.offset) (f.tells t)
