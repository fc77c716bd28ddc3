-- What a call answers by the table of an image, and whether that is stale: the size and the table are one test, and a
-- step before or after is taken as by a table.
use mathlib.Core.Path.{◌≡◌, sym, ap, ◌∙◌}
use mathlib.Core.Bool.{Bool, cond}
use mathlib.Core.List.{List}
use Prim.Native.Nat.{ℕ, ◌+◌}
use Rattle.refusals.specs.Outcome.{Outcome, refused, value_in, then}
use Rattle.counts.specs.Exact.{up}
use Rattle.tables.specs.Entries.{Entry}
use Rattle.tables.specs.Slots.{entries_of}
use Rattle.tables.specs.Expiry.{stale_at, dated}
use Rattle.conversions.proofs.Dated as store
use Rattle.images.specs.Image.{table_in, dated_by_image}
use Rattle.images.proofs.Held.{holds, one_test}

module _ (b : List ℕ) where
  abbrev pub es : List Entry
  es = entries_of (table_in b)

  abbrev pub stale_in : ℕ → Bool
  stale_in tai = stale_at (table_in b).expiry tai

  -- in one test
  pub in_one : {A : Type 0} (tai : List Entry → ℕ) (answer : List Entry → Outcome A)
      → dated_by_image b tai answer ≡ dated (stale_in (tai es)) (cond (holds b) (answer es) (refused 8))
  in_one tai answer = ap (dated (stale_in (tai es))) (one_test b (answer es))

  -- a fixed difference is added first
  pub sum_first : (reading : List Entry → ℕ → ℕ) (next : List Entry → ℕ → Outcome ℕ) (d : ℕ) (count : Outcome ℕ)
      {sum : Outcome ℕ} → sum ≡ then count (up d)
      → dated_by_image b (λ es. reading es (value_in 0 sum)) (λ es. then sum (next es))
      ≡ dated_by_image b (λ es. reading es (value_in 0 count + d)) (λ es. then count (λ n. then (up d n) (next es)))
  sum_first reading next d count {sum} is =
      in_one (λ es. reading es (value_in 0 sum)) (λ es. then sum (next es))
      ∙ store.sum_first (table_in b).expiry (holds b) (reading es) (next es) d count is
      ∙ sym (in_one (λ es. reading es (value_in 0 count + d)) (λ es. then count (λ n. then (up d n) (next es))))
