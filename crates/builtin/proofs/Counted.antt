-- What is in force by the built-in table is told by the number of events that the reading has passed.
use Rattle.std.specs.Prelude.{Option, Some}
use mathlib.Core.Path.{◌≡◌, refl, ap, ◌∙◌}
use mathlib.Core.Bool.{cond}
use mathlib.Core.List.{List, [], ◌∷◌, map}
use Prim.Native.Nat.{ℕ, zero, suc, ◌+◌, ◌-◌, ◌≤◌}
use native.Mathlib.Omega.{arith}
use native.Mathlib.Nat.{zero-add}
use native.Mathlib.Decide.{dec_le}
use borrow.Author.Tests.{le-leb, lt-leb}
use lib.Dec.{leb}
use lib.IntN.{pos}
use lib.ListN.{length, drop}
use Rattle.calendar.specs.Formula.{formula, era, yoe, doy, doe}
use Rattle.tables.specs.Entries.{Entry, threshold, entry, neighbours, first_threshold, lookup}
use Rattle.tables.proofs.Reached as entries
use Rattle.builtin.specs.Builtin.{builtin, events, threshold_of, entries_from}
use Rattle.builtin.specs.Reached.{count_reached, event_thresholds, first_of, told_at}

pub eighteen : length event_thresholds ≡ 18
unfolding event_thresholds
eighteen = refl

-- a test as a number, two ways
bit : (x t : ℕ) → 1 - (x - t) ≡ cond (leb x t) 1 0
bit x t = by_order (dec_le x t)
  where
    by_order : Dec (x ≤ t) → 1 - (x - t) ≡ cond (leb x t) 1 0
    by_order (yes h) = rw (le-leb x t h) (omega arith)
    by_order (no h) = rw (lt-leb x t (omega (arith, h))) (omega (arith, h))

pub of_entries : (es : List Entry) (t : ℕ) → entries.reached es t ≡ count_reached t (map threshold es)
unfolding count_reached entries.reached
of_entries [] t = refl
of_entries (e ∷ es) t = λ i. bit (threshold e) t i + of_entries es t i

-- the entries after the first
unfoldable pub later : List Entry
later = entries_from 20 events

unfoldable pub first : Entry
first = entry 0 (pos 19)

pub chained : entries.Chain first later
unfolding first later events threshold_of entries_from formula era yoe doy doe neighbours
chained = entries.chain first later refl refl

thresholds_are : map threshold later ≡ event_thresholds
unfolding later events threshold_of entries_from formula era yoe doy doe event_thresholds
thresholds_are = refl

-- the next threshold of entries is that of their thresholds
next_of : (k : ℕ) (es : List Entry) → first_threshold (drop k es) ≡ first_of (drop k (map threshold es))
next_of zero [] = refl
next_of zero (e ∷ es) = refl
next_of (suc k) [] = refl
next_of (suc k) (e ∷ es) = next_of k es

pub in_force_lem : (t : ℕ) → lookup builtin t ≡ told_at (entries.reached later t)
unfolding builtin first later lookup
in_force_lem t =
    let k = entries.reached later t in
    (rw (zero-add k) at (entries.by_number first later t 0 19 chained refl))
    ∙ ap (λ (y : Option ℕ). record { offset = pos (19 + k); place = Some k; next = y })
    (next_of k later ∙ ap (λ (xs : List ℕ). first_of (drop k xs)) thresholds_are)

pub counted : (t : ℕ) → lookup builtin t ≡ told_at (count_reached t event_thresholds)
counted t = in_force_lem t ∙ ap told_at (of_entries later t ∙ ap (count_reached t) thresholds_are)
