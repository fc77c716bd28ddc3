-- Tables that go stale: from its expiry on, a TAI reading, a table may lack the latest entries.
use Rattle.std.specs.Prelude.{Bool, false, cond, not, ◌&&◌, ℕ, leb, eqb}
use Rattle.std.proofs.Math.Option.{Option, none, some}
use Rattle.refusals.specs.Outcome.{Outcome, answered, refused}
use Rattle.tables.specs.declared.LeapTable.{LeapTable}
use Rattle.tables.specs.Slots.{valid_table, of_valid, no_expiry}

-- a table with this expiry is stale at a TAI reading: there is an expiry, and it is at or below the reading
abbrev pub stale_at : (expiry tai : ℕ) → Bool
stale_at x tai = not (eqb x no_expiry) && leb x tai

-- an answer with a yes or no, which is no at a refusal
abbrev pub dated : {A : Type 0} → Bool → Outcome A → Outcome A × Bool
dated stale (answered a) = (answered a, stale)
dated stale (refused k) = (refused k, false)

-- what a call that looked up `tai` last answers by a table: 8 first, and whether the table is stale there
abbrev pub by_table : {A : Type 0} → LeapTable → (tai : ℕ) → Outcome A → Outcome A × Bool
by_table t tai a = dated (stale_at t.expiry tai) (of_valid t a)

-- the expiry, or nothing
abbrev pub expiry_in : LeapTable → Option ℕ
expiry_in t = cond (eqb t.expiry no_expiry) none (some t.expiry)

-- the table with this expiry in place of its own
abbrev pub with_expiry : ℕ → LeapTable → LeapTable
with_expiry x t = record { thresholds = t.thresholds; offsets = t.offsets; len = t.len; expiry = x }

-- 0 and the table with this expiry, or 8 and the table as it was
abbrev pub expiring : LeapTable → ℕ → ℕ × LeapTable
expiring t x = cond (valid_table t) (0, with_expiry x t) (8, t)
