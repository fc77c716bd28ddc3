-- What the expiry of a table never does, and when a table stays stale. Each call with a table says by its contract
-- `by_table`, or `dated_by_image`, with the TAI reading that it looked up last and with what it answers by the entries.
use Rattle.std.specs.Prelude.{◌≡◌, Bool, true, false, List, [], ◌∷◌, ℕ, ◌+◌, ◌*◌, ◌-◌, ◌^◌, ◌≤◌, ◌<◌, pos}
use Rattle.refusals.specs.Outcome.{Outcome, answered, refused}
use Rattle.counts.specs.Units.{second}
use Rattle.scales.specs.Scales.{tai_minus_gps}
use Rattle.tables.specs.Entries.{Entry, entry}
use Rattle.tables.specs.Slots.{entries_of, table_of, no_expiry}
use Rattle.tables.specs.Expiry.{by_table, with_expiry}
use Rattle.tables.specs.declared.LeapTable.{LeapTable}
use Rattle.images.specs.Image.{sized, table_in, dated_by_image}
use Rattle.conversions.specs.Conversions.{E, gps_to_utc, last_reading, utc_to_gps}
use Rattle.demands.specs.OfCalls.{Regular}

-- what a GPS count and a UTC count give by a table
abbrev pub by_gps : LeapTable → ℕ → Outcome ℕ × Bool
by_gps t g = by_table t (g + tai_minus_gps) (gps_to_utc (entries_of t) g)

abbrev pub by_utc : LeapTable → ℕ → Outcome ℕ × Bool
by_utc t u = by_table t (last_reading (entries_of t) u) (utc_to_gps (entries_of t) u)

-- valid, and not regular: the reading b of the UTC counts up to 2 ^ 64 is no count, and a is far below it
abbrev pub far_ahead : LeapTable
far_ahead = with_expiry (2 ^ 64 - 2) (table_of (entry 0 (pos 1_000_000_000) ∷ []))

-- the UTC count whose reading b is 2 ^ 64 - 2
abbrev pub last_stale : ℕ
last_stale = 2 ^ 64 - 2 + E - 1_000_000_000 * second

pub record Stale : Type 1 where
  -- the expiry changes no answer, whatever a call answers and whatever it looked up last
  pub same_answer : {A : Type 0} (t : LeapTable) (x : ℕ) (tai : List Entry → ℕ) (answer : List Entry → Outcome A)
      → let s = with_expiry x t in
      (by_table s (tai (entries_of s)) (answer (entries_of s))).0 ≡ (by_table t (tai (entries_of t)) (answer (entries_of t))).0
  -- by images of tables that differ in the expiry alone
  pub same_answer_by_image : {A : Type 0} (b c : List ℕ) (x : ℕ) (tai : List Entry → ℕ) (answer : List Entry → Outcome A)
      → sized b ≡ sized c → table_in c ≡ with_expiry x (table_in b)
      → (dated_by_image c tai answer).0 ≡ (dated_by_image b tai answer).0
  -- a table without an expiry is never stale, and a refusal never is
  pub never_without : {A : Type 0} (t : LeapTable) (tai : ℕ) (o : Outcome A) → t.expiry ≡ no_expiry
      → (by_table t tai o).1 ≡ false
  pub never_refused : {A : Type 0} (t : LeapTable) (tai k : ℕ) (o : Outcome A) → (by_table t tai o).0 ≡ refused k
      → (by_table t tai o).1 ≡ false
  -- where a GPS count is past the expiry, every later one that converts is, too
  pub gps_stays : (t : LeapTable) (g h u : ℕ) → g ≤ h → (by_gps t g).1 ≡ true → (by_gps t h).0 ≡ answered u
      → (by_gps t h).1 ≡ true
  -- and by a regular table every later UTC count of 64 bits
  pub utc_stays : (t : LeapTable) → Regular t → (u v : ℕ) → u ≤ v → v < 2 ^ 64 → (by_utc t u).1 ≡ true
      → (by_utc t v).1 ≡ true
  -- not by every table: here two nanoseconds later it is answered by the reading a, before the expiry
  pub utc_need_not : ((by_utc far_ahead last_stale).1 ≡ true)
      × ((g : ℕ) × (by_utc far_ahead (last_stale + 2) ≡ (answered g, false)))
