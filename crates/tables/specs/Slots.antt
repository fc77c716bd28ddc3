-- Which list of entries a table is, and the table of a list.
use Rattle.std.specs.Prelude.{Bool, cond, ◌&&◌, List, [], ◌∷◌, ◌++◌, map, ℕ, ◌+◌, ◌-◌, ◌^◌, leb, eqb, length, get_or, take, set, replicate, ℤ, pos}
use Rattle.refusals.specs.Outcome.{Outcome, refused}
use Rattle.tables.specs.declared.LeapEntry.{LeapEntry}
use Rattle.tables.specs.declared.LeapTable.{LeapTable}
use Rattle.tables.specs.Entries.{Entry, threshold, offset, entry, valid, join_refusal, building_refusal}

-- thresholds and offsets side by side, up to the shorter length
unfoldable pub paired : List ℕ → List ℤ → List Entry
paired [] zs = []
paired (x ∷ xs) [] = []
paired (x ∷ xs) (z ∷ zs) = entry x z ∷ paired xs zs

-- the entry in slot i
abbrev pub slot_at : List ℕ → List ℤ → ℕ → Entry
slot_at xs zs i = entry (get_or xs i 0) (get_or zs i (pos 0))

-- the first n slots
abbrev pub slots : List ℕ → List ℤ → ℕ → List Entry
slots xs zs n = take n (paired xs zs)

-- a table is its first `len` slots
abbrev pub entries_of : LeapTable → List Entry
entries_of t = slots t.thresholds t.offsets t.len

-- at most 64 slots, and what they hold is valid
abbrev pub valid_slots : List ℕ → List ℤ → ℕ → Bool
valid_slots xs zs n = leb n 64 && valid (slots xs zs n)

abbrev pub valid_table : LeapTable → Bool
valid_table t = valid_slots t.thresholds t.offsets t.len

-- a call with a table: 8 first
abbrev pub of_valid_slots : {A : Type 0} → List ℕ → List ℤ → ℕ → Outcome A → Outcome A
of_valid_slots xs zs n a = cond (valid_slots xs zs n) a (refused 8)

abbrev pub of_valid : {A : Type 0} → LeapTable → Outcome A → Outcome A
of_valid t a = of_valid_slots t.thresholds t.offsets t.len a

-- the expiry of a table that has none: the largest count
abbrev pub no_expiry : ℕ
no_expiry = 2 ^ 64 - 1

-- the table of a list: its entries, (0, 0) in the slots past them, and no expiry
abbrev pub table_of : List Entry → LeapTable
table_of es = record {
  thresholds = map threshold es ++ replicate (64 - length es) 0;
  offsets = map offset es ++ replicate (64 - length es) (pos 0);
  len = length es;
  expiry = no_expiry;
}

-- the table with an entry in the slot at its length, no other slot changed, and its expiry
abbrev pub joined_to : LeapTable → LeapEntry → LeapTable
joined_to t e = record {
  thresholds = set t.thresholds t.len (threshold e);
  offsets = set t.offsets t.len (offset e);
  len = t.len + 1;
  expiry = t.expiry;
}

-- why a table cannot be extended by an entry: 8, then as its list; 0 where it can
abbrev pub extension_refusal : LeapTable → LeapEntry → ℕ
extension_refusal t e = cond (valid_table t) (join_refusal (entries_of t) e) 8

-- the refusal's number, or 0, and the table afterwards: on a refusal `t` itself
abbrev pub extended : LeapTable → LeapEntry → ℕ × LeapTable
extended t e = (extension_refusal t e, cond (eqb (extension_refusal t e) 0) (joined_to t e) t)

-- the refusal's number, or 0, and the table built: on a refusal the one with no entry
abbrev pub built : List Entry → ℕ × LeapTable
built es = (building_refusal es, table_of (cond (eqb (building_refusal es) 0) es []))
