-- What an entry joined to a regular list may change, and what no run of entries after it does.
use Rattle.std.specs.Prelude.{◌≡◌, ◌≢◌, true, cond, List, [], ◌∷◌, ◌++◌, ℕ, ◌+◌, ◌*◌, ◌-◌, eqb, pos}
use Rattle.refusals.specs.Outcome.{answered, refused}
use Rattle.counts.specs.Units.{second, day_seconds}
use Rattle.scales.specs.Scales.{tai_minus_gps, gps_minus_galileo}
use Rattle.tables.specs.Entries.{Entry, entry, regular, join_refusal}
use Rattle.conversions.specs.Conversions.{E, utc_to_gps}
use Rattle.conversions.specs.Shifted.{utc_to_shifted}
use Rattle.pushing.specs.SameBefore.{Below, gps_from, utc_from, SameByLists, ChangesByLists, OtherScales}

-- what is left of a table after a run of entries, each joined as `join` says
unfoldable pub after : {A : Type 0} → (A → Entry → ℕ × A) → A → List Entry → A
after join a [] = a
after join a (e ∷ run) = after join (join a e).1 run

-- a list joined with an entry, or as it was where the entry is refused
abbrev pub joined : List Entry → Entry → ℕ × List Entry
joined es e = (join_refusal es e, cond (eqb (join_refusal es e) 0) (es ++ e ∷ []) es)

-- a valid list that is not regular, and an entry that it takes
abbrev pub from_offset0 : List Entry
from_offset0 = entry 0 (pos 0) ∷ []

abbrev pub to_offset1 : Entry
to_offset1 = entry (day_seconds * second) (pos 1)

-- an entry half a second after the last of a regular list
abbrev pub two_days : List Entry
two_days = entry 0 (pos 19) ∷ entry (day_seconds * second) (pos 20) ∷ []

abbrev pub half_a_second_on : Entry
half_a_second_on = entry (day_seconds * second + 500_000_000) (pos 21)

-- an entry at the epoch of Galileo
abbrev pub at_galileo : Entry
at_galileo = entry (gps_minus_galileo + tai_minus_gps) (pos 20)

abbrev pub just_before_galileo : ℕ
just_before_galileo = gps_minus_galileo + E - 1

pub record AddedEntries : Type 0 where
  -- an entry that a regular list takes, and any run of entries after it, change nothing before the entry
  pub same : (es : List Entry) (e : Entry) (run : List Entry) → regular es ≡ true → join_refusal es e ≡ 0
      → SameByLists (gps_from e) (utc_from e) es (after joined es (e ∷ run))
  -- nor in the other scales
  pub same_scales : (es : List Entry) (e : Entry) (run : List Entry) → regular es ≡ true → join_refusal es e ≡ 0
      → OtherScales (gps_from e) (utc_from e) es (after joined es (e ∷ run))
  -- the last entry of a run changes every answer from there on, if it is taken and leaves the list regular
  pub sharp : (es run : List Entry) (e : Entry) → let fs = after joined es run in let gs = after joined es (run ++ e ∷ []) in
      regular fs ≡ true → join_refusal fs e ≡ 0 → regular gs ≡ true → ChangesByLists (gps_from e) (utc_from e) fs gs
  -- a list that is not regular promises nothing: here a UTC count before the entry changes
  pub not_by_any_list : (join_refusal from_offset0 to_offset1 ≡ 0)
      × ((u : ℕ) × Below u (utc_from to_offset1) × (utc_to_gps (from_offset0 ++ to_offset1 ∷ []) u ≢ utc_to_gps from_offset0 u))
  -- and an entry that leaves it irregular may change less: here one second past the event is as it was
  pub not_by_any_entry : (join_refusal two_days half_a_second_on ≡ 0)
      × ((u g : ℕ) × (pos u ≡ utc_from half_a_second_on) × (utc_to_gps two_days u ≡ answered g)
      × (utc_to_gps (two_days ++ half_a_second_on ∷ []) u ≡ answered g))
  -- the later of two counts is outside: here the last nanosecond before Galileo's epoch is converted by it, and not before
  pub not_by_the_later : Below just_before_galileo (utc_from at_galileo)
      × (utc_to_shifted gps_minus_galileo (entry 0 (pos 19) ∷ []) just_before_galileo ≡ refused 1)
      × (utc_to_shifted gps_minus_galileo (entry 0 (pos 19) ∷ at_galileo ∷ []) just_before_galileo ≡ answered (second - 1))
