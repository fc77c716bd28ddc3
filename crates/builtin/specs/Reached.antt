-- How many thresholds a reading has passed: only the contracts of private functions speak of it.
use Rattle.std.specs.Prelude.{cond, List, [], ◌∷◌, ℕ, ◌+◌, ◌*◌, ◌^◌, ◌≤◌, ◌<◌, leb, eqb, pos, get_or, drop, None, Option, Some}
use Rattle.tables.specs.declared.Lookup.{Lookup}

unfoldable pub count_reached : ℕ → List ℕ → ℕ
count_reached t [] = 0
count_reached t (x ∷ xs) = cond (leb x t) 1 0 + count_reached t xs

-- the thresholds of the events
unfoldable pub event_thresholds : List ℕ
event_thresholds =
    46_828_820_000_000_000 ∷ 78_364_821_000_000_000 ∷ 109_900_822_000_000_000 ∷ 173_059_223_000_000_000 ∷
    252_028_824_000_000_000 ∷ 315_187_225_000_000_000 ∷ 346_723_226_000_000_000 ∷ 393_984_027_000_000_000 ∷
    425_520_028_000_000_000 ∷ 457_056_029_000_000_000 ∷ 504_489_630_000_000_000 ∷ 551_750_431_000_000_000 ∷
    599_184_032_000_000_000 ∷ 820_108_833_000_000_000 ∷ 914_803_234_000_000_000 ∷ 1_025_136_035_000_000_000 ∷
    1_119_744_036_000_000_000 ∷ 1_167_264_037_000_000_000 ∷ []

-- the first of some thresholds
abbrev pub first_of : List ℕ → Option ℕ
first_of [] = None
first_of (x ∷ xs) = Some x

-- the threshold of an event, counted from 0; 0 past the last
abbrev pub event_at : ℕ → ℕ
event_at event = get_or event_thresholds event 0

-- the threshold after as many events
abbrev pub event_after : ℕ → Option ℕ
event_after events = first_of (drop events event_thresholds)

-- what is in force from an event on; 0 stands for the first entry
abbrev pub told_at : ℕ → Lookup
told_at event = record { offset = pos (19 + event); place = Some event; next = event_after event }

-- the UTC counts a second past each event
unfoldable pub past_events : List ℕ
past_events =
    299_721_601_000_000_000 ∷ 331_257_601_000_000_000 ∷ 362_793_601_000_000_000 ∷ 425_952_001_000_000_000 ∷
    504_921_601_000_000_000 ∷ 568_080_001_000_000_000 ∷ 599_616_001_000_000_000 ∷ 646_876_801_000_000_000 ∷
    678_412_801_000_000_000 ∷ 709_948_801_000_000_000 ∷ 757_382_401_000_000_000 ∷ 804_643_201_000_000_000 ∷
    852_076_801_000_000_000 ∷ 1_073_001_601_000_000_000 ∷ 1_167_696_001_000_000_000 ∷ 1_278_028_801_000_000_000 ∷
    1_372_636_801_000_000_000 ∷ 1_420_156_801_000_000_000 ∷ []

-- the same of an event, counted from 0; 0 past the last
abbrev pub past_at : ℕ → ℕ
past_at event = get_or past_events event 0

-- counts are cut into buckets of 2⁵⁵ ns, from 0 to 31
abbrev pub bucket : ℕ
bucket = 2 ^ 55

-- where a bucket begins, if bucket 0 starts at a count; bucket 0 has all that is before its start too
abbrev pub bucket_from : ℕ → ℕ → ℕ
bucket_from start b = cond (eqb b 0) 0 (start + b * bucket)

-- where it ends; bucket 31 has all that is after it too
abbrev pub bucket_to : ℕ → ℕ → ℕ
bucket_to start b = cond (eqb b 31) (2 ^ 64) (start + (b + 1) * bucket)

pub record InBucket (start count b : ℕ) : Type 0 where
  pub few : b ≤ 31
  pub begun : bucket_from start b ≤ count
  pub ahead : count < bucket_to start b

-- how many events are before a bucket of readings; there bucket 0 starts at 2⁵⁵ ns
abbrev pub events_before : ℕ → ℕ
events_before b = count_reached (bucket_from bucket b) event_thresholds
