-- Civil readings of GPS counts and back, over a list of entries on days. Counts are in nanoseconds.
--     there g   what GPS to civil gives for the GPS count g
--     back c    what civil to GPS gives for the fields c
use Rattle.std.specs.Prelude.{◌≡◌, ◌↔◌, ◌≢◌, true, false, ℕ, ◌+◌, ◌/◌, ◌%◌, ◌^◌, ◌≤◌, ◌<◌, drop, pos}
use mathlib.Core.List.{List, Memᴰ}
use Rattle.std.proofs.Math.Option.{none, some}
use Rattle.refusals.specs.Outcome.{Outcome, answered, refused}
use Rattle.counts.specs.Units.{second}
use Rattle.scales.specs.Scales.{tai_minus_gps}
use Rattle.calendar.specs.Calendar.{date_of}
use Rattle.civil.specs.Fields.{fields, fields_of, count_at}
use Rattle.civil.specs.Real.{out_of_range}
use Rattle.civil.specs.declared.CivilDateTime.{CivilDateTime}
use Rattle.tables.specs.Entries.{Entry, threshold, day, on_days}
use Rattle.conversions.specs.Conversions.{gps_to_utc}
use Rattle.readings.specs.Readings.{gps_to_civil, civil_to_gps}
use Rattle.readings.specs.Order.{earlier}

-- the GPS count g, of 64 bits, is read as the fields c
abbrev pub ReadAs : (ℕ → Outcome CivilDateTime) → ℕ → CivilDateTime → Type 0
ReadAs there g c = (g < 2 ^ 64) × (there g ≡ answered c)

-- the GPS count g, of 64 bits, has the UTC count that the lenient formula gives for the fields c
abbrev pub HasCountOf : List Entry → ℕ → CivilDateTime → Type 0
HasCountOf es g c = (g < 2 ^ 64) × ((u : ℕ) × (count_at c ≡ answered u) × (gps_to_utc es g ≡ answered u))

-- the TAI reading t is in the last second before the threshold of an entry after the first
abbrev pub InLastSecond : List Entry → ℕ → Type 0
InLastSecond es t = (e : Entry) × Memᴰ e (drop 1 es) × (t < threshold e) × (threshold e ≤ t + second)

-- 23:59:60 on the day before that of the UTC count u, with its nanoseconds: 1972-01-01 is Unix day 730
abbrev pub sixty_before : ℕ → CivilDateTime
sixty_before u =
    let d = date_of (pos (u / second / 86400 + 729)) in fields d.year d.month d.day 23 59 60 (u % second)

pub record CivilReadings (es : List Entry) (there : ℕ → Outcome CivilDateTime) (back : CivilDateTime → Outcome ℕ) : Type 0 where
  -- A GPS count is refused exactly where GPS to UTC refuses it, with the same number.
  pub refused_exactly : (g : ℕ) → g < 2 ^ 64 → (k : ℕ) → (there g ≡ refused k) ↔ (gps_to_utc es g ≡ refused k)
  -- In the last second before the threshold of an entry after the first it is read as 23:59:60 of the day that ends
  -- there: its UTC count is in the first second of the next day.
  pub inserted : (g u : ℕ) (c : CivilDateTime) → ReadAs there g c → gps_to_utc es g ≡ answered u
      → InLastSecond es (g + tai_minus_gps) → (u % day < second) × (c ≡ sixty_before u)
  -- Elsewhere it is read as the fields of its UTC count.
  pub elsewhere : (g u : ℕ) (c : CivilDateTime) → ReadAs there g c → gps_to_utc es g ≡ answered u
      → (InLastSecond es (g + tai_minus_gps) → ⊥) → c ≡ fields_of u
  -- A later count has a later reading,
  pub rises : (g g' : ℕ) (c c' : CivilDateTime) → ReadAs there g c → ReadAs there g' c' → g < g' → earlier c c' ≡ true
  -- so no two have one reading,
  pub no_two : (g g' : ℕ) (c : CivilDateTime) → ReadAs there g c → ReadAs there g' c → g ≡ g'
  -- and fields go to a count exactly if it is read as they are.
  pub read_exactly : (c : CivilDateTime) (g : ℕ) → (back c ≡ answered g) ↔ ReadAs there g c
  -- Of the other fields those with one out of range are refused by the number of the first that is, which is neither 14
  -- nor 1.
  pub out_of_range_lem : (c : CivilDateTime) (k : ℕ)
      → (out_of_range c ≡ some k) ↔ ((back c ≡ refused k) × (k ≢ 14) × (k ≢ 1))
  -- Fields that exist are refused 14 where their second is 60,
  pub sixty_refused : (c : CivilDateTime) → out_of_range c ≡ none → c.second ≡ 60
      → (back c ≡ refused 14) ↔ ((g : ℕ) → ReadAs there g c → ⊥)
  -- and else 1.
  pub others_refused : (c : CivilDateTime) → out_of_range c ≡ none → c.second ≢ 60
      → (back c ≡ refused 1) ↔ ((g : ℕ) → ReadAs there g c → ⊥)
  -- Where the second is not 60, the answer is a count that has the UTC count of the fields by the lenient formula,
  pub has_their_count : (c : CivilDateTime) (g : ℕ) → c.second ≢ 60 → back c ≡ answered g → HasCountOf es g c
  -- the later where two have it.
  pub the_later : (c : CivilDateTime) (g : ℕ) → c.second ≢ 60 → back c ≡ answered g
      → (g' : ℕ) → HasCountOf es g' c → g' ≤ g

-- over every list on days
abbrev pub ByLists : Type 0
ByLists = (es : List Entry) → on_days es ≡ true → CivilReadings es (gps_to_civil es) (civil_to_gps es)

-- by any other list both refuse 13, whatever they are given
abbrev pub OnlyOnDays : Type 0
OnlyOnDays =
    (es : List Entry) → on_days es ≡ false
    → ((g : ℕ) → gps_to_civil es g ≡ refused 13) × ((c : CivilDateTime) → civil_to_gps es c ≡ refused 13)
