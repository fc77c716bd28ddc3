-- Two ways to convert that agree before a GPS count and before a UTC count. Counts are in nanoseconds.
--     there g, there' g   what each of the two gives for the GPS count g, as UTC
--     back u, back' u     and for the UTC count u, as GPS
use Rattle.std.specs.Prelude.{◌≡◌, true, List, ℕ, ◌+◌, ◌^◌, ◌≤◌, ◌<◌, ℤ, pos, ◌+ℤ◌, ◌-ℤ◌}
use Rattle.std.specs.Int.Signed.{lt_z}
use Rattle.refusals.specs.Outcome.{Outcome, answered}
use Rattle.counts.specs.Units.{second}
use Rattle.scales.specs.Scales.{tai_minus_gps}
use Rattle.tables.specs.Entries.{Entry, threshold}
use Rattle.conversions.specs.Conversions.{gps_to_utc, utc_to_gps, glonass_epoch, glonass_to_gps, gps_to_glonass}
use Rattle.conversions.specs.Conversions.{unix_to_utc, unix_to_gps, gps_to_unix}
use Rattle.conversions.specs.Shifted.{shifted_to_utc, utc_to_shifted, shifted_to_glonass, glonass_to_shifted}
use Rattle.alike.specs.Alike.{event}

abbrev pub Below : ℕ → ℤ → Type 0
Below n z = lt_z (pos n) z ≡ true

-- where an added entry begins to change answers: the GPS count whose TAI reading is the threshold,
abbrev pub gps_from : Entry → ℤ
gps_from e = pos (threshold e) -ℤ pos tai_minus_gps

-- and the UTC count one second past the event
abbrev pub utc_from : Entry → ℤ
utc_from e = event e +ℤ pos second

-- each count of 64 bits below converts to the same count or the same refusal
pub record SameBefore (gps utc : ℤ) (there there' back back' : ℕ → Outcome ℕ) : Type 0 where
  pub to_utc : (g : ℕ) → g < 2 ^ 64 → Below g gps → there' g ≡ there g
  pub to_gps : (u : ℕ) → u < 2 ^ 64 → Below u utc → back' u ≡ back u

-- and from there on each answer changes by one second
pub record ChangesFrom (gps utc : ℤ) (there there' back back' : ℕ → Outcome ℕ) : Type 0 where
  pub to_utc : (g u : ℕ) → (Below g gps → ⊥) → there g ≡ answered u
      → (v : ℕ) × (u ≡ v + second) × (there' g ≡ answered v)
  pub to_gps : (u g : ℕ) → u < 2 ^ 64 → (Below u utc → ⊥) → back u ≡ answered g → back' u ≡ answered (g + second)

-- ---- by lists of entries, and then by way of GPS and UTC
abbrev pub SameByLists : ℤ → ℤ → List Entry → List Entry → Type 0
SameByLists gps utc es fs = SameBefore gps utc (gps_to_utc es) (gps_to_utc fs) (utc_to_gps es) (utc_to_gps fs)

abbrev pub ChangesByLists : ℤ → ℤ → List Entry → List Entry → Type 0
ChangesByLists gps utc es fs = ChangesFrom gps utc (gps_to_utc es) (gps_to_utc fs) (utc_to_gps es) (utc_to_gps fs)

-- the conversions that follow: GLONASS and Unix time both ways; a scale whose counts are those of GPS less d, as Galileo
-- and BeiDou, to UTC and to GLONASS, and back only where its epoch is not after the first GPS count
pub record OtherScales (gps utc : ℤ) (es fs : List Entry) : Type 0 where
  pub gps_to_glonass_lem : (g : ℕ) → g < 2 ^ 64 → Below g gps → gps_to_glonass fs g ≡ gps_to_glonass es g
  pub glonass_to_gps_lem : (n : ℕ) → Below (n + glonass_epoch) utc → glonass_to_gps fs n ≡ glonass_to_gps es n
  pub gps_to_unix_lem : (g : ℕ) → g < 2 ^ 64 → Below g gps → gps_to_unix fs g ≡ gps_to_unix es g
  pub unix_to_gps_lem : (s : ℤ) → ((u : ℕ) → unix_to_utc s ≡ answered u → Below u utc) → unix_to_gps fs s ≡ unix_to_gps es s
  pub shifted_to_utc_lem : (d n : ℕ) → Below (n + d) gps → shifted_to_utc d fs n ≡ shifted_to_utc d es n
  pub shifted_to_glonass_lem : (d n : ℕ) → Below (n + d) gps → shifted_to_glonass d fs n ≡ shifted_to_glonass d es n
  pub utc_to_shifted_lem : (d u : ℕ) → u < 2 ^ 64 → Below u utc → ((g : ℕ) → utc_to_gps es u ≡ answered g → d ≤ g)
      → utc_to_shifted d fs u ≡ utc_to_shifted d es u
  pub glonass_to_shifted_lem : (d n : ℕ) → Below (n + glonass_epoch) utc
      → ((g : ℕ) → utc_to_gps es (n + glonass_epoch) ≡ answered g → d ≤ g)
      → glonass_to_shifted d fs n ≡ glonass_to_shifted d es n
