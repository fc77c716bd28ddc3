-- What `alike` tells of two lists of entries.
use Rattle.std.specs.Prelude.{◌≡◌, ◌↔◌, ◌≢◌, ◌⊎◌, false, ◌&&◌, List, ◌∷◌, ◌++◌, ℕ, ◌^◌, ◌<◌, ℤ, pos}
use Rattle.refusals.specs.Outcome.{Outcome, answered, refused}
use Rattle.tables.specs.Entries.{Entry, regular}
use Rattle.conversions.specs.Conversions.{gps_to_utc, utc_to_gps}
use Rattle.alike.specs.Alike.{alike}
use Rattle.alike.specs.declared.Counts.{Counts}
use Rattle.alike.specs.declared.Alike.TheVariants as how
use Rattle.pushing.specs.SameBefore.{SameBefore, OtherScales}

-- the same before the counts; and at the counts no answer is the same
pub record AlikeBefore (gps utc : ℤ) (there there' back back' : ℕ → Outcome ℕ) : Type 0 where
  pub same : SameBefore gps utc there there' back back'
  pub gps_differs : (g u : ℕ) → pos g ≡ gps → g < 2 ^ 64 → there g ≡ answered u → there' g ≡ answered u → ⊥
  pub utc_differs : (u g : ℕ) → pos u ≡ utc → u < 2 ^ 64 → back u ≡ answered g → back' u ≡ answered g → ⊥

-- `fs` is `es` and entries after it
abbrev pub Extends : List Entry → List Entry → Type 0
Extends es fs = (e : Entry) × (rest : List Entry) × (fs ≡ es ++ e ∷ rest)

pub record AlikeLists (es fs : List Entry) : Type 0 where
  -- the same entries
  pub everywhere : (alike es fs ≡ answered how.Everywhere) ↔ (es ≡ fs)
  -- one extends the other
  pub before : (c : Counts) → alike es fs ≡ answered (how.Before c)
      → (Extends es fs ⊎ Extends fs es)
      × AlikeBefore (pos c.gps) (pos c.utc) (gps_to_utc es) (gps_to_utc fs) (utc_to_gps es) (utc_to_gps fs)
      × OtherScales (pos c.gps) (pos c.utc) es fs
  -- neither does
  pub apart : (c : Counts) → alike es fs ≡ answered (how.Apart c)
      → ((Extends es fs ⊎ Extends fs es) → ⊥)
      × AlikeBefore (pos c.gps) (pos c.utc) (gps_to_utc es) (gps_to_utc fs) (utc_to_gps es) (utc_to_gps fs)
      × OtherScales (pos c.gps) (pos c.utc) es fs
  -- they are not the same, and not both are regular
  pub irregular : alike es fs ≡ answered how.Irregular → (es ≢ fs) × ((regular es && regular fs) ≡ false)
  -- there is no UTC count of 64 bits that changes
  pub refused_by : (k : ℕ) → alike es fs ≡ refused k → (k ≡ 1) × ((u : ℕ) → u < 2 ^ 64 → utc_to_gps fs u ≡ utc_to_gps es u)
