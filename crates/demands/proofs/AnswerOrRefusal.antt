-- What a conversion between UTC and GPS, or a scale at a fixed difference, gives is a count or one of the refusals, so what holds of these holds of it.
-- The same of a civil reading and of what fields go back to.
use mathlib.Core.Bool.{Bool, true, false, cond, ◌&&◌}
use mathlib.Core.List.{List, [], ◌∷◌}
use mathlib.Core.Option.{Option, none, some}
use Prim.Native.Nat.{ℕ, ◌+◌, ◌*◌, ◌^◌}
use lib.Dec.{ltb, leb, eqb}
use lib.IntN.{ℤ, pos, negsuc, nat_abs, ◌+ℤ◌, ◌-ℤ◌}
use lib.Signed.{non_neg, lt_z}
use Rattle.refusals.specs.Number.{number_of}
use Rattle.refusals.specs.Outcome.{Outcome, answered, refused, value_in, then, changed}
use Rattle.refusals.specs.declared.Refusal.{Refusal}
use Rattle.refusals.specs.declared.Refusal.TheVariants.{Overflow, BadTable, OffsetRange, InvalidNanos, NotOnDays, NoInsertedSecond}
use Rattle.refusals.specs.declared.Refusal.TheVariants.{NoSuchMonth, NoSuchDay, NoSuchHour, NoSuchMinute, NoSuchSecond}
use Rattle.refusals.proofs.Given.{Numbered}
use Rattle.refusals.proofs.Tells.{number_not_zero}
use Rattle.counts.specs.Exact.{count_of, up, down}
use Rattle.counts.specs.Units.{second}
use Rattle.scales.specs.Scales.{tai_minus_gps}
use Rattle.calendar.specs.Formula.{day_of}
use Rattle.calendar.specs.Dates.{utc_epoch_day}
use Rattle.calendar.specs.Calendar.{has_month, has_day}
use Rattle.civil.specs.Fields.{date_in, time_of, count_at}
use Rattle.civil.specs.Real.{unless_refused, of_real}
use Rattle.civil.specs.declared.CivilDateTime.{CivilDateTime}
use Rattle.tables.specs.Entries.{Entry, offset_at, regular, day, on_days}
use Rattle.tables.specs.Slots.{entries_of, valid_table}
use Rattle.images.specs.Image.{sized, table_in, by_image}
use Rattle.conversions.specs.Conversions.{E, in_nanos, in_range, utc_at_offset, last_reading, gps_to_utc, utc_to_gps}
use Rattle.conversions.specs.Shifted.{same_answer, later_of, shifted_to_utc, utc_to_shifted}
use Rattle.readings.specs.Readings.{reading_of, gps_to_civil, same_fields, utc_to_later, read_so, civil_to_gps}

module _ {A : Type 0} (P : Outcome A → Type 0) where
  -- whichever of the two a test takes
  either : (b : Bool) (x y : Outcome A) → P x → P y → P (cond b x y)
  either true x y p q = p
  either false x y p q = q

-- the number of the first test that fails, where the tests are told with their refusals
abbrev refusing : List (Bool × Refusal) → Option ℕ
refusing [] = none
refusing ((passes, w) ∷ ts) = cond passes (refusing ts) (some (number_of w))

module _ {A : Type 0} (P : Outcome A → Type 0) (of_refusal : (w : Refusal) → P (refused (number_of w))) where
  by_tests : (ts : List (Bool × Refusal)) (a : Outcome A) → P a → P (unless_refused (refusing ts) a)
  by_tests [] a p = p
  by_tests ((true, w) ∷ ts) a p = by_tests ts a p
  by_tests ((false, w) ∷ ts) a p = of_refusal w

  -- an answer to fields that exist
  if_real : (c : CivilDateTime) (a : Outcome A) → P a → P (of_real c a)
  if_real c a p =
      by_tests
      ((has_month (date_in c), NoSuchMonth) ∷ (has_day (date_in c), NoSuchDay) ∷ (ltb c.hour 24, NoSuchHour) ∷
      (ltb c.minute 60, NoSuchMinute) ∷ (leb c.second 60, NoSuchSecond) ∷ (ltb c.nanos second, InvalidNanos) ∷ [])
      a p

module _ (P : Outcome ℕ → Type 0) (of_count : (n : ℕ) → P (answered n))
    (of_refusal : (w : Refusal) → P (refused (number_of w))) where
  count : (z : ℤ) → P (count_of z)
  count (pos k) = either P (ltb k (2 ^ 64)) (answered k) (refused 1) (of_count k) (of_refusal Overflow)
  count (negsuc k) = of_refusal Overflow

  at_offset : (n z : ℤ) → P (in_range n (count_of z))
  at_offset n z = either P (lt_z n (negsuc 2_147_483_628)) (refused 9) (count_of z) (of_refusal OffsetRange) (count z)

  pub to_utc : (es : List Entry) (g : ℕ) → P (gps_to_utc es g)
  to_utc es g =
      let tai = g + tai_minus_gps in
      let n = offset_at es tai in
      either (λ o. P (then o (λ t. utc_at_offset (offset_at es t) g))) (ltb tai (2 ^ 64)) (answered tai) (refused 1)
      (at_offset n (pos g -ℤ in_nanos (n -ℤ pos 19) +ℤ pos E)) (of_refusal Overflow)

  pub to_gps : (es : List Entry) (u : ℕ) → P (utc_to_gps es u)
  to_gps es u =
      let n = offset_at es (last_reading es u) in
      at_offset n (pos u -ℤ pos E +ℤ in_nanos (n -ℤ pos 19))

  -- fields that go back
  pub civil_to_gps_lem : (es : List Entry) (c : CivilDateTime) → P (civil_to_gps es c)
  civil_to_gps_lem es c =
      either P (on_days es) (of_real c (cond sixty so other)) (refused 13)
      (if_real P of_refusal c (cond sixty so other) (either P sixty so other (read (then (count_at c) (utc_to_gps es)))
      (either (λ o. P (then o (utc_to_later es))) (non_neg z) (count_of (pos n)) (refused 1)
      (either (λ o. P (then o (utc_to_later es))) (ltb n (2 ^ 64)) (answered n) (refused 1) (later n) (of_refusal Overflow))
      (of_refusal Overflow))))
      (of_refusal NotOnDays)
    where
      z : ℤ
      z = day_of (date_in c) -ℤ pos utc_epoch_day

      n : ℕ
      n = nat_abs z * day + time_of c

      sixty : Bool
      sixty = eqb c.second 60

      so : Outcome ℕ
      so = read_so es c (then (count_at c) (utc_to_gps es))

      other : Outcome ℕ
      other = then (count_at c) (utc_to_later es)

      read : (o : Outcome ℕ) → P (read_so es c o)
      read (answered g) =
          either P (same_fields (reading_of es g) c) (answered g) (refused 14) (of_count g) (of_refusal NoInsertedSecond)
      read (refused k) = of_refusal NoInsertedSecond

      later : (u : ℕ) → P (utc_to_later es u)
      later u = go (utc_to_gps es u) (to_gps es u)
        where
          go : (o : Outcome ℕ) → P o → P (changed (λ (g : ℕ). value_in g (later_of es g)) o)
          go (answered g) p = of_count (value_in g (later_of es g))
          go (refused k) p = p

-- a reading
module _ (P : Outcome CivilDateTime → Type 0) (of_Fields : (c : CivilDateTime) → P (answered c))
    (of_refusal : (w : Refusal) → P (refused (number_of w))) where
  pub gps_to_civil_lem : (es : List Entry) (g : ℕ) → P (gps_to_civil es g)
  gps_to_civil_lem es g =
      let read : Outcome ℕ → Outcome CivilDateTime = changed (λ (u : ℕ). reading_of es g) in
      either P (on_days es) (read (gps_to_utc es g)) (refused 13)
      (to_utc (λ o. P (read o)) (λ n. of_Fields (reading_of es g)) of_refusal es g) (of_refusal NotOnDays)

pub gps_to_civil_numbered : (es : List Entry) (g : ℕ) → Numbered (gps_to_civil es g)
gps_to_civil_numbered = gps_to_civil_lem Numbered (λ c. tt) number_not_zero

pub civil_to_gps_numbered : (es : List Entry) (c : CivilDateTime) → Numbered (civil_to_gps es c)
civil_to_gps_numbered = civil_to_gps_lem Numbered (λ n. tt) number_not_zero

pub to_utc_numbered : (es : List Entry) (g : ℕ) → Numbered (gps_to_utc es g)
to_utc_numbered = to_utc Numbered (λ n. tt) number_not_zero

pub to_gps_numbered : (es : List Entry) (u : ℕ) → Numbered (utc_to_gps es u)
to_gps_numbered = to_gps Numbered (λ n. tt) number_not_zero

-- one step after another
numbered-then : (o : Outcome ℕ) (next : ℕ → Outcome ℕ) → Numbered o → ((a : ℕ) → Numbered (next a))
    → Numbered (then o next)
numbered-then (answered a) next n m = m a
numbered-then (refused k) next n m = n

count_numbered : (z : ℤ) → Numbered (count_of z)
count_numbered = count Numbered (λ n. tt) number_not_zero

-- of a scale at a fixed difference
pub shifted_to_utc_numbered : (d : ℕ) (es : List Entry) (n : ℕ) → Numbered (shifted_to_utc d es n)
shifted_to_utc_numbered d es n =
    numbered-then (up d n) (gps_to_utc es) (count_numbered (pos (n + d))) (to_utc_numbered es)

pub utc_to_shifted_numbered : (d : ℕ) (es : List Entry) (u : ℕ) → Numbered (utc_to_shifted d es u)
utc_to_shifted_numbered d es u =
    numbered-then (utc_to_gps es u) (λ g. then (taken g) (down d)) (to_gps_numbered es u) (λ g.
    numbered-then (taken g) (down d)
    (either Numbered (leb d g) (answered g) (later_of es g) tt
    (either Numbered (regular es && same_answer (gps_to_utc es g) (gps_to_utc es (g + second))) (answered (g + second)) (refused 1) tt
    (number_not_zero Overflow)))
    (λ m. count_numbered (pos m -ℤ pos d)))
  where
    taken : ℕ → Outcome ℕ
    taken g = cond (leb d g) (answered g) (later_of es g)

pub by_image_numbered : {A : Type 0} (b : List ℕ) (answer : List Entry → Outcome A)
    → ((es : List Entry) → Numbered (answer es)) → Numbered (by_image b answer)
by_image_numbered {A} b answer n = or_8 (sized b) _ (or_8 (valid_table (table_in b)) _ (n (entries_of (table_in b))))
  where
    or_8 : (test : Bool) (o : Outcome A) → Numbered o → Numbered (cond test o (refused 8))
    or_8 test o n = either Numbered test o (refused 8) n (number_not_zero BadTable)
