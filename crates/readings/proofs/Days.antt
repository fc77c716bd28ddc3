-- The day of a GPS count over a list whose entries begin days: which leap seconds it goes by, and when its 86,401st
-- second is reached; by a walk from day to day over the laws of the thresholds passed.
use mathlib.Core.Path.{◌≡◌, refl, sym, ap, ◌∙◌}
use mathlib.Core.Logic.{◌↔◌}
use mathlib.Core.Bool.{Bool, true, false, cond, ◌||◌, false≢true}
use mathlib.Core.List.{List, [], ◌∷◌, Memᴰ}
use Prim.Native.Nat.{ℕ, zero, suc, ◌+◌, ◌*◌, ◌-◌, ◌/◌, ◌≤◌, ◌<◌}
use native.Mathlib.Omega.{arith}
use native.Mathlib.Decide.{dec_le, dec_lt}
use borrow.Author.Tests.{lt-ltb, le-ltb, eqb-true, eq-eqb}
use lib.Dec.{ltb, eqb}
use lib.ListN.{drop}
use Rattle.counts.specs.Units.{second}
use Rattle.scales.specs.Scales.{tai_minus_gps}
use Rattle.tables.specs.Entries.{Entry, threshold, day, on_days}
use Rattle.tables.proofs.Reached.{Between}
use Rattle.conversions.proofs.LeapSeconds.{LeapSeconds, leaps}
use Rattle.readings.specs.Readings.{some_begins_at, length_of_day, day_from, gps_epoch_day, day_of_gps}
use Rattle.readings.proofs.LaterEntries.{OnADay, counted_on_days, on_days_lem}

-- the TAI reading t is n nanoseconds into Unix day z, where k t leap seconds were inserted before it, and in the
-- 86,401st second exactly if one more is by a second later
pub record InDay (k : ℕ → ℕ) (t z n : ℕ) : Type 0 where
  pub from : gps_epoch_day ≤ z
  pub exact : t + gps_epoch_day * day ≡ z * day + (19 + k t) * second + n
  pub within : n < day + second
  pub inserted : (day ≤ n) ↔ (k t < k (t + second))

-- the day of a GPS count
abbrev pub DayOf : List Entry → (gps z n : ℕ) → Type 0
DayOf es gps z n = InDay (leaps es) (gps + tai_minus_gps) z n

-- ---- an entry begins at a reading
begun : (x : ℕ) (es : List Entry) → some_begins_at x es ≡ true → (e : Entry) × Memᴰ e es × (threshold e ≡ x)
unfolding some_begins_at
begun x [] b = let z : ◌≡◌ {A = ℕ} 0 1 = cc in absurd (omega arith)
begun x (e ∷ es) b = go (eqb (threshold e) x) refl (begun x es) b
  where
    go : (q : Bool) → eqb (threshold e) x ≡ q
        → (some_begins_at x es ≡ true → (f : Entry) × Memᴰ f es × (threshold f ≡ x))
        → (q || some_begins_at x es) ≡ true → (f : Entry) × Memᴰ f (e ∷ es) × (threshold f ≡ x)
    go true q r s = (e, Memᴰ.head refl, eqb-true (threshold e) x q)
    go false q r s = let (f, m, is) = r s in (f, Memᴰ.tail m, is)

begins-at : (x : ℕ) (es : List Entry) (e : Entry) → Memᴰ e es → threshold e ≡ x → some_begins_at x es ≡ true
unfolding some_begins_at
begins-at x [] e m is = elim m [ ]
begins-at x (f ∷ es) e (Memᴰ.head q) is = rw (eq-eqb (threshold f) x (sym (ap threshold q) ∙ is))
begins-at x (f ∷ es) e (Memᴰ.tail m) is = go (eqb (threshold f) x) (begins-at x es e m is)
  where
    go : (b : Bool) → some_begins_at x es ≡ true → (b || some_begins_at x es) ≡ true
    go true r = refl
    go false r = r

module _ (es : List Entry) (k : ℕ → ℕ) (f : LeapSeconds es k)
    (on : (e : Entry) → Memᴰ e (drop 1 es) → OnADay 19 k e) where
  abbrev later : List Entry
  later = drop 1 es

  -- without a threshold between two readings
  unmoved : (t t' : ℕ) → t ≤ t' → (Between later t t' → ⊥) → k t' ≡ k t
  unmoved t t' l none = go (dec_lt (k t) (k t'))
    where
      go : Dec (k t < k t') → k t' ≡ k t
      go (yes h) = absurd (none (f.more_by_an_entry t t' h))
      go (no h) = omega (arith, h, f.rises t t' l)

  -- Unix day z begins at the TAI reading b, and no threshold is a second after it
  record Begins (z b : ℕ) : Type 0 where
    from : gps_epoch_day ≤ z
    exact : b + gps_epoch_day * day ≡ z * day + (19 + k b) * second
    quiet : k (b + second) ≡ k b

  module _ (z b : ℕ) (g : Begins z b) where
    -- a threshold after it, if it is the first: whole days and a second on, and not just the second
    whole_days_on : (e : Entry) → Memᴰ e later → b < threshold e → k (threshold e) ≤ suc (k b)
        → (m : ℕ) × (threshold e ≡ b + suc m * day + second)
    whole_days_on e m l few = go (dec_le (threshold e) (b + second))
      where
        go : Dec (threshold e ≤ b + second) → (m : ℕ) × (threshold e ≡ b + suc m * day + second)
        go (yes h) =
            let more = f.an_entry_more b (b + second) (record { entry = e; among = m; after = l; by = h }) in
            absurd (omega (arith, g.quiet))
        go (no h) =
            let more = f.an_entry_more b (threshold e) (record { entry = e; among = m; after = l; by = omega arith }) in
            let (j, is) = on e m in
            (j + gps_epoch_day - suc z, omega (arith, g.exact, h))

    -- none within a day
    none_soon : k (b + (day - 1)) ≡ k b
    none_soon = unmoved b (b + (day - 1)) (omega arith) none
      where
        none : Between later b (b + (day - 1)) → ⊥
        none x =
            let few = f.one_in_a_day b (threshold x.entry) (omega (arith, x.by)) in
            let (m, is) = whole_days_on x.entry x.among x.after few in
            omega (arith, x.by)

    -- and none before the end of a day and a second
    at_the_end : (x : Between later b (b + (day + second))) → threshold x.entry ≡ b + (day + second)
    at_the_end x =
        let few = f.one_in_a_day (b + (day - 1)) (threshold x.entry) (omega (arith, x.by)) in
        let (m, is) = whole_days_on x.entry x.among x.after (omega (arith, none_soon)) in
        omega (arith, x.by)

    steady : (t : ℕ) → b ≤ t → t < b + (day + second) → k t ≡ k b
    steady t l l' = unmoved b t l none
      where
        none : Between later b t → ⊥
        none x =
            let by : threshold x.entry ≤ b + (day + second) = omega (arith, x.by) in
            let late = at_the_end (record { entry = x.entry; among = x.among; after = x.after; by = by }) in
            omega (arith, x.by)

    -- the end of a day and a second is a threshold or not
    long : some_begins_at (b + (day + second)) later ≡ true → k (b + (day + second)) ≡ suc (k b)
    long q =
        let end = b + (day + second) in
        let (e, m, is) = begun end later q in
        let more = f.an_entry_more b end (record { entry = e; among = m; after = omega arith; by = omega arith }) in
        omega (arith, f.one_in_a_day (b + (day - 1)) end (omega arith), none_soon)

    short : some_begins_at (b + (day + second)) later ≡ false → k (b + (day + second)) ≡ k b
    short q =
        let end = b + (day + second) in
        unmoved b end (omega arith)
        (λ x. false≢true (sym q ∙ begins-at end later x.entry x.among (at_the_end x)))

    -- the next day begins where this one ends
    next : Begins (suc z) (b + length_of_day es b)
    next = go (some_begins_at (b + (day + second)) later) refl
      where
        go : (q : Bool) → some_begins_at (b + (day + second)) later ≡ q → Begins (suc z) (b + cond q (day + second) day)
        go true q =
            let end = b + (day + second) in
            let one = f.one_in_a_day (b + (day - 1)) (end + second) (omega arith) in
            let rise = f.rises end (end + second) (omega arith) in
            record {
              from = omega (arith, g.from);
              exact = omega (arith, g.exact, long q);
              quiet = omega (arith, long q, none_soon);
            }
        go false q =
            let same = steady (b + day) (omega arith) (omega arith) in
            record {
              from = omega (arith, g.from);
              exact = omega (arith, g.exact);
              quiet = ap k (omega arith) ∙ short q ∙ sym same;
            }

    -- a reading in the day, which may be in its 86,401st second if it has one
    a-reading : (t : ℕ) → b ≤ t → t < b + (day + second) → (b + day ≤ t → k (b + (day + second)) ≡ suc (k b))
        → InDay k t z (t - b)
    a-reading t l l' has =
        let same = steady t l l' in
        record {
          from = g.from;
          exact = omega (arith, g.exact);
          within = omega arith;
          inserted = (
            λ h. omega (arith, has (omega arith), f.rises (b + (day + second)) (t + second) (omega arith)),
            λ h. back h (dec_lt (t + second) (b + (day + second))),
          );
        }
      where
        back : k t < k (t + second) → Dec (t + second < b + (day + second)) → day ≤ t - b
        back h (yes s) = absurd (omega (arith, steady (t + second) (omega arith) s, steady t l l'))
        back h (no s) = omega (arith, s)

    in_day : (t : ℕ) → b ≤ t → t < b + length_of_day es b → InDay k t z (t - b)
    in_day t l = go (some_begins_at (b + (day + second)) later) refl
      where
        go : (q : Bool) → some_begins_at (b + (day + second)) later ≡ q → t < b + cond q (day + second) day
            → InDay k t z (t - b)
        go true q l' = a-reading t l l' (λ h. long q)
        go false q l' = a-reading t l (omega arith) (λ h. absurd (omega arith))

  -- ---- day by day
  a_day_long : (b : ℕ) → day ≤ length_of_day es b
  a_day_long b = go (some_begins_at (b + (day + second)) later)
    where
      go : (q : Bool) → day ≤ cond q (day + second) day
      go true = omega arith
      go false = omega arith

  walk : (t n z b : ℕ) → Begins z b → b ≤ t → t < b + day + n * day
      → InDay k t (day_from es t n z b).0 (day_from es t n z b).1
  unfolding day_from
  walk t zero z b g l l' = in_day z b g t l (omega (arith, a_day_long b))
  walk t (suc n) z b g l l' =
      go (dec_lt t (b + length_of_day es b))
      (λ h. walk t n (suc z) (b + length_of_day es b) (next z b g) h (omega (arith, a_day_long b)))
    where
      end : ℕ
      end = b + length_of_day es b

      on-from : ℕ × ℕ
      on-from = day_from es t n (suc z) end

      go : Dec (t < end) → (end ≤ t → InDay k t on-from.0 on-from.1)
          → InDay k t (cond (ltb t end) (z, t - b) on-from).0 (cond (ltb t end) (z, t - b) on-from).1
      go (yes h) r = rw (lt-ltb t end h) (in_day z b g t l h)
      go (no h) r = let past : end ≤ t = omega (arith, h) in rw (le-ltb t end past) (r past)

  start : Begins gps_epoch_day tai_minus_gps
  start =
      let none = f.none_on_the_first_day tai_minus_gps (omega arith) in
      record {
        from = omega arith;
        exact = omega arith;
        quiet = f.none_on_the_first_day (tai_minus_gps + second) (omega arith) ∙ sym none;
      }

  day-at : (gps : ℕ) → InDay k (gps + tai_minus_gps) (day_of_gps es gps).0 (day_of_gps es gps).1
  day-at gps = walk (gps + tai_minus_gps) (gps / day) gps_epoch_day tai_minus_gps start (omega arith) (omega arith)

pub day-of : (es : List Entry) → on_days es ≡ true → (gps : ℕ) → DayOf es gps (day_of_gps es gps).0 (day_of_gps es gps).1
day-of es d gps =
    day-at es (leaps es) (counted_on_days es d) (on_days_lem es d) gps
