-- What a lookup at the TAI reading of a GPS count tells gives the reading of that count, and the later of two counts
-- that share a UTC count; from the day of the count.
use mathlib.Core.Path.{◌≡◌, refl, sym, ap, ◌∙◌}
use mathlib.Core.Logic.{◌↔◌}
use mathlib.Core.Bool.{Bool, true, false, cond, ◌&&◌, and-false}
use mathlib.Core.List.{List, Memᴰ}
use mathlib.Core.Option as option
use Prim.Native.Nat.{ℕ, ◌+◌, ◌*◌, ◌-◌, ◌/◌, ◌%◌, ◌^◌, ◌≤◌, ◌<◌}
use native.Mathlib.Omega.{arith}
use native.Mathlib.Decide.{dec_lt}
use borrow.Author.Tests.{lt-ltb, le-ltb, eq-eqb, ne_eqb}
use lib.Dec.{eqb, ltb}
use lib.ListN.{drop}
use lib.IntN.{pos, nat_abs, ◌-ℤ◌}
use lib.Signed.{non_neg}
use Rattle.refusals.specs.Outcome.{Outcome, answered, refused, value_in, then, changed}
use Rattle.refusals.proofs.Given.{no_refusal}
use Rattle.counts.specs.Exact.{count_of, up}
use Rattle.counts.proofs.Fitting.{is_count, the_count}
use Rattle.counts.specs.Units.{second}
use Rattle.scales.specs.Scales.{tai_minus_gps}
use Rattle.calendar.specs.Calendar.{Date, date_of}
use Rattle.calendar.specs.Dates.{utc_epoch_day}
use Rattle.calendar.specs.Formula.{day_of}
use Rattle.civil.specs.Fields.{fields, date_in, fields_on, fields_of, time_of, count_at}
use Rattle.civil.specs.Real.{out_of_range, unless_refused}
use Rattle.civil.specs.declared.CivilDateTime.{CivilDateTime}
use Rattle.tables.specs.Entries.{Entry, threshold, regular, day, on_days, lookup}
use Rattle.tables.specs.declared.Lookup.{Lookup}
use Rattle.conversions.specs.Conversions.{gps_to_utc, utc_to_gps}
use Rattle.conversions.specs.ByLookup.{utc_from_lookup}
use Rattle.conversions.specs.Shifted.{same_answer, later_of}
use Rattle.conversions.proofs.ByLookup.{by_reading}
use Rattle.conversions.proofs.LeapSeconds.{LeapSeconds, leaps, counted}
use Rattle.conversions.proofs.OnNaturals.{tai, Reads, to_utc, from_gps, comes_back, apart}
use Rattle.readings.specs.Readings.{day_of_gps, fields_in_day, reading_of, gps_to_civil, same_fields, utc_to_later, read_so}
use Rattle.readings.specs.Readings.{count_of_fields, civil_to_gps}
use Rattle.readings.specs.ByLookup.{in_first_second, sixty, reading_from, later_from, read_so_from, back_from}
use Rattle.readings.proofs.LaterEntries.{OnADay, near, both_tests, counted_on_days, on_days_lem}
use Rattle.readings.proofs.Days.{day-of}

-- ---- the reading
-- the fields n nanoseconds into a day of 86,400 s are those of the UTC count
pub in_the_day : (z n utc : ℕ) → utc_epoch_day ≤ z → utc + utc_epoch_day * day ≡ z * day + n → n < day
    → fields_on (date_of (pos z)) (n / second) (n % second) ≡ fields_of utc
in_the_day z n utc from exact within =
    λ i. fields (date i).year (date i).month (date i).day (hour i) (minute i) (seconds i) (nanos i)
  where
    s : ℕ
    s = n / second

    nanos : n % second ≡ utc % second
    nanos = omega arith

    whole : utc / second ≡ (z - utc_epoch_day) * 86400 + s
    whole = omega arith

    date : date_of (pos z) ≡ date_of (pos (utc / second / 86400 + utc_epoch_day))
    date = ap (λ (d : ℕ). date_of (pos d)) (omega (arith, whole))

    hour : s % 86400 / 3600 ≡ utc / second % 86400 / 3600
    hour = ap (λ (x : ℕ). x / 3600) (omega (arith, whole))

    minute : s % 3600 / 60 ≡ utc / second % 3600 / 60
    minute = ap (λ (x : ℕ). x / 60) (omega (arith, whole))

    seconds : s % 60 ≡ utc / second % 60
    seconds = omega (arith, whole)

-- one second more, in the same minute
abbrev one_more : CivilDateTime → CivilDateTime
one_more c = fields c.year c.month c.day c.hour c.minute (c.second + 1) c.nanos

module _ (z n utc : ℕ) (from : utc_epoch_day ≤ z) (exact : utc + utc_epoch_day * day ≡ z * day + n) where
  abbrev date : Date
  date = date_of (pos z)

  -- in the 86,401st second they are those of the second before it, with 60 in place of 59
  in_the_last_second : day ≤ n → n < day + second
      → fields date.year date.month date.day 23 59 60 (n % second) ≡ sixty utc
  in_the_last_second last within =
      let nanos : n % second ≡ (n - second) % second = omega arith in
      let before-midnight : 86399 ≡ (n - second) / second = omega arith in
      ap (λ (m : ℕ). fields date.year date.month date.day 23 59 60 m) nanos
      ∙ ap (λ (s : ℕ). one_more (fields_on date s ((n - second) % second))) before-midnight
      ∙ ap one_more (in_the_day z (n - second) (utc - second) from (omega arith) (omega arith))

  -- the UTC count is then in the first second of the next day
  in_the_next_day : day ≤ n → n < day + second → in_first_second (fields_of utc) ≡ true
  in_the_next_day last within =
      let s = utc / second in
      let whole : s % 86400 ≡ 0 = omega arith in
      let hour : s % 86400 / 3600 ≡ 0 = ap (λ (x : ℕ). x / 3600) whole in
      let in_hour : s % 3600 ≡ 0 = omega (arith, whole) in
      let minute : s % 3600 / 60 ≡ 0 = ap (λ (x : ℕ). x / 60) in_hour in
      let seconds : s % 60 ≡ 0 = omega (arith, whole) in
      rw (hour, minute, seconds)

  -- by a test that tells that second
  by_test : (i j : ℕ) → n < day + second → (day ≤ n) ↔ (i < j)
      → fields_in_day z n ≡ cond (in_first_second (fields_of utc) && ltb i j) (sixty utc) (fields_of utc)
  by_test i j within tells = go (dec_lt i j) (dec_lt n day)
    where
      go : Dec (i < j) → Dec (n < day)
          → fields_in_day z n ≡ cond (in_first_second (fields_of utc) && ltb i j) (sixty utc) (fields_of utc)
      go (yes h) d =
          let last = tells.1 h in
          rw (lt-ltb i j h, le-ltb n day last, in_the_next_day last within) (in_the_last_second last within)
      go (no h) (yes l) =
          let not_more : j ≤ i = omega (arith, h) in
          rw (le-ltb i j not_more, lt-ltb n day l, and-false (in_first_second (fields_of utc))) (in_the_day z n utc from exact l)
      go (no h) (no l) = absurd (h (tells.0 (omega (arith, l))))

pub by_lookup : (es : List Entry) (gps utc : ℕ) → on_days es ≡ true → gps_to_utc es gps ≡ answered utc
    → reading_of es gps ≡ reading_from (lookup es (gps + tai_minus_gps)) (gps + tai_minus_gps) utc
by_lookup es gps utc d e =
    let r = (both_tests es d).0 in
    let t = gps + tai_minus_gps in
    let (z, n) = day_of_gps es gps in
    let at = day-of es d gps in
    let exact = (from_gps es (leaps es) (counted es r) gps utc e).exact in
    by_test z n utc (omega (arith, at.from)) (omega (arith, at.exact))
    (leaps es t) (leaps es (t + second)) at.within at.inserted
    ∙ ap (λ (q : Bool). cond (in_first_second (fields_of utc) && q) (sixty utc) (fields_of utc)) (sym (near es r t))

-- ---- the later count
module _ (es : List Entry) (k : ℕ → ℕ) (f : LeapSeconds es k) where
  module _ (on : (e : Entry) → Memᴰ e (drop 1 es) → OnADay 19 k e) (g u : ℕ) (r : Reads es k f g u) where
    abbrev later : ℕ
    later = g + second

    a_second_on : k (tai later) ≡ k (tai g + second)
    a_second_on = ap k (omega arith)

    -- where one more leap second is passed, the later count has the same UTC count: no threshold is so late that it is
    -- out of range
    pub there_too : k (tai g) < k (tai g + second) → Reads es k f later u
    there_too more =
        let x = f.more_by_an_entry (tai g) (tai g + second) more in
        let (j, is) = on x.entry x.among in
        let one = f.one_in_a_day (tai g) (tai g + second) (omega arith) in
        let few = f.few (threshold x.entry) in
        record {
          tai_fits = omega (arith, r.tai_fits, x.after, x.by);
          utc_fits = r.utc_fits;
          exact = omega (arith, r.exact, a_second_on);
        }

    -- and else the later count, where it is converted, has a later UTC count
    not_there : k (tai g + second) ≤ k (tai g) → (o : Outcome ℕ) → gps_to_utc es later ≡ o
        → same_answer (answered u) o ≡ false
    not_there none (refused n) q = refl
    not_there none (answered v) q =
        let exact = (from_gps es k f later v q).exact in
        let rise = f.rises (tai g) (tai g + second) (omega arith) in
        ne_eqb u v (λ s. omega (arith, r.exact, a_second_on))

    shared : same_answer (gps_to_utc es g) (gps_to_utc es later) ≡ ltb (k (tai g)) (k (tai g + second))
    shared =
        ap (λ (o : Outcome ℕ). same_answer o (gps_to_utc es later)) (to_utc es k f g u r)
        ∙ go (dec_lt (k (tai g)) (k (tai g + second)))
      where
        go : Dec (k (tai g) < k (tai g + second))
            → same_answer (answered u) (gps_to_utc es later) ≡ ltb (k (tai g)) (k (tai g + second))
        go (yes h) =
            ap (same_answer (answered u)) (to_utc es k f later u (there_too h)) ∙ eq-eqb u u refl ∙ sym (lt-ltb _ _ h)
        go (no h) =
            let none : k (tai g + second) ≤ k (tai g) = omega (arith, h) in
            not_there none (gps_to_utc es later) refl ∙ sym (le-ltb _ _ none)

-- ---- the stores
-- the lenient formula gives counts of 64 bits
pub is_a_count : (c : CivilDateTime) (u : ℕ) → count_at c ≡ answered u → u < 2 ^ 64
is_a_count c u = by_sign (non_neg (day_of (date_in c) -ℤ pos utc_epoch_day)) (nat_abs (day_of (date_in c) -ℤ pos utc_epoch_day) * day + time_of c)
  where
    by_sign : (b : Bool) (n : ℕ) → cond b (count_of (pos n)) (refused 1) ≡ answered u → u < 2 ^ 64
    by_sign false n e = absurd (no_refusal _ e refl)
    by_sign true n e = (the_count (pos n) e).1

module _ (es : List Entry) (d : on_days es ≡ true) where
  abbrev is_regular : regular es ≡ true
  is_regular = (both_tests es d).0

  abbrev k : ℕ → ℕ
  k = leaps es

  abbrev f : LeapSeconds es (leaps es)
  f = counted_on_days es d

  -- the TAI reading of a count that is read
  at-tai : (g : ℕ) → g + tai_minus_gps < 2 ^ 64 → value_in 0 (up tai_minus_gps g) ≡ g + tai_minus_gps
  at-tai g l = ap (value_in 0) (is_count (g + tai_minus_gps) l)

  -- a reading by a lookup at the TAI reading
  pub reads : (gps : ℕ) → let t = value_in 0 (up tai_minus_gps gps) in
      changed (reading_from (lookup es t) t) (utc_from_lookup (up tai_minus_gps gps) (lookup es t)) ≡ gps_to_civil es gps
  reads gps = rw d (ap (changed from) (by_reading es (answered gps)) ∙ go (gps_to_utc es gps) refl)
    where
      t : ℕ
      t = value_in 0 (up tai_minus_gps gps)

      from : ℕ → CivilDateTime
      from = reading_from (lookup es t) t

      go : (o : Outcome ℕ) → gps_to_utc es gps ≡ o → changed from o ≡ changed (λ (u : ℕ). reading_of es gps) o
      go (refused n) e = refl
      go (answered u) e =
          let r = from_gps es k f gps u e in
          ap (λ (x : ℕ). answered (reading_from (lookup es x) x u)) (at-tai gps r.tai_fits)
          ∙ ap answered (sym (by_lookup es gps u d e))

  -- by the parts that a store calls
  pub read_by : (gps : ℕ) {tai : Outcome ℕ} {t : ℕ} {found : Lookup} → tai ≡ up tai_minus_gps gps → t ≡ value_in 0 tai
      → found ≡ lookup es t → changed (reading_from found (value_in 0 tai)) (utc_from_lookup tai found) ≡ gps_to_civil es gps
  read_by gps a r l =
      let here = l ∙ ap (lookup es) (r ∙ ap (value_in 0) a) in
      (λ i. changed (reading_from (here i) (value_in 0 (a i))) (utc_from_lookup (a i) (here i))) ∙ reads gps

  -- a GPS count that a UTC count goes back to
  module _ (u g : ℕ) (fits : u < 2 ^ 64) (e : utc_to_gps es u ≡ answered g) where
    abbrev t : ℕ
    t = g + tai_minus_gps

    pub first_read : Reads es k f g u
    first_read = comes_back es k f u g fits e

    same_reading : reading_from (lookup es t) t u ≡ reading_of es g
    same_reading = sym (by_lookup es g u d (to_utc es k f g u first_read))

    -- the later count, where there is one
    pub record Later (o : Outcome ℕ) : Type 0 where
      pub count : ℕ
      pub is : value_in g (later_of es g) ≡ count
      pub found : o ≡ answered count
      pub reads : Reads es k f count u
      pub last : (g' : ℕ) → Reads es k f g' u → g' ≤ count

    pub later_is : Later (later_from (lookup es t) t g)
    later_is = go (dec_lt (k t) (k (t + second)))
      where
        both_read : same_answer (gps_to_utc es g) (gps_to_utc es (g + second)) ≡ ltb (k t) (k (t + second))
        both_read = shared es k f (on_days_lem es d) g u first_read

        -- the last count, where no count after g is later than it
        last_is : (count g' : ℕ) → g ≤ count → (g < g' → g' ≤ count) → g' ≤ count
        last_is count g' from later = by_order (dec_lt g g')
          where
            by_order : Dec (g < g') → g' ≤ count
            by_order (yes l) = later l
            by_order (no l) = omega (arith, l)

        go : Dec (k t < k (t + second)) → Later (later_from (lookup es t) t g)
        go (yes h) =
            let more = there_too es k f (on_days_lem es d) g u first_read h in
            record {
              count = g + second;
              is = rw (is_regular, both_read ∙ lt-ltb _ _ h);
              found = rw (near es is_regular t ∙ lt-ltb _ _ h) (is_count (g + second) (omega (arith, more.tai_fits)));
              reads = more;
              last = λ g' r. last_is (g + second) g' (omega arith)
                  (λ l. omega (arith, (apart es k f g g' u first_read r l).0));
            }
        go (no h) =
            let none : k (t + second) ≤ k t = omega (arith, h) in
            record {
              count = g;
              is = rw (is_regular, both_read ∙ le-ltb _ _ none);
              found = rw (near es is_regular t ∙ le-ltb _ _ none);
              reads = first_read;
              last = λ g' r. last_is g g' (omega arith)
                  (λ l.
                  let (on, more) = apart es k f g g' u first_read r l in
                  let same : k (tai g') ≡ k (t + second) = ap k (omega arith) in
                  absurd (omega (arith, none)));
            }

  module _ (c : CivilDateTime) where
    -- what fields give whose second is 60 or not, by their UTC count
    abbrev given : Bool → Outcome ℕ → Outcome ℕ
    given sixty utc = cond sixty (read_so es c (then utc (utc_to_gps es))) (then utc (utc_to_later es))

    abbrev from : Bool → Outcome ℕ → Outcome ℕ
    from sixty utc =
        let first = then utc (utc_to_gps es) in
        let tai = value_in 0 (then first (up tai_minus_gps)) in
        cond sixty (read_so_from (lookup es tai) tai (value_in 0 utc) c first) (then first (later_from (lookup es tai) tai))

    -- a UTC count
    module _ (u : ℕ) (fits : u < 2 ^ 64) where
      by_first : (o : Outcome ℕ) → utc_to_gps es u ≡ o → (sixty : Bool) → from sixty (answered u) ≡ given sixty (answered u)
      by_first (refused n) e true = rw (e)
      by_first (refused n) e false = rw (e)
      by_first (answered g) e true =
          rw (e, at-tai g (first_read u g fits e).tai_fits, same_reading u g fits e)
      by_first (answered g) e false =
          let l = later_is u g fits e in
          rw (e, at-tai g (first_read u g fits e).tai_fits) (l.found ∙ ap answered (sym l.is))

      fits_first : (o : Outcome ℕ) → utc_to_gps es u ≡ o → (sixty : Bool) (x : ℕ) → given sixty (answered u) ≡ answered x
          → x + tai_minus_gps < 2 ^ 64
      fits_first (refused n) e true x h = absurd (no_refusal (refused 14) (rw e at h) refl)
      fits_first (refused n) e false x h = absurd (no_refusal (refused n) (rw e at h) refl)
      fits_first (answered g) e false x h =
          let l = later_is u g fits e in
          let answer : answered (value_in g (later_of es g)) ≡ answered x = rw e at h in
          let same : value_in g (later_of es g) ≡ x = cc in
          omega (arith, l.reads.tai_fits, l.is)
      fits_first (answered g) e true x h = by_test (same_fields (reading_of es g) c) (rw e at h)
        where
          by_test : (b : Bool) → cond b (answered g) (refused 14) ≡ answered x → x + tai_minus_gps < 2 ^ 64
          by_test true q = let same : g ≡ x = cc in omega (arith, (first_read u g fits e).tai_fits)
          by_test false q = absurd (no_refusal _ q refl)

    of_count : (utc : Outcome ℕ) → ((u : ℕ) → utc ≡ answered u → u < 2 ^ 64) → (sixty : Bool) → from sixty utc ≡ given sixty utc
    of_count (refused n) fits true = refl
    of_count (refused n) fits false = refl
    of_count (answered u) fits sixty = by_first u (fits u refl) (utc_to_gps es u) refl sixty

    fits_count : (utc : Outcome ℕ) → ((u : ℕ) → utc ≡ answered u → u < 2 ^ 64) → (sixty : Bool) (x : ℕ)
        → given sixty utc ≡ answered x → x + tai_minus_gps < 2 ^ 64
    fits_count (refused n) fits true x h = absurd (no_refusal _ h refl)
    fits_count (refused n) fits false x h = absurd (no_refusal _ h refl)
    fits_count (answered u) fits sixty x h = fits_first u (fits u refl) (utc_to_gps es u) refl sixty x h

    -- fields back by the first GPS count that has their UTC count, and a lookup at its TAI reading
    pub reads-back : let first = then (count_at c) (utc_to_gps es) in
        back_from c (count_at c) first (lookup es (value_in 0 (then first (up tai_minus_gps)))) ≡ count_of_fields es c
    reads-back = of_count (count_at c) (is_a_count c) (eqb c.second 60)

    -- an answer has a TAI reading
    pub has_reading : (gps : ℕ) → civil_to_gps es c ≡ answered gps → gps + tai_minus_gps < 2 ^ 64
    has_reading gps e = if_real (out_of_range c) (rw d at e)
      where
        if_real : (o : option.Option ℕ) → unless_refused o (count_of_fields es c) ≡ answered gps → gps + tai_minus_gps < 2 ^ 64
        if_real option.none h = fits_count (count_at c) (is_a_count c) (eqb c.second 60) gps h
        if_real (option.some k) h = absurd (no_refusal _ h refl)

    -- by the parts that a store calls
    pub back_by : {utc first : Outcome ℕ} {t : ℕ} {found : Lookup} → utc ≡ count_at c → first ≡ then utc (utc_to_gps es)
        → t ≡ value_in 0 (then first (up tai_minus_gps)) → found ≡ lookup es t
        → back_from c utc first found ≡ count_of_fields es c
    back_by a b r l =
        let first_is = b ∙ ap (λ (o : Outcome ℕ). then o (utc_to_gps es)) a in
        let here = l ∙ ap (lookup es) (r ∙ ap (λ (o : Outcome ℕ). value_in 0 (then o (up tai_minus_gps))) first_is) in
        (λ i. back_from c (a i) (first_is i) (here i)) ∙ reads-back
