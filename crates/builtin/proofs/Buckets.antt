-- A count has reached the events before its bucket, and the next one where it has reached that one's threshold.
use mathlib.Core.Path.{◌≡◌, refl}
use mathlib.Core.Bool.{Bool, true, false, ◌&&◌, cond}
use mathlib.Core.List.{List, [], ◌∷◌}
use Prim.Native.Nat.{ℕ, zero, suc, ◌+◌, ◌*◌, ◌≤◌, ◌<◌}
use native.Mathlib.Omega.{arith}
use borrow.Author.Tests.{le-leb, lt-leb}
use lib.Dec.{T, leb, leb→le}
use lib.ListN.{length, get_or}
use mir.Facts.{and_yes}
use Rattle.counts.specs.Units.{second}
use Rattle.calendar.proofs.Tested.{every, at}
use Rattle.builtin.specs.Reached.{count_reached, event_thresholds, past_events}
use Rattle.builtin.specs.Reached.{bucket, bucket_from, bucket_to, InBucket, events_before}

-- all thresholds are at hi or after it
abbrev all_from : ℕ → List ℕ → Bool
all_from hi [] = true
all_from hi (x ∷ xs) = leb hi x && all_from hi xs

-- n thresholds are at lo or before it, and all but one of the others at hi or after it
abbrev one_between : ℕ → ℕ → ℕ → List ℕ → Bool
one_between lo hi n [] = false
one_between lo hi zero (x ∷ xs) = all_from hi xs
one_between lo hi (suc n) (x ∷ xs) = leb x lo && one_between lo hi n xs

module _ (lo hi : ℕ) where
  before_the_end : (n : ℕ) (xs : List ℕ) → T (one_between lo hi n xs) → n < length xs
  before_the_end n [] h = absurd h
  before_the_end zero (x ∷ xs) h = omega arith
  before_the_end (suc n) (x ∷ xs) h =
      omega (arith, before_the_end n xs (and_yes (leb x lo) (one_between lo hi n xs) h).1)

  module _ (t : ℕ) (begun : lo ≤ t) (ahead : t < hi) where
    none : (xs : List ℕ) → T (all_from hi xs) → count_reached t xs ≡ 0
    unfolding count_reached
    none [] h = refl
    none (x ∷ xs) h =
        let p = and_yes (leb hi x) (all_from hi xs) h in
        rw (lt-leb x t (omega (arith, leb→le hi x p.0))) (omega (arith, none xs p.1))

    one_comparison : (n : ℕ) (xs : List ℕ) → T (one_between lo hi n xs)
        → count_reached t xs ≡ n + cond (leb (get_or xs n 0) t) 1 0
    unfolding count_reached
    one_comparison n [] h = absurd h
    one_comparison zero (x ∷ xs) h = omega (arith, none xs h)
    one_comparison (suc n) (x ∷ xs) h =
        let p = and_yes (leb x lo) (one_between lo hi n xs) h in
        rw (le-leb x t (omega (arith, leb→le x lo p.0))) (omega (arith, one_comparison n xs p.1))

-- ---- the number of events before each bucket serves thresholds, if bucket 0 starts at a count: tested at all 32
abbrev in_bucket : List ℕ → ℕ → ℕ → Bool
in_bucket xs start b = one_between (bucket_from start b) (bucket_to start b) (events_before b) xs

abbrev pub Serves : List ℕ → ℕ → Type 0
Serves xs start = T (every (in_bucket xs start) 32)

pub by_tai : Serves event_thresholds bucket
unfolding count_reached event_thresholds
by_tai = tt

-- UTC − TAI is 252,892,781 s before the first event
abbrev pub utc_start : ℕ
utc_start = 252_892_781 * second + bucket

pub by_utc_lem : Serves past_events utc_start
unfolding count_reached event_thresholds past_events
by_utc_lem = tt

pub eighteen_past : length past_events ≡ 18
unfolding past_events
eighteen_past = refl

-- ---- what the functions find, by the bucket b of the count t
module _ (xs : List ℕ) (start : ℕ) (serves : Serves xs start) where
  module _ (t b n : ℕ) (h : InBucket start t b) (e : n ≡ events_before b) where
    tested : T (in_bucket xs start b)
    tested = at (in_bucket xs start) 32 serves b (omega arith)

    pub few : n < length xs
    few = rw e (before_the_end (bucket_from start b) (bucket_to start b) (events_before b) xs tested)

    pub found : (x k : ℕ) → x ≡ get_or xs n 0 → k ≡ cond (leb x t) 1 0 → n + k ≡ count_reached t xs
    found x k ex ek =
        cc (one_comparison (bucket_from start b) (bucket_to start b) t h.begun h.ahead (events_before b) xs tested)
