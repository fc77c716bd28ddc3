-- Lists of leap-second entries: which are valid, which offset is in force, and why an entry or a list is refused.
use Rattle.std.specs.Prelude.{Bool, true, false, cond, ◌&&◌, List, [], ◌∷◌, ℕ, ◌+◌, ◌*◌, ◌%◌, ltb, leb, eqb, length, ℤ, pos, negsuc, nat_abs, ◌+ℤ◌, ◌-ℤ◌, ◌*ℤ◌, None, Option, Some}
use Rattle.std.proofs.Math.Option as maybe
use Rattle.counts.specs.Units.{second, day_seconds}
use Rattle.tables.specs.declared.LeapEntry.{LeapEntry}
use Rattle.tables.specs.declared.Lookup.{Lookup}

-- from the TAI reading `threshold e` on, in nanoseconds, TAI is `offset e` seconds ahead of UTC
abbrev pub Entry : Type 0
Entry = LeapEntry

abbrev pub threshold : Entry → ℕ
threshold e = e.tai_nanos

abbrev pub offset : Entry → ℤ
offset e = e.tai_minus_utc

abbrev pub entry : ℕ → ℤ → Entry
entry t n = record { tai_nanos = t; tai_minus_utc = n }

abbrev pub equal : ℤ → ℤ → Bool
equal (pos a) (pos b) = eqb a b
equal (pos a) (negsuc b) = false
equal (negsuc a) (pos b) = false
equal (negsuc a) (negsuc b) = eqb a b

-- each entry after the first passes the test with the one before it
unfoldable pub neighbours : (Entry → Entry → Bool) → List Entry → Bool
neighbours test [] = true
neighbours test (p ∷ []) = true
neighbours test (p ∷ e ∷ es) = test p e && neighbours test (e ∷ es)

-- the threshold is above the one before, and the offset is one more
abbrev pub follows : Entry → Entry → Bool
follows p e = ltb (threshold p) (threshold e) && equal (offset e) (offset p +ℤ pos 1)

abbrev pub valid : List Entry → Bool
valid es = neighbours follows es

-- a day of 86,400 s, in nanoseconds
abbrev pub day : ℕ
day = day_seconds * second

abbrev pub a_day_on : Entry → Entry → Bool
a_day_on p e = leb (threshold p + day) (threshold e)

abbrev pub begins : List Entry → Bool
begins [] = false
begins (e ∷ es) = eqb (threshold e) 0 && equal (offset e) (pos 19)

-- at most 64 entries, valid, not empty, begins (0, 19), and each later threshold is at least a day above the one before
abbrev pub regular : List Entry → Bool
regular es = leb (length es) 64 && valid es && begins es && neighbours a_day_on es

-- the threshold less the offset in seconds is a whole number of days
abbrev pub begins_a_day : Entry → Bool
begins_a_day e = eqb (nat_abs (pos (threshold e) -ℤ offset e *ℤ pos second) % day) 0

-- regular, and each later entry begins a day
abbrev pub on_days : List Entry → Bool
on_days es = regular es && neighbours (λ p e. begins_a_day e) es

-- the threshold of the first of some entries
abbrev pub first_threshold : List Entry → Option ℕ
first_threshold [] = None
first_threshold (e ∷ es) = Some (threshold e)

-- what a lookup tells of entry e at place k, before the entries es
abbrev pub telling : ℕ → Entry → List Entry → Lookup
telling k e es = record { offset = offset e; place = Some k; next = first_threshold es }

-- what is in force at t from place k on, where e is: e, or a later entry as long as thresholds are ≤ t
unfoldable pub in_force : ℕ → ℕ → Entry → List Entry → Lookup
in_force t k e [] = telling k e []
in_force t k e (f ∷ fs) = cond (leb (threshold f) t) (in_force t (k + 1) f fs) (telling k e (f ∷ fs))

-- what is in force at a TAI reading: the offset 19 if there is no entry, the first entry below the first threshold, else
-- the last entry with threshold ≤ t (in a valid list: proofs/Lookups.antt)
unfoldable pub lookup : List Entry → ℕ → Lookup
lookup [] t = record { offset = pos 19; place = None; next = None }
lookup (e ∷ es) t = in_force t 0 e es

abbrev pub offset_at : List Entry → ℕ → ℤ
offset_at es t = (lookup es t).offset

-- the last entry of a list, and `e` where it is empty
unfoldable pub last_or : Entry → List Entry → Entry
last_or e [] = e
last_or e (f ∷ fs) = last_or f fs

-- the current offset: 19 if there is no entry
unfoldable pub current_offset : List Entry → ℤ
current_offset [] = pos 19
current_offset (e ∷ es) = offset (last_or e es)

-- the last threshold; nothing for no entry or one
unfoldable pub last_update : List Entry → maybe.Option ℕ
last_update [] = maybe.none
last_update (e ∷ []) = maybe.none
last_update (e ∷ f ∷ fs) = maybe.some (threshold (last_or f fs))

-- why an offset cannot follow another, 7, 4 in that order; 0 where it can
abbrev pub offset_refusal : ℤ → ℤ → ℕ
offset_refusal p n = cond (equal p (pos 2_147_483_647)) 7 (cond (equal n (p +ℤ pos 1)) 0 4)

-- why an entry cannot follow another, 3, 7, 4 in that order; 0 where it can
abbrev pub step_refusal : Entry → Entry → ℕ
step_refusal p e = cond (leb (threshold e) (threshold p)) 3 (offset_refusal (offset p) (offset e))

-- why an entry cannot be joined to a list, 5, then by the last entry; an empty list takes any
unfoldable pub join_refusal : List Entry → Entry → ℕ
join_refusal [] e = 0
join_refusal (p ∷ ps) e = cond (leb 64 (length (p ∷ ps))) 5 (step_refusal (last_or p ps) e)

-- the first refusal of an entry by the one before it; 0 where there is none
unfoldable pub first_refusal : List Entry → ℕ
first_refusal [] = 0
first_refusal (p ∷ []) = 0
first_refusal (p ∷ e ∷ es) = cond (eqb (step_refusal p e) 0) (first_refusal (e ∷ es)) (step_refusal p e)

-- checking a list, which has no length limit: 6, then by neighbours; 0 where it is valid
unfoldable pub checking : List Entry → ℕ
checking [] = 6
checking (e ∷ es) = first_refusal (e ∷ es)

-- why no table is built from a list: 6, 5, then by neighbours; 0 where one is
abbrev pub building_refusal : List Entry → ℕ
building_refusal es = cond (ltb 64 (length es)) 5 (checking es)
