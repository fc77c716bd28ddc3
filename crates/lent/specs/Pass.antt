-- One pass over a list, from its first entry to its last: what is known of the entries passed. Only contracts of
-- private functions cite it.
use Rattle.std.specs.Prelude.{cond, ◌||◌, List, [], ◌∷◌, ℕ, ◌+◌, leb, eqb, pos, None, Option, Result, Some}
use Rattle.std.proofs.Math.Option as maybe
use Rattle.refusals.specs.declared.Refusal.{Refusal}
use Rattle.refusals.specs.Outcome.{Outcome, refused}
use Rattle.tables.specs.Answers.{taken_in}
use Rattle.tables.specs.Entries.{Entry, threshold, entry, telling, lookup, step_refusal}
use Rattle.tables.specs.declared.Lookup.{Lookup}
use Rattle.lent.specs.declared.inner.Pass.{Pass}

-- at a TAI reading: how many entries were passed, the last of them, what a lookup in them tells, and the first refusal
-- of an entry by the one before it
pub record Seen : Type 0 where
  pub tai : ℕ
  pub count : ℕ
  pub last : Entry
  pub found : Lookup
  pub refusal : ℕ

abbrev pub seen_in : Pass → Seen
seen_in p = record { tai = p.tai; count = p.count; last = p.last; found = p.found; refusal = taken_in p.answer }

-- before the first entry: the offset is 19
abbrev pub begun : ℕ → Seen
begun t = record { tai = t; count = 0; last = entry 0 (pos 19); found = lookup [] 0; refusal = 0 }

-- a threshold, or the given one where there is none
abbrev pub or_first : Option ℕ → ℕ → Option ℕ
or_first (Some y) x = Some y
or_first None x = Some x

-- with a threshold above the reading: the first of them is the next
abbrev pub before_threshold : Lookup → ℕ → Lookup
before_threshold found x = record { offset = found.offset; place = found.place; next = or_first found.next x }

-- what a lookup tells, one entry on
abbrev pub nearer : ℕ → ℕ → Lookup → Entry → Lookup
nearer t k found e = cond (eqb k 0 || leb (threshold e) t) (telling k e []) (before_threshold found (threshold e))

-- the first refusal, one entry on
abbrev pub judged : ℕ → Entry → Entry → ℕ
judged k before e = cond (eqb k 0) (step_refusal before e) k

-- one entry on
abbrev pub after : Seen → Entry → Seen
after s e = record {
  tai = s.tai;
  count = s.count + 1;
  last = e;
  found = nearer s.tai s.count s.found e;
  refusal = cond (eqb s.count 0) 0 (judged s.refusal s.last e);
}

-- all entries of a list, in order
unfoldable pub passed : Seen → List Entry → Seen
passed s [] = s
passed s (e ∷ es) = passed (after s e) es

-- what the calls answer by it: the check, 6 where there is no entry
abbrev pub check_at : ℕ → ℕ → ℕ
check_at count k = cond (eqb count 0) 6 k

-- the others, 8 where an entry was refused
abbrev pub of_taken : {A : Type 0} → Result Unit Refusal → Outcome A → Outcome A
of_taken answer a = cond (eqb (taken_in answer) 0) a (refused 8)

abbrev pub update_at : ℕ → Entry → maybe.Option ℕ
update_at count last = cond (leb count 1) maybe.none (maybe.some (threshold last))
