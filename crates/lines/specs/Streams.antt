-- What a read and a write do to the bytes that an input has left and an output holds, where those are known.
use Rattle.std.specs.Prelude.{◌≡◌, ℕ, ◌-◌, ◌<◌, ◌≤◌, ◌⊎◌, List, [], ◌∷◌, ◌++◌, length, take, drop, None, Some, IsTrue, Result, Ok, Err, ⊤}
use Rattle.std.specs.Io.KnownBytes.{Appends, Consumes, IsAtEnd}
use Rattle.std.specs.declared.option.Option.{Option}
use Rattle.lines.specs.Pieces.{begun_after, written}
use Rattle.lines.specs.declared.inner.streams.Place.{Place}
use Rattle.lines.specs.declared.inner.streams.Stop.{Stop}
use Rattle.lines.specs.declared.inner.streams.Stop.TheVariants.{Ended, CannotRead, CannotWrite}

-- what is said of known bytes, before and after
abbrev pub IfKnown : Option (List ℕ) → Option (List ℕ) → (List ℕ → List ℕ → Type 0) → Type 0
IfKnown None new says = ⊤
IfKnown (Some xs) None says = ⊥
IfKnown (Some xs) (Some ys) says = says xs ys

-- the bytes of a block that are to be taken
abbrev pub to_take : Place → List ℕ → List ℕ
to_take p block = take (p.end - p.at) (drop p.at block)

-- what is to be taken, and then the rest of the input, is what it was; past the end nothing is read
abbrev pub GoesOn : Place → List ℕ → List ℕ → Place → List ℕ → List ℕ → Type 0
GoesOn p block xs q block' ys =
    (q.over ≡ p.over) × (to_take q block' ++ ys ≡ to_take p block ++ xs) × (IsTrue p.over → ys ≡ xs)

-- nothing was left, and a line end is to be taken for the line that has begun
abbrev pub EndsLine : Place → List ℕ → List ℕ → Place → List ℕ → List ℕ → Type 0
EndsLine p block xs q block' ys =
    (0 < p.used) × (to_take p block ++ xs ≡ []) × IsTrue q.over × (to_take q block' ≡ 10 ∷ []) × (ys ≡ [])

-- the input has xs left before a read from a place, and ys after it
abbrev pub ReadsOn : Place → List ℕ → List ℕ → List ℕ → List ℕ → Result Place Stop → Type 0
ReadsOn p block block' xs ys (Ok q) = (q.used ≡ p.used) × (GoesOn p block xs q block' ys ⊎ EndsLine p block xs q block' ys)
ReadsOn p block block' xs ys (Err Ended) = (to_take p block ≡ []) × (IsTrue p.over ⊎ ((xs ≡ []) × (p.used ≡ 0)))
ReadsOn p block block' xs ys (Err CannotRead) = Unit {0}
ReadsOn p block block' xs ys (Err CannotWrite) = Unit {0}

-- the first bytes of the block are the next ones of the input, and they are all where the block is not full
abbrev pub ReadsWhole : Option (List ℕ) → Option (List ℕ) → List ℕ → Result ℕ Stop → Type 0
ReadsWhole old new block (Ok k) = Consumes old new (take k block) × (k < length block → IsAtEnd new)
ReadsWhole old new block (Err s) = Unit {0}

-- ---- a program's run
abbrev pub IfEnded : Result Place Stop → Type 0 → Type 0
IfEnded (Ok q) says = Unit {0}
IfEnded (Err Ended) says = says
IfEnded (Err CannotRead) says = Unit {0}
IfEnded (Err CannotWrite) says = Unit {0}

-- the bytes that are taken between two places of a block
abbrev pub taken_to : Place → Place → List ℕ → List ℕ
taken_to p q block = take (q.at - p.at) (to_take p block)

-- from place p to place q of a block: the bytes between are taken, their answers are written, and the line buffer holds
-- the line that is begun
pub record AnswersTo (f : List ℕ → List ℕ) (p : Place) (line block line' : List ℕ) (q : Place)
    (old new : Option (List ℕ)) : Type 0 where
  pub order : p.at ≤ q.at
  pub inside : q.at ≤ q.end
  pub same_end : q.end ≡ p.end
  pub same_over : q.over ≡ p.over
  pub begins : take q.used line' ≡ begun_after (take p.used line) (taken_to p q block)
  pub writes : Appends old new (written f (take p.used line) (taken_to p q block))

-- the bytes of a block are answered, up to where the run stands then, or an answer cannot be written
abbrev pub AnswersOn : (List ℕ → List ℕ) → Place → List ℕ → List ℕ → List ℕ → Option (List ℕ) → Option (List ℕ)
    → Result Place Stop → Type 0
AnswersOn f p line block line' old new (Ok q) = AnswersTo f p line block line' q old new
AnswersOn f p line block line' old new (Err s) = s ≡ CannotWrite
