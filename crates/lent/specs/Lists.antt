-- A lent list of entries, of any length.
use Rattle.std.specs.Prelude.{cond, List}
use Rattle.refusals.specs.Outcome.{Outcome, refused}
use Rattle.tables.specs.Entries.{Entry, valid}

-- a call with a list: 8 first where it is not valid
abbrev pub of_valid_list : {A : Type 0} → List Entry → Outcome A → Outcome A
of_valid_list es a = cond (valid es) a (refused 8)
