-- `fields`: the nanoseconds are nine digits.
use Rattle.std.proofs.Common.{refl}
use Rattle.stamps.proofs.Fields.{all_digits_lem}
use Rattle.stamps.proofs.inner.fields.Goals as goal

pub field-requires-7-clause-s_value : goal.field-requires-7-clause-s_value
field-requires-7-clause-s_value c = all_digits_lem c.args.s.now c.requires.s_value 9 20 refl refl
