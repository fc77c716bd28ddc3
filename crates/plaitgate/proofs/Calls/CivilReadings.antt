-- Each call on civil readings leaves one refusal number, and one value through each reference that it writes, for each
-- input.
use Rattle.refusals.proofs.OneAnswer.{OneAnswerAndEnd, both}
use Rattle.civil.specs.Fields.{fields}
use Rattle.plaitgate.specs.Tables.{dated_as}
use Rattle.plaitgate.proofs.civil_readings

pub builtin_gps_to_civil : OneAnswerAndEnd civil_readings.plaitgate_builtin_gps_to_civil.Reads.Post
    (λ κ e. fields e.1.0.now e.1.1.0.now e.1.1.1.0.now e.1.1.1.1.0.now
    e.1.1.1.1.1.0.now e.1.1.1.1.1.1.0.now e.1.1.1.1.1.1.1.0.now)
builtin_gps_to_civil κ a x y e f p q = both p q

pub builtin_civil_to_gps : OneAnswerAndEnd civil_readings.plaitgate_builtin_civil_to_gps.Reads.Post
    (λ κ e. e.1.1.1.1.1.1.1.0.now)
builtin_civil_to_gps κ a x y e f p q = both p q

pub table_gps_to_civil : OneAnswerAndEnd civil_readings.plaitgate_table_gps_to_civil.Reads.Post
    (λ κ e. dated_as (fields e.1.1.0.now e.1.1.1.0.now e.1.1.1.1.0.now
    e.1.1.1.1.1.0.now e.1.1.1.1.1.1.0.now e.1.1.1.1.1.1.1.0.now
    e.1.1.1.1.1.1.1.1.0.now) e.1.1.1.1.1.1.1.1.1.0.now)
table_gps_to_civil κ a x y e f p q = both p q

pub table_civil_to_gps : OneAnswerAndEnd civil_readings.plaitgate_table_civil_to_gps.Reads.Post
    (λ κ e. dated_as e.1.1.1.1.1.1.1.1.0.now e.1.1.1.1.1.1.1.1.1.0.now)
table_civil_to_gps κ a x y e f p q = both p q
