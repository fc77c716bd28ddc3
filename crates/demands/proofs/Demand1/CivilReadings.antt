-- Civil readings: each call gives the number and the value of an outcome, so a refusal writes zeros.
use Prim.Native.Nat.{◌+◌}
use lib.IntN.{pos}
use Rattle.refusals.specs.Outcome.{value_in}
use Rattle.refusals.proofs.Given.{zeros_on_refusal}
use Rattle.scales.specs.Scales.{tai_minus_gps}
use Rattle.civil.specs.Fields.{fields}
use Rattle.builtin.specs.Builtin.{builtin}
use Rattle.images.specs.Image.{dated_by_image}
use Rattle.readings.specs.Readings.{gps_to_civil, civil_to_gps}
use Rattle.plaitgate.specs.Tables.{dated_as, with_stale}
use Rattle.plaitgate.proofs.civil_readings
use Rattle.demands.specs.RefusalsLeave.{ZerosOnRefusal}

pub builtin_gps_to_civil : ZerosOnRefusal civil_readings.plaitgate_builtin_gps_to_civil.Reads.Post
    (fields (pos 0) 0 0 0 0 0 0)
    (λ κ e. fields e.1.0.now e.1.1.0.now e.1.1.1.0.now e.1.1.1.1.0.now
    e.1.1.1.1.1.0.now e.1.1.1.1.1.1.0.now e.1.1.1.1.1.1.1.0.now)
builtin_gps_to_civil κ a k e = zeros_on_refusal (gps_to_civil builtin a.0)

pub builtin_civil_to_gps : ZerosOnRefusal civil_readings.plaitgate_builtin_civil_to_gps.Reads.Post
    0 (λ κ e. e.1.1.1.1.1.1.1.0.now)
builtin_civil_to_gps κ a k e =
    let b = a.1.1.1 in
    zeros_on_refusal
    (civil_to_gps builtin (fields a.0 a.1.0 a.1.1.0 b.0 b.1.0 b.1.1.0 b.1.1.1.0))

pub table_gps_to_civil : ZerosOnRefusal civil_readings.plaitgate_table_gps_to_civil.Reads.Post
    (dated_as (fields (pos 0) 0 0 0 0 0 0) 0)
    (λ κ e. dated_as (fields e.1.1.0.now e.1.1.1.0.now e.1.1.1.1.0.now
    e.1.1.1.1.1.0.now e.1.1.1.1.1.1.0.now e.1.1.1.1.1.1.1.0.now
    e.1.1.1.1.1.1.1.1.0.now) e.1.1.1.1.1.1.1.1.1.0.now)
table_gps_to_civil κ a k e =
    zeros_on_refusal
    (with_stale (dated_by_image a.1.0.now (λ es. a.0 + tai_minus_gps) (λ es. gps_to_civil es a.0)))

pub table_civil_to_gps : ZerosOnRefusal civil_readings.plaitgate_table_civil_to_gps.Reads.Post
    (dated_as 0 0) (λ κ e. dated_as e.1.1.1.1.1.1.1.1.0.now e.1.1.1.1.1.1.1.1.1.0.now)
table_civil_to_gps κ a k e =
    let b = a.1.1.1 in
    let c = fields a.0 a.1.0 a.1.1.0 b.0 b.1.0 b.1.1.0 b.1.1.1.0 in
    zeros_on_refusal
    (with_stale (dated_by_image b.1.1.1.1.0.now (λ es. value_in 0 (civil_to_gps es c) + tai_minus_gps) (λ es. civil_to_gps es c)))
