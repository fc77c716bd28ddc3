-- Conversions, by the built-in table and by an image: each call gives the number and the value of an outcome, so a
-- refusal writes zeros.
use Prim.Native.Nat.{◌+◌}
use lib.IntN.{pos}
use Rattle.refusals.proofs.Given.{zeros_on_refusal}
use Rattle.counts.specs.Exact.{up, down}
use Rattle.conversions.specs.Conversions.{glonass_epoch, gps_to_utc, utc_to_gps, glonass_to_gps, gps_to_glonass, unix_to_gps}
use Rattle.conversions.specs.Conversions.{gps_to_unix, last_reading, unix_to_utc}
use Rattle.builtin.specs.Builtin.{builtin}
use Rattle.plaitgate.proofs.by_builtin
use Rattle.plaitgate.proofs.by_table
use Rattle.images.specs.Image.{dated_by_image}
use Rattle.scales.specs.Scales.{tai_minus_gps}
use Rattle.refusals.specs.Outcome.{value_in}
use Rattle.plaitgate.specs.Tables.{dated_as, with_stale}
use Rattle.demands.specs.RefusalsLeave.{ZerosOnRefusal}

pub glonass_to_utc : ZerosOnRefusal by_builtin.plaitgate_glonass_to_utc.Reads.Post 0 (λ κ e. e.1.0.now)
glonass_to_utc κ a k e = zeros_on_refusal (up glonass_epoch a.0)

pub utc_to_glonass : ZerosOnRefusal by_builtin.plaitgate_utc_to_glonass.Reads.Post 0 (λ κ e. e.1.0.now)
utc_to_glonass κ a k e = zeros_on_refusal (down glonass_epoch a.0)

pub builtin_gps_to_utc : ZerosOnRefusal by_builtin.plaitgate_builtin_gps_to_utc.Reads.Post 0 (λ κ e. e.1.0.now)
builtin_gps_to_utc κ a k e = zeros_on_refusal (gps_to_utc builtin a.0)

pub builtin_utc_to_gps : ZerosOnRefusal by_builtin.plaitgate_builtin_utc_to_gps.Reads.Post 0 (λ κ e. e.1.0.now)
builtin_utc_to_gps κ a k e = zeros_on_refusal (utc_to_gps builtin a.0)

pub builtin_glonass_to_gps : ZerosOnRefusal by_builtin.plaitgate_builtin_glonass_to_gps.Reads.Post 0
    (λ κ e. e.1.0.now)
builtin_glonass_to_gps κ a k e = zeros_on_refusal (glonass_to_gps builtin a.0)

pub builtin_gps_to_glonass : ZerosOnRefusal by_builtin.plaitgate_builtin_gps_to_glonass.Reads.Post 0
    (λ κ e. e.1.0.now)
builtin_gps_to_glonass κ a k e = zeros_on_refusal (gps_to_glonass builtin a.0)

pub builtin_gps_from_unix_seconds : ZerosOnRefusal by_builtin.plaitgate_builtin_gps_from_unix_seconds.Reads.Post
    0 (λ κ e. e.1.0.now)
builtin_gps_from_unix_seconds κ a k e = zeros_on_refusal (unix_to_gps builtin a.0)

pub builtin_gps_as_unix_seconds : ZerosOnRefusal by_builtin.plaitgate_builtin_gps_as_unix_seconds.Reads.Post
    (pos 0) (λ κ e. e.1.0.now)
builtin_gps_as_unix_seconds κ a k e = zeros_on_refusal (gps_to_unix builtin a.0)

pub gps_to_utc_lem : ZerosOnRefusal by_table.plaitgate_table_gps_to_utc.Reads.Post (dated_as 0 0)
    (λ κ e. dated_as e.1.1.0.now e.1.1.1.0.now)
gps_to_utc_lem κ a k e =
    zeros_on_refusal (with_stale (dated_by_image a.1.0.now (λ es. a.0 + tai_minus_gps) (λ es. gps_to_utc es a.0)))

pub utc_to_gps_lem : ZerosOnRefusal by_table.plaitgate_table_utc_to_gps.Reads.Post (dated_as 0 0)
    (λ κ e. dated_as e.1.1.0.now e.1.1.1.0.now)
utc_to_gps_lem κ a k e =
    zeros_on_refusal (with_stale (dated_by_image a.1.0.now (λ es. last_reading es a.0) (λ es. utc_to_gps es a.0)))

pub glonass_to_gps_lem : ZerosOnRefusal by_table.plaitgate_table_glonass_to_gps.Reads.Post (dated_as 0 0)
    (λ κ e. dated_as e.1.1.0.now e.1.1.1.0.now)
glonass_to_gps_lem κ a k e =
    zeros_on_refusal (with_stale (dated_by_image a.1.0.now (λ es. last_reading es (a.0 + glonass_epoch)) (λ es. glonass_to_gps es a.0)))

pub gps_to_glonass_lem : ZerosOnRefusal by_table.plaitgate_table_gps_to_glonass.Reads.Post (dated_as 0 0)
    (λ κ e. dated_as e.1.1.0.now e.1.1.1.0.now)
gps_to_glonass_lem κ a k e =
    zeros_on_refusal (with_stale (dated_by_image a.1.0.now (λ es. a.0 + tai_minus_gps) (λ es. gps_to_glonass es a.0)))

pub gps_from_unix_seconds : ZerosOnRefusal by_table.plaitgate_table_gps_from_unix_seconds.Reads.Post (dated_as 0 0)
    (λ κ e. dated_as e.1.1.0.now e.1.1.1.0.now)
gps_from_unix_seconds κ a k e =
    zeros_on_refusal (with_stale (dated_by_image a.1.0.now (λ es. last_reading es (value_in 0 (unix_to_utc a.0))) (λ es. unix_to_gps es a.0)))

pub gps_as_unix_seconds : ZerosOnRefusal by_table.plaitgate_table_gps_as_unix_seconds.Reads.Post
    (dated_as (pos 0) 0) (λ κ e. dated_as e.1.1.0.now e.1.1.1.0.now)
gps_as_unix_seconds κ a k e =
    zeros_on_refusal (with_stale (dated_by_image a.1.0.now (λ es. a.0 + tai_minus_gps) (λ es. gps_to_unix es a.0)))
