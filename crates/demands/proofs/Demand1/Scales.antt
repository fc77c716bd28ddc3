-- What one scale alone has, Galileo and BeiDou, and durations: each call gives the number and the value of an outcome, so a refusal writes
-- zeros.
use Prim.Native.Nat.{ℕ, ◌+◌, ◌*◌}
use lib.IntN.{pos, ◌-ℤ◌, ◌*ℤ◌}
use Rattle.refusals.specs.Outcome.{then}
use Rattle.refusals.proofs.Given.{zeros_on_refusal}
use Rattle.counts.specs.Exact.{count_of, up, down}
use Rattle.counts.specs.Units.{second, day_seconds, unix_offset, of_units, parts_from}
use Rattle.counts.specs.declared.units.DurationParts.{DurationParts}
use Rattle.scales.specs.Scales.{tai_minus_gps, gps_minus_galileo, gps_minus_beidou}
use Rattle.plaitgate.proofs.durations
use Rattle.plaitgate.proofs.galileo_beidou
use Rattle.plaitgate.proofs.glonass_days
use Rattle.plaitgate.proofs.gps_tai
use Rattle.plaitgate.proofs.utc_unix
use Rattle.demands.specs.RefusalsLeave.{ZerosOnRefusal}

abbrev parts_with : ℕ → ℕ → DurationParts
parts_with s n = record { seconds = s; nanos = n }

pub gps_to_tai : ZerosOnRefusal gps_tai.plaitgate_gps_to_tai.Reads.Post 0 (λ κ e. e.1.0.now)
gps_to_tai κ a k e = zeros_on_refusal (count_of (pos (a.0 + tai_minus_gps)))

pub gps_from_tai : ZerosOnRefusal gps_tai.plaitgate_gps_from_tai.Reads.Post 0 (λ κ e. e.1.0.now)
gps_from_tai κ a k e = zeros_on_refusal (count_of (pos a.0 -ℤ pos tai_minus_gps))

pub galileo_to_beidou : ZerosOnRefusal galileo_beidou.plaitgate_galileo_to_beidou.Reads.Post 0 (λ κ e. e.1.0.now)
galileo_to_beidou κ a k e = zeros_on_refusal (then (up gps_minus_galileo a.0) (down gps_minus_beidou))

pub beidou_to_galileo : ZerosOnRefusal galileo_beidou.plaitgate_beidou_to_galileo.Reads.Post 0 (λ κ e. e.1.0.now)
beidou_to_galileo κ a k e = zeros_on_refusal (then (up gps_minus_beidou a.0) (down gps_minus_galileo))

pub glonass_from_day_tod : ZerosOnRefusal glonass_days.plaitgate_glonass_from_day_tod.Reads.Post 0
    (λ κ e. e.1.1.1.0.now)
glonass_from_day_tod κ a k e = zeros_on_refusal (of_units day_seconds a.0 a.1.0 a.1.1.0)

pub utc_from_unix_seconds : ZerosOnRefusal utc_unix.plaitgate_utc_from_unix_seconds.Reads.Post 0 (λ κ e. e.1.0.now)
utc_from_unix_seconds κ a k e = zeros_on_refusal (count_of ((a.0 -ℤ pos unix_offset) *ℤ pos second))

pub utc_from_unix_nanos : ZerosOnRefusal utc_unix.plaitgate_utc_from_unix_nanos.Reads.Post 0 (λ κ e. e.1.0.now)
utc_from_unix_nanos κ a k e = zeros_on_refusal (count_of (a.0 -ℤ pos (unix_offset * second)))

pub duration_parts_new : ZerosOnRefusal durations.plaitgate_duration_parts_new.Reads.Post
    (parts_with 0 0) (λ κ e. parts_with e.1.1.0.now e.1.1.1.0.now)
duration_parts_new κ a k e = zeros_on_refusal (parts_from a.0 a.1.0)
