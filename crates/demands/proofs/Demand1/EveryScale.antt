-- Written by tools/write-scales from its template in tools/templates.
-- What every scale has: each call gives the number and the value of an outcome, so a refusal writes zeros.
use Prim.Native.Nat.{◌*◌}
use lib.IntN.{pos, ◌+ℤ◌, ◌-ℤ◌}
use Rattle.refusals.proofs.Given.{zeros_on_refusal}
use Rattle.counts.specs.Exact.{count_of, duration_of}
use Rattle.counts.specs.Units.{second}
use Rattle.plaitgate.proofs.every_scale.GpsHostCounts
use Rattle.plaitgate.proofs.every_scale.UtcHostCounts
use Rattle.plaitgate.proofs.every_scale.GlonassHostCounts
use Rattle.plaitgate.proofs.every_scale.TaiHostCounts
use Rattle.plaitgate.proofs.every_scale.GalileoHostCounts
use Rattle.plaitgate.proofs.every_scale.BeidouHostCounts
use Rattle.demands.specs.RefusalsLeave.{ZerosOnRefusal}

pub gps_checked_from_seconds : ZerosOnRefusal GpsHostCounts.scale_checked_from_seconds.Reads.Post
    0 (λ κ e. e.1.0.now)
gps_checked_from_seconds κ a k e = zeros_on_refusal (count_of (pos (a.0 * second)))

pub gps_checked_add : ZerosOnRefusal GpsHostCounts.scale_checked_add.Reads.Post 0 (λ κ e. e.1.1.0.now)
gps_checked_add κ a k e = zeros_on_refusal (count_of (pos a.0 +ℤ a.1.0))

pub gps_checked_sub_duration : ZerosOnRefusal GpsHostCounts.scale_checked_sub_duration.Reads.Post
    0 (λ κ e. e.1.1.0.now)
gps_checked_sub_duration κ a k e = zeros_on_refusal (count_of (pos a.0 -ℤ a.1.0))

pub gps_checked_elapsed : ZerosOnRefusal GpsHostCounts.scale_checked_elapsed.Reads.Post
    (pos 0) (λ κ e. e.1.1.0.now)
gps_checked_elapsed κ a k e = zeros_on_refusal (duration_of (pos a.0 -ℤ pos a.1.0))

pub utc_checked_from_seconds : ZerosOnRefusal UtcHostCounts.scale_checked_from_seconds.Reads.Post
    0 (λ κ e. e.1.0.now)
utc_checked_from_seconds κ a k e = zeros_on_refusal (count_of (pos (a.0 * second)))

pub utc_checked_add : ZerosOnRefusal UtcHostCounts.scale_checked_add.Reads.Post 0 (λ κ e. e.1.1.0.now)
utc_checked_add κ a k e = zeros_on_refusal (count_of (pos a.0 +ℤ a.1.0))

pub utc_checked_sub_duration : ZerosOnRefusal UtcHostCounts.scale_checked_sub_duration.Reads.Post
    0 (λ κ e. e.1.1.0.now)
utc_checked_sub_duration κ a k e = zeros_on_refusal (count_of (pos a.0 -ℤ a.1.0))

pub utc_checked_elapsed : ZerosOnRefusal UtcHostCounts.scale_checked_elapsed.Reads.Post
    (pos 0) (λ κ e. e.1.1.0.now)
utc_checked_elapsed κ a k e = zeros_on_refusal (duration_of (pos a.0 -ℤ pos a.1.0))

pub glonass_checked_from_seconds : ZerosOnRefusal GlonassHostCounts.scale_checked_from_seconds.Reads.Post
    0 (λ κ e. e.1.0.now)
glonass_checked_from_seconds κ a k e = zeros_on_refusal (count_of (pos (a.0 * second)))

pub glonass_checked_add : ZerosOnRefusal GlonassHostCounts.scale_checked_add.Reads.Post 0 (λ κ e. e.1.1.0.now)
glonass_checked_add κ a k e = zeros_on_refusal (count_of (pos a.0 +ℤ a.1.0))

pub glonass_checked_sub_duration : ZerosOnRefusal GlonassHostCounts.scale_checked_sub_duration.Reads.Post
    0 (λ κ e. e.1.1.0.now)
glonass_checked_sub_duration κ a k e = zeros_on_refusal (count_of (pos a.0 -ℤ a.1.0))

pub glonass_checked_elapsed : ZerosOnRefusal GlonassHostCounts.scale_checked_elapsed.Reads.Post
    (pos 0) (λ κ e. e.1.1.0.now)
glonass_checked_elapsed κ a k e = zeros_on_refusal (duration_of (pos a.0 -ℤ pos a.1.0))

pub tai_checked_from_seconds : ZerosOnRefusal TaiHostCounts.scale_checked_from_seconds.Reads.Post
    0 (λ κ e. e.1.0.now)
tai_checked_from_seconds κ a k e = zeros_on_refusal (count_of (pos (a.0 * second)))

pub tai_checked_add : ZerosOnRefusal TaiHostCounts.scale_checked_add.Reads.Post 0 (λ κ e. e.1.1.0.now)
tai_checked_add κ a k e = zeros_on_refusal (count_of (pos a.0 +ℤ a.1.0))

pub tai_checked_sub_duration : ZerosOnRefusal TaiHostCounts.scale_checked_sub_duration.Reads.Post
    0 (λ κ e. e.1.1.0.now)
tai_checked_sub_duration κ a k e = zeros_on_refusal (count_of (pos a.0 -ℤ a.1.0))

pub tai_checked_elapsed : ZerosOnRefusal TaiHostCounts.scale_checked_elapsed.Reads.Post
    (pos 0) (λ κ e. e.1.1.0.now)
tai_checked_elapsed κ a k e = zeros_on_refusal (duration_of (pos a.0 -ℤ pos a.1.0))

pub galileo_checked_from_seconds : ZerosOnRefusal GalileoHostCounts.scale_checked_from_seconds.Reads.Post
    0 (λ κ e. e.1.0.now)
galileo_checked_from_seconds κ a k e = zeros_on_refusal (count_of (pos (a.0 * second)))

pub galileo_checked_add : ZerosOnRefusal GalileoHostCounts.scale_checked_add.Reads.Post 0 (λ κ e. e.1.1.0.now)
galileo_checked_add κ a k e = zeros_on_refusal (count_of (pos a.0 +ℤ a.1.0))

pub galileo_checked_sub_duration : ZerosOnRefusal GalileoHostCounts.scale_checked_sub_duration.Reads.Post
    0 (λ κ e. e.1.1.0.now)
galileo_checked_sub_duration κ a k e = zeros_on_refusal (count_of (pos a.0 -ℤ a.1.0))

pub galileo_checked_elapsed : ZerosOnRefusal GalileoHostCounts.scale_checked_elapsed.Reads.Post
    (pos 0) (λ κ e. e.1.1.0.now)
galileo_checked_elapsed κ a k e = zeros_on_refusal (duration_of (pos a.0 -ℤ pos a.1.0))

pub beidou_checked_from_seconds : ZerosOnRefusal BeidouHostCounts.scale_checked_from_seconds.Reads.Post
    0 (λ κ e. e.1.0.now)
beidou_checked_from_seconds κ a k e = zeros_on_refusal (count_of (pos (a.0 * second)))

pub beidou_checked_add : ZerosOnRefusal BeidouHostCounts.scale_checked_add.Reads.Post 0 (λ κ e. e.1.1.0.now)
beidou_checked_add κ a k e = zeros_on_refusal (count_of (pos a.0 +ℤ a.1.0))

pub beidou_checked_sub_duration : ZerosOnRefusal BeidouHostCounts.scale_checked_sub_duration.Reads.Post
    0 (λ κ e. e.1.1.0.now)
beidou_checked_sub_duration κ a k e = zeros_on_refusal (count_of (pos a.0 -ℤ a.1.0))

pub beidou_checked_elapsed : ZerosOnRefusal BeidouHostCounts.scale_checked_elapsed.Reads.Post
    (pos 0) (λ κ e. e.1.1.0.now)
beidou_checked_elapsed κ a k e = zeros_on_refusal (duration_of (pos a.0 -ℤ pos a.1.0))
