-- Written by tools/write-scales from its template in tools/templates.
-- Scales at a fixed difference from GPS: each call gives the number and the value of an outcome, so a refusal writes
-- zeros.
use Prim.Native.Nat.{◌+◌}
use Rattle.refusals.proofs.Given.{zeros_on_refusal}
use Rattle.counts.specs.Exact.{up, down}
use Rattle.scales.specs.Scales.{tai_minus_gps, gps_minus_galileo, gps_minus_beidou}
use Rattle.conversions.specs.Shifted.{shifted_to_utc, utc_to_shifted, shifted_reading, shifted_to_glonass, glonass_to_shifted}
use Rattle.builtin.specs.Builtin.{builtin}
use Rattle.images.specs.Image.{dated_by_image}
use Rattle.conversions.specs.Conversions.{glonass_epoch}
use Rattle.plaitgate.specs.Tables.{dated_as, with_stale}
use Rattle.plaitgate.proofs.shifted.GalileoHostShifted
use Rattle.plaitgate.proofs.shifted.BeidouHostShifted
use Rattle.demands.specs.RefusalsLeave.{ZerosOnRefusal}

pub galileo_to_gps : ZerosOnRefusal GalileoHostShifted.scale_to_gps.Reads.Post 0
    (λ κ e. e.1.0.now)
galileo_to_gps κ a k e = zeros_on_refusal (up gps_minus_galileo a.0)

pub gps_to_galileo : ZerosOnRefusal GalileoHostShifted.gps_to_scale.Reads.Post 0
    (λ κ e. e.1.0.now)
gps_to_galileo κ a k e = zeros_on_refusal (down gps_minus_galileo a.0)

pub builtin_galileo_to_utc : ZerosOnRefusal GalileoHostShifted.builtin_scale_to_utc.Reads.Post 0
    (λ κ e. e.1.0.now)
builtin_galileo_to_utc κ a k e = zeros_on_refusal (shifted_to_utc gps_minus_galileo builtin a.0)

pub builtin_utc_to_galileo : ZerosOnRefusal GalileoHostShifted.builtin_utc_to_scale.Reads.Post 0
    (λ κ e. e.1.0.now)
builtin_utc_to_galileo κ a k e = zeros_on_refusal (utc_to_shifted gps_minus_galileo builtin a.0)

pub builtin_galileo_to_glonass : ZerosOnRefusal GalileoHostShifted.builtin_scale_to_glonass.Reads.Post 0
    (λ κ e. e.1.0.now)
builtin_galileo_to_glonass κ a k e = zeros_on_refusal (shifted_to_glonass gps_minus_galileo builtin a.0)

pub builtin_glonass_to_galileo : ZerosOnRefusal GalileoHostShifted.builtin_glonass_to_scale.Reads.Post 0
    (λ κ e. e.1.0.now)
builtin_glonass_to_galileo κ a k e = zeros_on_refusal (glonass_to_shifted gps_minus_galileo builtin a.0)

pub table_galileo_to_utc : ZerosOnRefusal GalileoHostShifted.table_scale_to_utc.Reads.Post (dated_as 0 0)
    (λ κ e. dated_as e.1.1.0.now e.1.1.1.0.now)
table_galileo_to_utc κ a k e =
    zeros_on_refusal
    (with_stale (dated_by_image a.1.0.now (λ es. a.0 + gps_minus_galileo + tai_minus_gps) (λ es. shifted_to_utc gps_minus_galileo es a.0)))

pub table_utc_to_galileo : ZerosOnRefusal GalileoHostShifted.table_utc_to_scale.Reads.Post (dated_as 0 0)
    (λ κ e. dated_as e.1.1.0.now e.1.1.1.0.now)
table_utc_to_galileo κ a k e =
    zeros_on_refusal
    (with_stale (dated_by_image a.1.0.now (λ es. shifted_reading gps_minus_galileo es a.0) (λ es. utc_to_shifted gps_minus_galileo es a.0)))

pub table_galileo_to_glonass : ZerosOnRefusal GalileoHostShifted.table_scale_to_glonass.Reads.Post (dated_as 0 0)
    (λ κ e. dated_as e.1.1.0.now e.1.1.1.0.now)
table_galileo_to_glonass κ a k e =
    zeros_on_refusal
    (with_stale (dated_by_image a.1.0.now (λ es. a.0 + gps_minus_galileo + tai_minus_gps) (λ es. shifted_to_glonass gps_minus_galileo es a.0)))

pub table_glonass_to_galileo : ZerosOnRefusal GalileoHostShifted.table_glonass_to_scale.Reads.Post (dated_as 0 0)
    (λ κ e. dated_as e.1.1.0.now e.1.1.1.0.now)
table_glonass_to_galileo κ a k e =
    zeros_on_refusal
    (with_stale (dated_by_image a.1.0.now (λ es. shifted_reading gps_minus_galileo es (a.0 + glonass_epoch)) (λ es. glonass_to_shifted gps_minus_galileo es a.0)))

pub beidou_to_gps : ZerosOnRefusal BeidouHostShifted.scale_to_gps.Reads.Post 0
    (λ κ e. e.1.0.now)
beidou_to_gps κ a k e = zeros_on_refusal (up gps_minus_beidou a.0)

pub gps_to_beidou : ZerosOnRefusal BeidouHostShifted.gps_to_scale.Reads.Post 0
    (λ κ e. e.1.0.now)
gps_to_beidou κ a k e = zeros_on_refusal (down gps_minus_beidou a.0)

pub builtin_beidou_to_utc : ZerosOnRefusal BeidouHostShifted.builtin_scale_to_utc.Reads.Post 0
    (λ κ e. e.1.0.now)
builtin_beidou_to_utc κ a k e = zeros_on_refusal (shifted_to_utc gps_minus_beidou builtin a.0)

pub builtin_utc_to_beidou : ZerosOnRefusal BeidouHostShifted.builtin_utc_to_scale.Reads.Post 0
    (λ κ e. e.1.0.now)
builtin_utc_to_beidou κ a k e = zeros_on_refusal (utc_to_shifted gps_minus_beidou builtin a.0)

pub builtin_beidou_to_glonass : ZerosOnRefusal BeidouHostShifted.builtin_scale_to_glonass.Reads.Post 0
    (λ κ e. e.1.0.now)
builtin_beidou_to_glonass κ a k e = zeros_on_refusal (shifted_to_glonass gps_minus_beidou builtin a.0)

pub builtin_glonass_to_beidou : ZerosOnRefusal BeidouHostShifted.builtin_glonass_to_scale.Reads.Post 0
    (λ κ e. e.1.0.now)
builtin_glonass_to_beidou κ a k e = zeros_on_refusal (glonass_to_shifted gps_minus_beidou builtin a.0)

pub table_beidou_to_utc : ZerosOnRefusal BeidouHostShifted.table_scale_to_utc.Reads.Post (dated_as 0 0)
    (λ κ e. dated_as e.1.1.0.now e.1.1.1.0.now)
table_beidou_to_utc κ a k e =
    zeros_on_refusal
    (with_stale (dated_by_image a.1.0.now (λ es. a.0 + gps_minus_beidou + tai_minus_gps) (λ es. shifted_to_utc gps_minus_beidou es a.0)))

pub table_utc_to_beidou : ZerosOnRefusal BeidouHostShifted.table_utc_to_scale.Reads.Post (dated_as 0 0)
    (λ κ e. dated_as e.1.1.0.now e.1.1.1.0.now)
table_utc_to_beidou κ a k e =
    zeros_on_refusal
    (with_stale (dated_by_image a.1.0.now (λ es. shifted_reading gps_minus_beidou es a.0) (λ es. utc_to_shifted gps_minus_beidou es a.0)))

pub table_beidou_to_glonass : ZerosOnRefusal BeidouHostShifted.table_scale_to_glonass.Reads.Post (dated_as 0 0)
    (λ κ e. dated_as e.1.1.0.now e.1.1.1.0.now)
table_beidou_to_glonass κ a k e =
    zeros_on_refusal
    (with_stale (dated_by_image a.1.0.now (λ es. a.0 + gps_minus_beidou + tai_minus_gps) (λ es. shifted_to_glonass gps_minus_beidou es a.0)))

pub table_glonass_to_beidou : ZerosOnRefusal BeidouHostShifted.table_glonass_to_scale.Reads.Post (dated_as 0 0)
    (λ κ e. dated_as e.1.1.0.now e.1.1.1.0.now)
table_glonass_to_beidou κ a k e =
    zeros_on_refusal
    (with_stale (dated_by_image a.1.0.now (λ es. shifted_reading gps_minus_beidou es (a.0 + glonass_epoch)) (λ es. glonass_to_shifted gps_minus_beidou es a.0)))
