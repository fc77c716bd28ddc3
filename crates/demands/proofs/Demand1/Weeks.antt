-- Written by tools/write-scales from its template in tools/templates.
-- Weeks: each call gives the number and the value of an outcome, so a refusal writes zeros.
use Rattle.refusals.proofs.Given.{zeros_on_refusal}
use Rattle.counts.specs.Units.{week_seconds, of_units}
use Rattle.plaitgate.proofs.weeks.GpsHostWeeks
use Rattle.plaitgate.proofs.weeks.GalileoHostWeeks
use Rattle.plaitgate.proofs.weeks.BeidouHostWeeks
use Rattle.demands.specs.RefusalsLeave.{ZerosOnRefusal}

pub gps_from_week_tow : ZerosOnRefusal GpsHostWeeks.scale_from_week_tow.Reads.Post 0
    (λ κ e. e.1.1.1.0.now)
gps_from_week_tow κ a k e = zeros_on_refusal (of_units week_seconds a.0 a.1.0 a.1.1.0)

pub galileo_from_week_tow : ZerosOnRefusal GalileoHostWeeks.scale_from_week_tow.Reads.Post 0
    (λ κ e. e.1.1.1.0.now)
galileo_from_week_tow κ a k e = zeros_on_refusal (of_units week_seconds a.0 a.1.0 a.1.1.0)

pub beidou_from_week_tow : ZerosOnRefusal BeidouHostWeeks.scale_from_week_tow.Reads.Post 0
    (λ κ e. e.1.1.1.0.now)
beidou_from_week_tow κ a k e = zeros_on_refusal (of_units week_seconds a.0 a.1.0 a.1.1.0)
