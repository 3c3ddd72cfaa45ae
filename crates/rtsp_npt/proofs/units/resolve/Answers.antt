use Rattle.rtsp_npt.proofs.UnitLemmas.{units_mean, taken_units, taken_within, outside_media}
use Rattle.rtsp_npt.proofs.units.resolve.Goals as goal

pub returns-clause-units : goal.returns-clause-units
returns-clause-units c = rw (c.units_of.ensures, c.ms.ensures.value) (taken_units c.args.range c.args.resume c.args.unit_ms c.args.units _ (units_mean c.args.range c.args.resume c.args.unit_ms c.args.units (rw c.ms.ensures.value at c.ms.ensures.least)))

pub returns-clause-within : goal.returns-clause-within
returns-clause-within c = rw (c.units_of.ensures, c.ms.ensures.value) (taken_within c.args.range c.args.resume c.args.unit_ms c.args.units _ (units_mean c.args.range c.args.resume c.args.unit_ms c.args.units (rw c.ms.ensures.value at c.ms.ensures.least)))

pub returns-clause-outside : goal.returns-clause-outside
returns-clause-outside c = rw (c.units_of.ensures, c.ms.ensures.value) (outside_media c.args.range c.args.resume c.args.unit_ms c.args.units _ (units_mean c.args.range c.args.resume c.args.unit_ms c.args.units (rw c.ms.ensures.value at c.ms.ensures.least)))
