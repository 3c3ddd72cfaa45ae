use Rattle.std.proofs.Common.{rules, refl}
use Rattle.rtsp_sockets.proofs.slots.Slots.get.Goals as goal

pub returns-in-Some-clause-found : goal.returns-in-Some-clause-found
returns-in-Some-clause-found g c = (c.in-Some.bound, record { there = search rules; is = search rules }, refl)
