use Rattle.std.proofs.Common.{rules}
use Rattle.rtsp_sockets.proofs.Reading.{found_place, no_place}
use Rattle.rtsp_sockets.proofs.media.MediaOf.place.Goals as goal

pub returns-in-Some-clause-some : goal.returns-in-Some-clause-some
returns-in-Some-clause-some g c = found_place c.args.self.now.places.items c.args.presentation c.args.track c.in-Some.places.now c.place_of.result (search rules) (search rules)

pub returns-in-Some-clause-none : goal.returns-in-Some-clause-none
returns-in-Some-clause-none g c = no_place c.args.self.now.places.items c.args.presentation c.args.track c.in-Some.places.now c.place_of.result (search rules) (search rules)
