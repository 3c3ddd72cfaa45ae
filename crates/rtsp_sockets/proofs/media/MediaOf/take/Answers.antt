use Rattle.std.proofs.Common.{rules}
use Rattle.std.specs.Arc.{arc_value}
use Rattle.rtsp_sockets.proofs.Reading.{found_stand}
use Rattle.rtsp_sockets.proofs.media.MediaOf.take.Goals as goal

pub returns-clause-ok : goal.returns-clause-ok
returns-clause-ok g c =
    found_stand (λ file. g.F.ReadAt.text (g.F.ReadAt.number file.file)) arc_value c.take_at.result _ _ _ _ _ _ c.in-Some.place c.in-Some-file.file.now (search rules) (search rules) (search rules)

pub returns-in_default-clause-held : goal.returns-in_default-clause-held
returns-in_default-clause-held g c = λ held. absurd (c.in_default.ensures.none held.place held.is_place)
