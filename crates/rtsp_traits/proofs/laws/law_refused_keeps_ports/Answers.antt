use Rattle.rtsp_traits.specs.Has.{has}
use Rattle.rtsp_traits.proofs.laws.law_refused_keeps_ports.Goals as goal

pub returns : goal.returns
returns c = λ refusal s t run. c.law_refused_addresses.ensures refusal s t run has c.law_ports_show.ensures
