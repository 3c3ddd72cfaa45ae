use Rattle.rtsp_engine.proofs.Batches.{visits_chain}
use Rattle.rtsp_engine.proofs.visiting.law_visits.Goals as goal

pub returns : goal.returns
returns g c = visits_chain g.A.PieceAnswerer.answers g.A.PieceAnswerer.gives_up
