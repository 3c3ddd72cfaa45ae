use Rattle.rtsp_index.proofs.counts.Counts.reserve.Goals as goal

pub returns-clause-same : goal.returns-clause-same
returns-clause-same c b ok = record { living = ok.living; owed = ok.owed; bindings = c.reserve.ensures.same b ok.bindings }
