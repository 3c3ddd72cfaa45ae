use Rattle.rtsp_threads.proofs.leaving.sweep_some.Goals as goal

pub returns-clause-run : goal.returns-clause-run
returns-clause-run g c = (_, c.sweep.ensures.run)
