use Rattle.rtsp_threads.proofs.leaving.hang_up_once.Goals as goal

pub returns-clause-run : goal.returns-clause-run
returns-clause-run g c = (_, c.hang_up.ensures.run)
