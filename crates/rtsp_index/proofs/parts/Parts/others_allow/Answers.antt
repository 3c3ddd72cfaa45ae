use Rattle.rtsp_index.proofs.parts.Parts.others_allow.Goals as goal

pub returns-in-Open : goal.returns-in-Open
returns-in-Open c = rw (c.in-Open.is, ← c.number.ensures) c.may_open.ensures
