use Rattle.rtsp_sessions.proofs.plain.own.allowed_for_living.Goals as goal

pub returns-in-Add : goal.returns-in-Add
returns-in-Add c = rw c.in-Add.is c.may_add.ensures
