use Rattle.rtsp_shares.proofs.headcount.Headcount.enter.Goals as goal

pub returns-in-Some-clause-why : goal.returns-in-Some-clause-why
returns-in-Some-clause-why c = c.in-Some.ensures.why c.args.address
