use Rattle.std.proofs.Common.{sym, ◌∙◌}
use Rattle.rtsp_dialect.proofs.Staying.{request_stays}
use Rattle.rtsp_dialect.proofs.request.repair.Goals as goal

pub returns-then-not-any_needs_repair-clause-repaired : goal.returns-then-not-any_needs_repair-clause-repaired
returns-then-not-any_needs_repair-clause-repaired c = sym (request_stays c.args.request.now (sym c.any_needs_repair.ensures ∙ c.if-not-any_needs_repair.true))
