use Rattle.std.proofs.Common.{ℕ, ap}
use Rattle.std.specs.Prelude.{Option}
use Rattle.rtsp_state.specs.Lines.{session_line, session_lines}
use Rattle.rtsp_state.proofs.MessageLemmas.{headers_only}
use Rattle.rtsp_state.proofs.headers.put_shown_session.Goals as goal

pub returns-in-Some-clause-text : goal.returns-in-Some-clause-text
returns-in-Some-clause-text c = headers_only _ _ (session_line c.in-Some.id) _ (ap (λ (o : Option ℕ). session_lines o) c.in-Some.is) c.put_session.ensures.text
