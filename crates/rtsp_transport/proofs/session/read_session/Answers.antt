use Rattle.std.proofs.Common.{sym, refl, ◌∙◌, ap}
use Rattle.rtsp_transport.specs.Session.{is_session_name}
use Rattle.rtsp_transport.proofs.SessionLemmas.{name_only, no_name}
use Rattle.rtsp_transport.proofs.session.read_session.Goals as goal

pub returns-then-not-is_session_name-clause-only : goal.returns-then-not-is_session_name-clause-only
returns-then-not-is_session_name-clause-only c = λ name s. no_name c.args.text.now (sym (ap is_session_name c.name_of-name.ensures) ∙ sym c.is_session_name.ensures ∙ c.if-not-is_session_name.true) name s

pub returns-then-not-is_session_name-clause-fault : goal.returns-then-not-is_session_name-clause-fault
returns-then-not-is_session_name-clause-fault c = (refl, no_name c.args.text.now (sym (ap is_session_name c.name_of-name.ensures) ∙ sym c.is_session_name.ensures ∙ c.if-not-is_session_name.true))

pub returns-clause-only : goal.returns-clause-only
returns-clause-only c = λ name s. c.name_of-name.ensures ∙ (name_only c.args.text.now name s).0
