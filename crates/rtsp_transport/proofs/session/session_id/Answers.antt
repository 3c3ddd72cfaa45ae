use Rattle.std.proofs.Common.{ap, ◌∙◌, length}
use Rattle.rtsp_text.proofs.HexLemmas.{length-hex_text}
use Rattle.rtsp_transport.proofs.session.session_id.Goals as goal

pub returns-then-name-ne-ID_DIGITS-clause-only : goal.returns-then-name-ne-ID_DIGITS-clause-only
returns-then-name-ne-ID_DIGITS-clause-only c = λ id fits e. absurd (c.if-name-ne-ID_DIGITS.true (ap length e ∙ length-hex_text 32 id))
