use Rattle.rtsp_dialect.proofs.Rewritten.{old_over_udp, not_over_udp}
use Rattle.rtsp_dialect.proofs.transport.is_old_text.Goals as goal

pub returns-then-is_udp : goal.returns-then-is_udp
returns-then-is_udp c = old_over_udp c.args.text.now _ _ _ c.is_udp.result c.first_part.ensures.parts c.trimmed.ensures c.is_udp.ensures c.has_ports_alone.result c.if-is_udp.true c.has_ports_alone.ensures

pub returns-else-is_udp : goal.returns-else-is_udp
returns-else-is_udp c = not_over_udp c.args.text.now _ _ _ c.is_udp.result c.first_part.ensures.parts c.trimmed.ensures c.is_udp.ensures c.if-is_udp.false
