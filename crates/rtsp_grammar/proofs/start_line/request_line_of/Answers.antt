use Rattle.std.proofs.Common.{inr, sym}
use Rattle.rtsp_grammar.proofs.StartLemmas.{no_uri}
use Rattle.rtsp_grammar.proofs.start_line.request_line_of.Goals as goal

pub returns-in_default-split_uri : goal.returns-in_default-split_uri
returns-in_default-split_uri c = inr (no_uri c.args.line.now c.in-Some.method.now c.in-Some.rest.now (sym c.in-Some.ensures.some) c.in_default-split_uri.ensures.none)
