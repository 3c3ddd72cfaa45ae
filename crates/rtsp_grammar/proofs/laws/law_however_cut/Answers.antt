use Rattle.rtsp_grammar.proofs.FeedLemmas.{however_cut}
use Rattle.rtsp_grammar.proofs.laws.law_however_cut.Goals as goal

pub returns : goal.returns
returns c = however_cut
