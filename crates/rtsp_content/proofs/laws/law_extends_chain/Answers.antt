use Rattle.rtsp_content.proofs.GrowthLemmas.{extends-chain}
use Rattle.rtsp_content.proofs.laws.law_extends_chain.Goals as goal

pub returns : goal.returns
returns c = extends-chain
