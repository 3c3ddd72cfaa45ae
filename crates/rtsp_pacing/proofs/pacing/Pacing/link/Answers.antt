use Rattle.rtsp_pacing.proofs.Chains.{chain_more}
use Rattle.rtsp_pacing.proofs.pacing.Pacing.link.Goals as goal

pub returns-then-has-clause-behind : goal.returns-then-has-clause-behind
returns-then-has-clause-behind g c = λ there. record {
  before = c.link-before.result;
  was = c.link-before.ensures.before;
  heads = c.link-before.ensures.heads;
  linked = c.link.ensures.linked there;
  chain = λ keys. chain_more c.args.self.now.plays c.link.new.self c.args.key c.link-before.result keys (c.link.ensures.linked there) c.link.ensures.others;
}
