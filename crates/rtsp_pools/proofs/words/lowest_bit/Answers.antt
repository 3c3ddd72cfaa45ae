use Rattle.rtsp_pools.proofs.BitLemmas.{none_from, at_lowest, below_lowest}
use Rattle.rtsp_pools.proofs.words.lowest_bit.Goals as goal

pub returns-then-rest-eq0-clause-none : goal.returns-then-rest-eq0-clause-none
returns-then-rest-eq0-clause-none c = none_from c.args.bits c.args.low c.requires c.if-rest-eq0.true

pub returns-else-rest-eq0-clause-found : goal.returns-else-rest-eq0-clause-found
returns-else-rest-eq0-clause-found c = at_lowest c.args.bits c.args.low c.requires c.ranges.bits.fits c.if-rest-eq0.false

pub returns-else-rest-eq0-clause-least : goal.returns-else-rest-eq0-clause-least
returns-else-rest-eq0-clause-least c = below_lowest c.args.bits c.args.low c.requires c.ranges.bits.fits c.if-rest-eq0.false
