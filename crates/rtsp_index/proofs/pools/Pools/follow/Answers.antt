use Rattle.rtsp_record.specs.Books.{after}
use Rattle.rtsp_index.proofs.PoolLemmas.{same_free, held_in, pools_taken, pools_given, held_after, freed_after, pools_stay}
use Rattle.rtsp_index.proofs.pools.Pools.follow.Goals as goal

pub hold-requires-clause-free : goal.hold-requires-clause-free
hold-requires-clause-free c =
    let pools = c.args.self.now in
    let b = c.requires.follows.0 in
    let free = (held_after pools.pairs.whole b c.args.change.now c.in-Hold.holding c.in-Hold.is c.requires.follows.1).0 in
    (free.in_whole, (same_free b pools c.in-Hold.holding.thing c.requires.follows.2 free.in_whole).1 free)

pub free-requires : goal.free-requires
free-requires c =
    let pools = c.args.self.now in
    let b = c.requires.follows.0 in
    let held = freed_after pools.pairs.whole b c.args.change.now c.in-Free.holding c.in-Free.is c.requires.follows.1 in
    (held.in_whole, held_in b (after b c.args.change.now) pools c.in-Free.holding.thing c.requires.follows.2 held)

pub returns-in-Hold-clause-follows : goal.returns-in-Hold-clause-follows
returns-in-Hold-clause-follows c b f ok =
    pools_taken b (after b c.args.change.now) c.hold.ensures.taken (held_after c.args.self.now.pairs.whole b c.args.change.now c.in-Hold.holding c.in-Hold.is f).1 ok

pub returns-in-Free-clause-follows : goal.returns-in-Free-clause-follows
returns-in-Free-clause-follows c b f ok =
    pools_given b (after b c.args.change.now) c.free.ensures.given (freed_after c.args.self.now.pairs.whole b c.args.change.now c.in-Free.holding c.in-Free.is f) ok

pub returns-in_default-clause-follows : goal.returns-in_default-clause-follows
returns-in_default-clause-follows c b f ok = pools_stay c.args.self.now.pairs.whole b c.args.change.now c.args.self.now c.in_default.not-Hold c.in_default.not-Free f ok
