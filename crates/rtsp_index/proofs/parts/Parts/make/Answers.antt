use Rattle.std.proofs.Common.{arith}
use Rattle.rtsp_index.specs.Agreeing.{book_in}
use Rattle.rtsp_index.proofs.AgreeLemmas.{follows, follows_in, fits, made, room_if_open}
use Rattle.rtsp_index.proofs.parts.Parts.make.Goals as goal

pub follow-requires-clause-follows : goal.follow-requires-clause-follows
follow-requires-clause-follows c =
    let p = c.args.self.now in
    (book_in p, follows_in p.whole (book_in p) p.pools p.names p.counts c.args.change.now c.requires.agree c.requires.allowed, c.requires.agree.pools)

pub follow-requires-3-clause-follows : goal.follow-requires-3-clause-follows
follow-requires-3-clause-follows c =
    let p = c.args.self.now in
    record {
      whole = p.whole;
      small = c.requires.agree.small;
      book = book_in p;
      follows = follows p.whole (book_in p) p.pools p.names p.counts c.args.change.now c.requires.agree c.requires.allowed;
      holds = c.requires.agree.counts;
    }

pub make-requires-clause-fits : goal.make-requires-clause-fits
make-requires-clause-fits c =
    let p = c.args.self.now in
    fits p.whole (book_in p) c.args.change.now c.requires.agree.sound c.requires.allowed

pub make-requires-clause-room : goal.make-requires-clause-room
make-requires-clause-room c = room_if_open c.args.self.now.sessions c.args.change.now c.requires.room.rows

pub returns-clause-agree : goal.returns-clause-agree
returns-clause-agree c =
    let p = c.args.self.now in
    let b = book_in p in
    let r = c.args.change.now in
    let after_it = follows p.whole b p.pools p.names p.counts r c.requires.agree c.requires.allowed in
    made p.whole b _ p.pools _ p.names _ p.counts _ r c.requires.agree c.requires.allowed c.make.ensures.table c.follow.ensures.whole
    (c.follow.ensures.follows b (follows_in p.whole b p.pools p.names p.counts r c.requires.agree c.requires.allowed) c.requires.agree.pools)
    (c.follow-2.ensures.follows p.whole b after_it c.requires.agree.names)
    (c.follow-3.ensures.follows p.whole b after_it c.requires.agree.counts)

pub returns-clause-room : goal.returns-clause-room
returns-clause-room c i j k h =
    record {
      rows = c.make.ensures.room i h.rows;
      ids = omega (arith, h.ids, c.follow-2.ensures.ids);
      startups = omega (arith, h.startups, c.follow-2.ensures.startups);
      chans = omega (arith, h.chans, c.follow.ensures.room);
      bindings = omega (arith, h.bindings, c.follow-3.ensures.room);
    }
