use Rattle.std.proofs.Common.{refl}
use Rattle.std.proofs.lemmas.Bool.{false≢true}
use Rattle.rtsp_roster.proofs.Rostering.{fresh_more, turned, unqueued}
use Rattle.rtsp_roster.proofs.roster.Roster.queue.Goals as goal

pub invariant_of-self : goal.invariant_of-self
invariant_of-self g c =
    let s = c.self.inside in
    let lives = c.if-contains.ensures.0 refl in
    let not_queued = rw (← c.self.view_is) at c.if-not-is_queued.ensures in
    let out = unqueued s.living s.fresh s.again c.args.key c.self.invariant (λ q. false≢true (not_queued.1 q)) in
    turned s.living c.put.new.self s.fresh
    (fresh_more s.living s.again s.fresh c.put.new.self c.args.key (turned s.living s.fresh s.again c.self.invariant) lives out.1 out.0 c.put.ensures.room (c.put.ensures.put (c.self.invariant.again_room c.args.key lives) out.1))

pub returns-then-not-is_queued-clause-again : goal.returns-then-not-is_queued-clause-again
returns-then-not-is_queued-clause-again g c =
    let s = c.self.inside in
    let lives = c.if-contains.ensures.0 refl in
    let not_queued = rw (← c.self.view_is) at c.if-not-is_queued.ensures in
    let out = unqueued s.living s.fresh s.again c.args.key c.self.invariant (λ q. false≢true (not_queued.1 q)) in
    rw (← c.self.view_is) (record {
      room = c.put.ensures.room;
      put = λ l n. c.put.ensures.put (c.self.invariant.again_room c.args.key lives) out.1;
      queued = λ q. absurd (false≢true (not_queued.1 q));
      gone = λ n. absurd (n lives);
    })
