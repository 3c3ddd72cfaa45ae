use Rattle.std.proofs.Common.{refl}
use Rattle.std.proofs.lemmas.Bool.{false≢true}
use Rattle.rtsp_roster.proofs.Rostering.{fresh_more, unqueued}
use Rattle.rtsp_roster.proofs.roster.Roster.note.Goals as goal

pub invariant_of-self : goal.invariant_of-self
invariant_of-self g c =
    let s = c.self.inside in
    let lives = c.if-contains.ensures.0 refl in
    let not_queued = rw (← c.self.view_is) at c.if-not-is_queued.ensures in
    let out = unqueued s.living s.fresh s.again c.args.key c.self.invariant (λ q. false≢true (not_queued.1 q)) in
    fresh_more s.living s.fresh s.again c.put.new.self c.args.key c.self.invariant lives out.0 out.1 c.put.ensures.room (c.put.ensures.put (c.self.invariant.fresh_room c.args.key lives) out.0)

pub returns-then-not-is_queued-clause-fresh : goal.returns-then-not-is_queued-clause-fresh
returns-then-not-is_queued-clause-fresh g c =
    let s = c.self.inside in
    let lives = c.if-contains.ensures.0 refl in
    let not_queued = rw (← c.self.view_is) at c.if-not-is_queued.ensures in
    let out = unqueued s.living s.fresh s.again c.args.key c.self.invariant (λ q. false≢true (not_queued.1 q)) in
    rw (← c.self.view_is) (record {
      room = c.put.ensures.room;
      put = λ l n. c.put.ensures.put (c.self.invariant.fresh_room c.args.key lives) out.0;
      queued = λ q. absurd (false≢true (not_queued.1 q));
      gone = λ n. absurd (n lives);
    })
