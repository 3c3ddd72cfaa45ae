use Rattle.std.proofs.Common.{◌∙◌, ◌∷◌, subst, sym, arith}
use Rattle.rtsp_record.specs.Rules.{IsAddress}
use Rattle.rtsp_lock.specs.Calls.{seat_view}
use Rattle.rtsp_lock.proofs.Naming.{use_still}
use Rattle.rtsp_admit.specs.Runs.{state_of}
use Rattle.rtsp_admit.proofs.Breaking.{is_ports}
use Rattle.rtsp_admit.proofs.Choosing.{held_from, tries_above}
use Rattle.rtsp_admit.proofs.ports.grant_ports.Goals as goal

pub try_ports-requires-clause-number : goal.try_ports-requires-clause-number
try_ports-requires-clause-number g c =
    use_still g.N.Numbers.drawn (seat_view c.args.seat.now) (seat_view c.loop-first.seat) c.args.ask.now.admission c.loop-first.invariant.drawn c.requires.number

pub returns-in-Bound-clause-ok : goal.returns-in-Bound-clause-ok
returns-in-Bound-clause-ok g c =
    let was = c.loop-first.invariant in
    record {
      first = c.in-Bound.first;
      is = c.thing.ensures;
      tried = was.tried;
      from = c.loop-first.from;
      between = state_of c.loop-first.seat c.loop-first.binder;
      tries = was.tries;
      last = c.in-Bound.ensures.tried;
    }

pub returns-in-Bound-clause-address : goal.returns-in-Bound-clause-address
returns-in-Bound-clause-address g c = subst IsAddress (sym c.thing.ensures) (is_ports c.args.kind c.in-Bound.first)

pub loop-first-preserved : goal.loop-first-preserved
loop-first-preserved g c =
    let was = c.loop-first.invariant in
    let same = c.try_ports.ensures.same in
    record {
      same = (same.0 ∙ was.same.0, same.1 ∙ was.same.1);
      drawn = c.try_ports.ensures.drawn ∙ was.drawn;
      tried = c.in-Returned.first ∷ was.tried;
      tries = record {
        start = c.loop-first.from;
        between = state_of c.loop-first.seat c.loop-first.binder;
        before = was.tries;
        returned = c.in-Returned.ensures.tried;
        next = c.next_above-from.ensures;
      };
    }

pub loop-first-smaller : goal.loop-first-smaller
loop-first-smaller g c =
    let tried = c.in-Returned.ensures.tried in
    let up = held_from c.args.ask.now c.args.kind c.loop-first.from c.in-Returned.first (seat_view c.loop-first.seat) tried.between tried.held in
    let above = tries_above c.args.kind c.in-Returned.first in
    let is = c.next_above-from.ensures in
    let below = c.next_above-from.type_inv in
    omega (arith, up, above, is, below)

pub returns-in-Refused-clause-err : goal.returns-in-Refused-clause-err
returns-in-Refused-clause-err g c =
    let was = c.loop-first.invariant in
    record { tried = was.tried; from = c.loop-first.from; between = state_of c.loop-first.seat c.loop-first.binder; tries = was.tries; last = c.in-Refused.ensures.tried }
