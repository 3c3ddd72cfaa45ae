use Rattle.std.proofs.Common.{◌≡◌, ◌≤◌, ◌+◌, length, false, ap, sym, subst, arith}
use Rattle.std.specs.VecDeque.{deque_len, deque_capacity}
use Rattle.std.proofs.lemmas.List.{length_push}
use Rattle.rtsp_roster.specs.Lines.{IsLine}
use Rattle.rtsp_roster.proofs.Lining.{pushed, when_ok, wider}
use Rattle.rtsp_roster.proofs.line.Line.make_room.Goals as goal

pub loop-count-preserved : goal.loop-count-preserved
loop-count-preserved c =
    let keys = c.loop-count.self-inside.keys.items in
    let holds = c.loop-count.self-inside.holds.items in
    let was = c.loop-count.invariant in
    let new = pushed c.push.result holds c.push.new.self.items (sym c.if-is_err-2.ensures.value) c.push.ensures.items in
    let room = when_ok c.reserve.result (sym c.if-is_err.ensures.value) c.reserve.ensures.ok in (
      subst (λ l. IsLine keys l) (sym new) (wider keys holds was.0),
      was.1,
      omega (arith, ap length new, length_push holds false, was.2),
      omega (
        arith,
        ap length new,
        length_push holds false,
        was.2,
        c.loop-count-test.true,
        room,
        c.saturating_sub-more.ensures,
        c.len.ensures,
        c.reserve.ensures.len,
        ap deque_capacity was.1,
      ),
    )
