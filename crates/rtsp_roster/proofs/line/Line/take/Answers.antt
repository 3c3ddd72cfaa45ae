use Rattle.std.proofs.Common.{◌<◌, ◌≡◌, ◌∷◌, length, set, false, sym, subst, arith}
use Rattle.std.proofs.lemmas.List.{length-set}
use Rattle.rtsp_roster.specs.Lines.{IsLine, times}
use Rattle.rtsp_roster.proofs.Lining.{first_there, has_mark, went}
use Rattle.rtsp_roster.proofs.line.Line.take.Goals as goal

pub index_mut-requires : goal.index_mut-requires
index_mut-requires c =
    let keys = c.self.inside.keys.items in
    let key = c.in_ok-key.key in
    omega (
      arith,
      has_mark keys c.self.inside.holds.items key c.self.invariant.0 (subst (λ l. 0 < times key l) (sym c.in_ok-key.ensures.items) (first_there key c.pop_front.new.self.items)),
      c.self.inside.holds.ok,
    )

pub invariant_of-self-2 : goal.invariant_of-self-2
invariant_of-self-2 c = (
  went c.self.inside.keys.items c.self.inside.holds.items c.in_ok-key.key c.pop_front.new.self.items c.in_ok-key.ensures.items c.self.invariant.0,
  omega (arith, length-set c.self.inside.holds.items c.in_ok-key.key false, c.self.invariant.1, c.pop_front.ensures.capacity),
)
