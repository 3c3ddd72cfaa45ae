use Rattle.std.proofs.Common.{arith, ◌∙◌}
use Rattle.std.proofs.Math.Nat.{suc-ne-zero}
use Rattle.rtsp_lock.proofs.Knowing.{takes_it}
use Rattle.rtsp_lock.proofs.seat.BookSeat.wait.Goals as goal

pub swap-found-requires : goal.swap-found-requires
swap-found-requires g c =
    (c.try_for_a_while.ensures.same.0 ∙ (c.loop.invariant.0.0 ∙ c.requires), omega (arith, c.args.lock.now.sized.0), takes_it _ _ _ _ _ _ (λ _. suc-ne-zero 1))
