use Rattle.std.proofs.Common.{arith}
use Rattle.rtsp_lock.proofs.Knowing.{gives_undrawn}
use Rattle.rtsp_lock.proofs.seat.BookSeat.release_undrawn.Goals as goal

pub swap-found-requires : goal.swap-found-requires
swap-found-requires g c =
    let sized = c.args.lock.now.sized in
    (c.requires.own, omega (arith, sized.0), gives_undrawn _ _ _ _ _ sized.1 c.requires.holds c.requires.legal c.requires.value)
