use Rattle.std.proofs.Common.{arith}
use Rattle.rtsp_lock.proofs.Keeping.{taking_free}
use Rattle.rtsp_lock.proofs.Knowing.{takes_it}
use Rattle.rtsp_lock.proofs.seat.BookSeat.try_once.Goals as goal

pub compare_exchange-found-requires : goal.compare_exchange-found-requires
compare_exchange-found-requires g c =
    (c.requires.own, omega (arith, c.args.lock.now.sized.0), takes_it _ _ _ _ _ _ (taking_free _ c.requires.held))
