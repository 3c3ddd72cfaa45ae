-- What refused requests change, of what stays from one piece of input to the next: nothing.
use Rattle.std.specs.Prelude.{◌≡◌, ℕ, List, map}
use Rattle.rtsp_traits.specs.Devices.{Devices}
use Rattle.rtsp_engine.specs.Served.{Output}
use Rattle.rtsp_engine.specs.Serving.{Serving}
use Rattle.rtsp_dialect.specs.Repair.{understood}
use Rattle.rtsp_watch.specs.Understanding.{players_served}
use Rattle.rtsp_guard.specs.Guarding.{Kept}
use Rattle.rtsp_guard.specs.AtDesk.{NoneIsLetThrough}
use Rattle.rtsp_guard.specs.Quiet.{OnlyCounted}
use Rattle.rtsp_guard.specs.Understanding.{TakesPiece}

-- what is served, and what the seat has seen of the book and of its journal, are as they were, and the gate
pub record StaysServed (s t : Kept Serving) : Type 0 where
  pub serving : t.answerer ≡ s.answerer
  pub gate : OnlyCounted s.gate t.gate
  pub users : t.users ≡ s.users

-- Whatever piece comes, and whatever the players of the configuration mean by it: as long as no request in it is let through, no
-- connection learns of anything that it did.
abbrev pub PiecesChangeNothing : {B W C P S : Type 0} → Devices B W C P S → Type 0
PiecesChangeNothing d = (bytes rest : List ℕ) (s t : Output (Kept Serving)) (h : TakesPiece d bytes rest s t)
    → NoneIsLetThrough s.answerer.users s.answerer.gate (map (understood (players_served s.answerer.answerer)) h.items) → StaysServed s.answerer t.answerer
