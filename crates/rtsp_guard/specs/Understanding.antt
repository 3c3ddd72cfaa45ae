-- How items are answered behind a gate where devices are lent for one piece of input at a time: what each means to the players of
-- the configuration is judged, and then answered or refused.
use Rattle.std.specs.Prelude.{◌≡◌, ◌⊎◌, ℕ, List}
use Rattle.rtsp_content.specs.TableValue.{TableValue}
use Rattle.rtsp_grammar.specs.declared.fault.MessageFault.{MessageFault}
use Rattle.rtsp_grammar.specs.declared.message.Item.{Item}
use Rattle.rtsp_credentials.specs.declared.gate.Gate.{Gate}
use Rattle.rtsp_credentials.specs.declared.users.Users.{Users}
use Rattle.rtsp_lock.specs.declared.seat.BookSeat.{BookSeat}
use Rattle.rtsp_state.specs.Room.{RoomText}
use Rattle.rtsp_traits.specs.Devices.{Devices}
use Rattle.rtsp_engine.specs.Numbers.{DrawsAlone, AnswersMeantDrawn}
use Rattle.rtsp_engine.specs.Served.{Line, Output, Answered, FaultedAfter, at}
use Rattle.rtsp_engine.specs.Serving.{Serving, AnswersFrom, GivesUpFrom, desk_serving, serving_of}
use Rattle.rtsp_engine.specs.Visiting.{Visits}
use Rattle.rtsp_engine.specs.declared.visiting.VisitEnd.{VisitEnd}
use Rattle.rtsp_engine.specs.declared.desk.Asker.{Asker}
use Rattle.rtsp_engine.specs.declared.desk.Desk.{Desk}
use Rattle.rtsp_dialect.specs.Repair.{understood}
use Rattle.rtsp_watch.specs.Understanding.{players_served}
use Rattle.rtsp_guard.specs.Guarding.{Kept, keeps, AnswersGuarded, GivesUpGuarded}

-- a desk's answers behind a gate are gathered in a room
abbrev pub serves : {R B W C P S N : Type 0} → Gate → Users → Desk R B W C P S N → RoomText → Output (Kept Serving)
serves gate users desk room = at room (keeps gate users (desk_serving desk))

-- answers behind a gate to this player, from this content, over this seat, are gathered in a room
abbrev pub gathered : Gate → Users → TableValue → Asker → BookSeat → RoomText → Output (Kept Serving)
gathered gate users table asker seat room = at room (keeps gate users (serving_of table asker seat))

-- an item that is judged and answered as it stands
abbrev pub as_it_is : Serving → Item → Item
as_it_is serving item = item

-- the seat behind a gate and all others of its lock use drawn numbers alone
abbrev pub IsAlone : Kept Serving → Type 0
IsAlone k = DrawsAlone k.answerer.view

module _ {B W C P S : Type 0} (d : Devices B W C P S) where
  -- what the item means is answered from what is served, if it is let through, and refused else
  abbrev pub AnswersUnderstood : Kept Serving → Item → List ℕ → Kept Serving → Type 0
  AnswersUnderstood old item bytes new = AnswersGuarded (AnswersFrom d) (GivesUpFrom d) old (understood (players_served old.answerer) item) bytes new

  -- memory ran out over it, perhaps before it was judged
  abbrev pub GivesUpUnderstood : Kept Serving → Item → Kept Serving → Type 0
  GivesUpUnderstood old item new = (new ≡ old) ⊎ GivesUpGuarded (AnswersFrom d) (GivesUpFrom d) old (understood (players_served old.answerer) item) new

  -- bytes were items and a rest, and the items were answered
  abbrev pub TakesPiece : List ℕ → List ℕ → Output (Kept Serving) → Output (Kept Serving) → Type 0
  TakesPiece bytes rest s t = Answered AnswersUnderstood GivesUpUnderstood bytes rest s t

  -- items were answered, and then there was a fault
  abbrev pub FaultsPiece : List ℕ → MessageFault → Output (Kept Serving) → Output (Kept Serving) → Type 0
  FaultsPiece bytes fault s t = FaultedAfter AnswersUnderstood GivesUpUnderstood bytes fault s t

  -- the same of an item, where of a SETUP that is refused nothing is left
  abbrev pub AnswersUnderstoodDrawn : Kept Serving → Item → List ℕ → Kept Serving → Type 0
  AnswersUnderstoodDrawn old item bytes new =
      AnswersGuarded (AnswersMeantDrawn d as_it_is) (GivesUpFrom d) old (understood (players_served old.answerer) item) bytes new

  -- where the seat and all others of its lock use drawn numbers alone they still do, and of the SETUPs that were refused nothing is left
  abbrev pub LeavesTaken : List ℕ → List ℕ → Output (Kept Serving) → Output (Kept Serving) → Type 0
  LeavesTaken bytes rest s t = IsAlone s.answerer → Answered AnswersUnderstoodDrawn GivesUpUnderstood bytes rest s t × IsAlone t.answerer

  -- so it is before a fault
  abbrev pub LeavesFaulted : List ℕ → MessageFault → Output (Kept Serving) → Output (Kept Serving) → Type 0
  LeavesFaulted bytes fault s t = IsAlone s.answerer → FaultedAfter AnswersUnderstoodDrawn GivesUpUnderstood bytes fault s t × IsAlone t.answerer

  -- and so it is over the visits of a connection
  abbrev pub VisitedDrawn : Type 0
  VisitedDrawn = (start rest : List ℕ) (end : VisitEnd) (s t : Line (Kept Serving)) → IsAlone s.output.answerer
      → Visits AnswersUnderstood GivesUpUnderstood start rest end s t → Visits AnswersUnderstoodDrawn GivesUpUnderstood start rest end s t × IsAlone t.output.answerer
