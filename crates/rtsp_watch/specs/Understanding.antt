-- How the items of a connection are answered where devices are lent for one piece of input at a time: as rtsp_engine's Serving has it,
-- and each as the players of the configuration mean it.
use Rattle.std.specs.Prelude.{ℕ, List}
use Rattle.rtsp_content.specs.TableValue.{TableValue}
use Rattle.rtsp_content.specs.declared.server.Players.{Players}
use Rattle.rtsp_grammar.specs.declared.fault.MessageFault.{MessageFault}
use Rattle.rtsp_grammar.specs.declared.message.Item.{Item}
use Rattle.rtsp_lock.specs.declared.seat.BookSeat.{BookSeat}
use Rattle.rtsp_state.specs.Room.{RoomText}
use Rattle.rtsp_traits.specs.Devices.{Devices}
use Rattle.rtsp_engine.specs.DeskAnswers.{AnswersAt, GivesUpAt}
use Rattle.rtsp_engine.specs.Served.{Output, Answered, FaultedAfter, at}
use Rattle.rtsp_engine.specs.Numbers.{DrawsAlone, AnswersMeantDrawn}
use Rattle.rtsp_engine.specs.Serving.{Serving, AnswersFrom, GivesUpFrom, desk_serving, serving_of}
use Rattle.rtsp_engine.specs.declared.desk.Asker.{Asker}
use Rattle.rtsp_engine.specs.declared.desk.Desk.{Desk}
use Rattle.rtsp_dialect.specs.Repair.{understood}
use Rattle.rtsp_dialect.specs.Repairing.{TakesRepaired, FaultsRepaired}

-- whom the configuration is for
abbrev pub players_served : Serving → Players
players_served serving = serving.service.table.server.players

-- what an item means, from one of these players
abbrev pub meaning : Serving → Item → Item
meaning serving item = understood (players_served serving) item

-- a desk's answers are gathered in a room
abbrev pub serves : {R B W C P S N : Type 0} → Desk R B W C P S N → RoomText → Output Serving
serves desk room = at room (desk_serving desk)

-- answers to this player, from this content, over this seat, are gathered in a room
abbrev pub gathered : TableValue → Asker → BookSeat → RoomText → Output Serving
gathered table asker seat room = at room (serving_of table asker seat)

module _ {B W C P S : Type 0} (d : Devices B W C P S) where
  -- what the item means is answered with these bytes
  abbrev pub AnswersUnderstood : Serving → Item → List ℕ → Serving → Type 0
  AnswersUnderstood old item bytes new = AnswersFrom d old (understood (players_served old) item) bytes new

  -- memory ran out over it
  abbrev pub GivesUpUnderstood : Serving → Item → Serving → Type 0
  GivesUpUnderstood old item new = GivesUpFrom d old (understood (players_served old) item) new

  -- bytes were items and a rest, and the items were answered
  abbrev pub TakesPiece : List ℕ → List ℕ → Output Serving → Output Serving → Type 0
  TakesPiece bytes rest s t = Answered AnswersUnderstood GivesUpUnderstood bytes rest s t

  -- items were answered, and then there was a fault
  abbrev pub FaultsPiece : List ℕ → MessageFault → Output Serving → Output Serving → Type 0
  FaultsPiece bytes fault s t = FaultedAfter AnswersUnderstood GivesUpUnderstood bytes fault s t

  -- where the seat and all others of its lock use drawn numbers alone they still do, and of the SETUPs that were refused nothing is left
  abbrev pub LeavesTaken : List ℕ → List ℕ → Output Serving → Output Serving → Type 0
  LeavesTaken bytes rest s t =
      DrawsAlone s.answerer.view → Answered (AnswersMeantDrawn d meaning) GivesUpUnderstood bytes rest s t × DrawsAlone t.answerer.view

  -- so it is before a fault
  abbrev pub LeavesFaulted : List ℕ → MessageFault → Output Serving → Output Serving → Type 0
  LeavesFaulted bytes fault s t =
      DrawsAlone s.answerer.view → FaultedAfter (AnswersMeantDrawn d meaning) GivesUpUnderstood bytes fault s t × DrawsAlone t.answerer.view

-- a desk whose requests are repaired
module _ {R B W C P S N : Type 0} (d : Devices B W C P S) where
  abbrev pub TakesAt : List ℕ → List ℕ → Output (Desk R B W C P S N) → Output (Desk R B W C P S N) → Type 0
  TakesAt bytes rest s t = TakesRepaired (AnswersAt d) (GivesUpAt d) bytes rest s t

  abbrev pub FaultsAt : List ℕ → MessageFault → Output (Desk R B W C P S N) → Output (Desk R B W C P S N) → Type 0
  FaultsAt bytes fault s t = FaultsRepaired (AnswersAt d) (GivesUpAt d) bytes fault s t
