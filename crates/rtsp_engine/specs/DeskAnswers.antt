-- How the items of a connection are answered from a desk, which stays the same in its parts.
use Rattle.std.specs.Prelude.{ℕ, List, Option}
use Rattle.rtsp_grammar.specs.declared.fault.MessageFault.{MessageFault}
use Rattle.rtsp_grammar.specs.declared.message.Item.{Item}
use Rattle.rtsp_engine.specs.Conversing.{Answers, GivesUp}
use Rattle.rtsp_engine.specs.Desk.{state, service, SameParts}
use Rattle.rtsp_traits.specs.Devices.{Devices}
use Rattle.rtsp_engine.specs.Served.{Output, Parts, Answered, FaultedAfter, Ends}
use Rattle.rtsp_engine.specs.declared.desk.Desk.{Desk}
use Rattle.rtsp_engine.specs.declared.serving.ServeEnd.{ServeEnd}

module _ {R B W C P S N : Type 0} (d : Devices B W C P S) where
  -- an item is answered with these bytes
  abbrev pub AnswersAt : Desk R B W C P S N → Item → List ℕ → Desk R B W C P S N → Type 0
  AnswersAt old item bytes new = Answers d (service old) item bytes (state old) (state new) × SameParts old new

  -- memory ran out over an item
  abbrev pub GivesUpAt : Desk R B W C P S N → Item → Desk R B W C P S N → Type 0
  GivesUpAt old item new = GivesUp d (service old) item (state old) (state new) × SameParts old new

  -- bytes were items and a rest, and the items were answered
  abbrev pub Takes : List ℕ → List ℕ → Output (Desk R B W C P S N) → Output (Desk R B W C P S N) → Type 0
  Takes bytes rest s t = Answered AnswersAt GivesUpAt bytes rest s t

  -- items were answered, and then there was a fault
  abbrev pub Faults : List ℕ → MessageFault → Output (Desk R B W C P S N) → Output (Desk R B W C P S N) → Type 0
  Faults bytes fault s t = FaultedAfter AnswersAt GivesUpAt bytes fault s t

  -- how a connection has ended
  abbrev pub EndsAt : {I O : Type 0} → (I → Option (List ℕ)) → (O → Option (List ℕ)) → ServeEnd → Parts I O (Desk R B W C P S N) → Parts I O (Desk R B W C P S N) → Type 0
  EndsAt remaining contents end s t = Ends AnswersAt GivesUpAt remaining contents end s t
