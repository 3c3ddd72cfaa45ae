-- What refused requests change: nothing.
use Rattle.std.specs.Prelude.{◌≡◌, ◌≤◌, ℕ, List}
use Rattle.rtsp_traits.specs.Devices.{Devices}
use Rattle.rtsp_grammar.specs.declared.message.Item.TheVariants as items
use Rattle.rtsp_grammar.specs.declared.message.Request.{Request}
use Rattle.rtsp_credentials.specs.declared.gate.Gate.{Gate}
use Rattle.rtsp_engine.specs.Desk.{state}
use Rattle.rtsp_engine.specs.DeskAnswers.{AnswersAt, GivesUpAt}
use Rattle.rtsp_engine.specs.Served.{Output}
use Rattle.rtsp_engine.specs.declared.desk.Desk.{Desk}
use Rattle.rtsp_guard.specs.Estranging.{IsEstranged}
use Rattle.rtsp_guard.specs.Guarding.{Kept, Reaches}
use Rattle.rtsp_guard.specs.AtDesk.{NoneIsLetThrough, TakesAtDesk}

-- the gate is as it was, but that it may have counted wrong responses
pub record OnlyCounted (old new : Gate) : Type 0 where
  pub same : new ≡ (record old { wrong = new.wrong })
  pub more : old.wrong ≤ new.wrong

-- the desk's parts are as they were, and the gate
pub record Unchanged {R B W C P S N : Type 0} (s t : Kept (Desk R B W C P S N)) : Type 0 where
  pub state : state t.answerer ≡ state s.answerer
  pub gate : OnlyCounted s.gate t.gate
  pub users : t.users ≡ s.users

-- Whatever bytes come, as long as no request among them is let through, the desk stays as it was: what the seat knows of the
-- book and of its journal, the binder of ports, the source of words, the clock, the plays and the shares; and so does the gate,
-- but for how many responses were wrong.
module _ (R N : Type 0) {B W C P S : Type 0} where
  abbrev pub ChangesNothing : Devices B W C P S → Type 0
  ChangesNothing d = (bytes rest : List ℕ) (s t : Output (Kept (Desk R B W C P S N))) (h : TakesAtDesk d bytes rest s t)
      → NoneIsLetThrough s.answerer.users s.answerer.gate h.items → Unchanged s.answerer t.answerer

  -- So it is after a request that named a session of another user, but that its count was taken: the desk refuses it before it looks
  -- any session up, and reads no clock.
  abbrev pub StrangersChangeNothing : Devices B W C P S → Type 0
  StrangersChangeNothing d = (gate : Gate) (s t : Kept (Desk R B W C P S N)) (request seen : Request) (bytes : List ℕ) → IsEstranged request seen
      → Reaches (AnswersAt d) (GivesUpAt d) gate s (items.Request seen) bytes t → state t.answerer ≡ state s.answerer
