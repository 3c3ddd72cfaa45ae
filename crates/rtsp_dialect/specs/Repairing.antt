-- How the items of a connection are answered by one who answers repaired requests.
use Rattle.std.specs.Prelude.{◌≡◌, ◌⊎◌, ℕ, List}
use Rattle.rtsp_grammar.specs.declared.fault.MessageFault.{MessageFault}
use Rattle.rtsp_grammar.specs.declared.message.Item.{Item}
use Rattle.rtsp_grammar.specs.declared.message.Item.TheVariants as items
use Rattle.rtsp_engine.specs.Served.{Output, Answered, FaultedAfter}
use Rattle.rtsp_dialect.specs.Repair.{repaired, repaired_item}
use Rattle.rtsp_dialect.specs.declared.repairing.Repairing.{Repairing}

module _ {A : Type 0} (Answers : A → Item → List ℕ → A → Type 0) (GivesUp : A → Item → A → Type 0) where
  -- the repaired item is answered
  abbrev pub AnswersRepaired : A → Item → List ℕ → A → Type 0
  AnswersRepaired old item bytes new = Answers old (repaired_item item) bytes new

  -- the repaired item is given up; or there was no memory for the repair of a request, and nothing was done
  abbrev pub GivesUpRepaired : A → Item → A → Type 0
  GivesUpRepaired old (items.Request request) new = (new ≡ old) ⊎ GivesUp old (items.Request (repaired request)) new
  GivesUpRepaired old (items.Response response) new = GivesUp old (items.Response response) new
  GivesUpRepaired old (items.Frame frame) new = GivesUp old (items.Frame frame) new

  -- the same of one who repairs before another answers, who stays the other one
  abbrev pub AnswersBehind : Repairing A → Item → List ℕ → Repairing A → Type 0
  AnswersBehind old item bytes new = AnswersRepaired old.answerer.now item bytes new.answerer.now × (new.answerer.ghost_name ≡ old.answerer.ghost_name)

  abbrev pub GivesUpBehind : Repairing A → Item → Repairing A → Type 0
  GivesUpBehind old item new = GivesUpRepaired old.answerer.now item new.answerer.now × (new.answerer.ghost_name ≡ old.answerer.ghost_name)

  abbrev pub TakesBehind : List ℕ → List ℕ → Output (Repairing A) → Output (Repairing A) → Type 0
  TakesBehind bytes rest s t = Answered AnswersBehind GivesUpBehind bytes rest s t

  abbrev pub FaultsBehind : List ℕ → MessageFault → Output (Repairing A) → Output (Repairing A) → Type 0
  FaultsBehind bytes fault s t = FaultedAfter AnswersBehind GivesUpBehind bytes fault s t

  -- bytes were items and a rest, and the repaired items were answered
  abbrev pub TakesRepaired : List ℕ → List ℕ → Output A → Output A → Type 0
  TakesRepaired bytes rest s t = Answered AnswersRepaired GivesUpRepaired bytes rest s t

  -- repaired items were answered, and then there was a fault
  abbrev pub FaultsRepaired : List ℕ → MessageFault → Output A → Output A → Type 0
  FaultsRepaired bytes fault s t = FaultedAfter AnswersRepaired GivesUpRepaired bytes fault s t
