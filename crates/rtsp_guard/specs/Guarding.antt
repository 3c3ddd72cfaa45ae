-- How the items of a connection are answered behind its gate.
use Rattle.std.specs.Prelude.{◌≡◌, ◌⊎◌, ℕ, List, Result, Ok, Err}
use Rattle.rtsp_grammar.specs.declared.fault.MessageFault.{MessageFault}
use Rattle.rtsp_grammar.specs.declared.message.Item.{Item}
use Rattle.rtsp_grammar.specs.declared.message.Item.TheVariants as items
use Rattle.rtsp_grammar.specs.declared.message.Request.{Request}
use Rattle.rtsp_credentials.specs.declared.gate.Gate.{Gate}
use Rattle.rtsp_credentials.specs.declared.users.Users.{Users}
use Rattle.rtsp_credentials.specs.declared.refusal.Refusal.{Refusal}
use Rattle.rtsp_credentials.specs.Verdict.{passed, after}
use Rattle.rtsp_engine.specs.Served.{Output, Answered, FaultedAfter}
use Rattle.rtsp_guard.specs.Estranging.{IsTakenAs}
use Rattle.rtsp_guard.specs.Refusing.{refusal_text}
use Rattle.rtsp_guard.specs.declared.guarding.Guarded.{Guarded}

-- a gate, its users, and who answers behind it
pub record Kept (A : Type 0) : Type 0 where
  pub gate : Gate
  pub users : Users
  pub answerer : A

abbrev pub keeps : {A : Type 0} → Gate → Users → A → Kept A
keeps gate users answerer = record { gate = gate; users = users; answerer = answerer }

-- after a refusal: the gate may have counted it, and nothing else has happened
abbrev pub turned : {A : Type 0} → Refusal → Kept A → Kept A
turned refusal old = keeps (after refusal old.gate) old.users old.answerer

-- what is lent, as it is kept
abbrev pub of : {A P : Type 0} → Guarded A P → Kept A
of s = keeps s.gate s.users.now s.answerer.now

module _ {A : Type 0} (Answers : A → Item → List ℕ → A → Type 0) (GivesUp : A → Item → A → Type 0) where
  -- an item is answered by him behind the gate, which is then this one
  pub record Reaches (gate : Gate) (old : Kept A) (item : Item) (bytes : List ℕ) (new : Kept A) : Type 0 where
    pub answers : Answers old.answerer item bytes new.answerer
    pub goes_on : new.gate ≡ gate
    pub users : new.users ≡ old.users

  pub record GivesUpAt (gate : Gate) (old : Kept A) (item : Item) (new : Kept A) : Type 0 where
    pub gives_up : GivesUp old.answerer item new.answerer
    pub goes_on : new.gate ≡ gate
    pub users : new.users ≡ old.users

  -- A request that is let through is answered as it is; but where the porter says so, as one of a session that no server has, or
  -- about a name that nobody serves. Which requests these are is the porter's to know.
  pub record Passes (gate : Gate) (old : Kept A) (request : Request) (bytes : List ℕ) (new : Kept A) : Type 0 where
    pub seen : Request
    pub taken : IsTakenAs request seen
    pub reaches : Reaches gate old (items.Request seen) bytes new

  pub record GivesUpPassed (gate : Gate) (old : Kept A) (request : Request) (new : Kept A) : Type 0 where
    pub seen : Request
    pub taken : IsTakenAs request seen
    pub gives_up : GivesUpAt gate old (items.Request seen) new

  -- By the verdict: a request that is let through is answered, and the gate goes on as it then is; one that isn't is refused,
  -- and who answers is as he was.
  abbrev pub AnswersBy : Result Gate Refusal → Kept A → Request → List ℕ → Kept A → Type 0
  AnswersBy (Ok gate) old request bytes new = Passes gate old request bytes new
  AnswersBy (Err refusal) old request bytes new = (bytes ≡ refusal_text old.users old.gate refusal request) × (new ≡ turned refusal old)

  -- memory ran out over it, perhaps before anything was done
  abbrev pub GivesUpBy : Result Gate Refusal → Kept A → Request → Kept A → Type 0
  GivesUpBy (Ok gate) old request new = (new ≡ old) ⊎ GivesUpPassed gate old request new
  GivesUpBy (Err refusal) old request new = new ≡ turned refusal old

  abbrev pub AnswersGuarded : Kept A → Item → List ℕ → Kept A → Type 0
  AnswersGuarded old (items.Request request) bytes new = AnswersBy (passed old.users old.gate request) old request bytes new
  AnswersGuarded old (items.Response response) bytes new = Reaches old.gate old (items.Response response) bytes new
  AnswersGuarded old (items.Frame frame) bytes new = Reaches old.gate old (items.Frame frame) bytes new

  abbrev pub GivesUpGuarded : Kept A → Item → Kept A → Type 0
  GivesUpGuarded old (items.Request request) new = GivesUpBy (passed old.users old.gate request) old request new
  GivesUpGuarded old (items.Response response) new = GivesUpAt old.gate old (items.Response response) new
  GivesUpGuarded old (items.Frame frame) new = GivesUpAt old.gate old (items.Frame frame) new

  -- bytes were items and a rest, and the items were answered behind the gate
  abbrev pub TakesGuarded : List ℕ → List ℕ → Output (Kept A) → Output (Kept A) → Type 0
  TakesGuarded bytes rest s t = Answered AnswersGuarded GivesUpGuarded bytes rest s t

  -- the same, and then there was a fault
  abbrev pub FaultsGuarded : List ℕ → MessageFault → Output (Kept A) → Output (Kept A) → Type 0
  FaultsGuarded bytes fault s t = FaultedAfter AnswersGuarded GivesUpGuarded bytes fault s t

-- the same of what is lent
module _ {A P : Type 0} (Answers : A → Item → List ℕ → A → Type 0) (GivesUp : A → Item → A → Type 0) where
  abbrev pub AnswersBehind : Guarded A P → Item → List ℕ → Guarded A P → Type 0
  AnswersBehind old item bytes new = AnswersGuarded Answers GivesUp (of old) item bytes (of new) × (new.answerer.ghost_name ≡ old.answerer.ghost_name)

  abbrev pub GivesUpBehind : Guarded A P → Item → Guarded A P → Type 0
  GivesUpBehind old item new = GivesUpGuarded Answers GivesUp (of old) item (of new) × (new.answerer.ghost_name ≡ old.answerer.ghost_name)
