-- The numbers under which a connection's seat holds and adds; and what is left of a SETUP that was refused.
use Rattle.std.specs.Prelude.{◌≡◌, ℕ, true, List, Option, Ok, Err}
use mathlib.Core.Logic.{inl, inr}
use Rattle.rtsp_grammar.specs.declared.fault.MessageFault.{MessageFault}
use Rattle.rtsp_grammar.specs.declared.message.Item.{Item}
use Rattle.rtsp_grammar.specs.declared.message.Item.TheVariants as items
use Rattle.rtsp_grammar.specs.declared.message.Request.{Request}
use Rattle.rtsp_grammar.specs.declared.message.Response.{Response}
use Rattle.rtsp_record.specs.declared.holdings.Whole.{Whole}
use Rattle.rtsp_record.specs.Books.{Session}
use Rattle.rtsp_lock.specs.declared.view.View.{View}
use Rattle.rtsp_lock.specs.Calls.{seat_view, Made}
use Rattle.rtsp_lock.specs.Rule.{first_view}
use Rattle.rtsp_lock.specs.Numbers.{UsesDrawn}
use Rattle.rtsp_book.specs.declared.asks.Ask.{Ask}
use Rattle.rtsp_admit.specs.Refused.{LeftNothing, LeftNothingEver}
use Rattle.rtsp_admit.specs.Numbers.{OwnsAll}
use Rattle.rtsp_state.specs.declared.plan.Plan.{Plan}
use Rattle.rtsp_state.specs.declared.plan.Plan.TheVariants as plans
use Rattle.rtsp_state.specs.declared.request.Screen.{Screen}
use Rattle.rtsp_state.specs.declared.request.Screen.TheVariants as screens
use Rattle.rtsp_state.specs.declared.setup_plan.SetupPlan.{SetupPlan}
use Rattle.rtsp_state.specs.ParsedRequest.{ParsedValue}
use Rattle.rtsp_state.specs.Screen.{screen}
use Rattle.rtsp_state.specs.SetupPlan.{ask_of}
use Rattle.rtsp_state.specs.StateTable.{decide}
use Rattle.rtsp_engine.specs.Conducting.{drawn_with, SetsUp, Conducts}
use Rattle.rtsp_engine.specs.Conversing.{RespondsFound, RespondsScreened, Responds, Lacks, Answers}
use Rattle.rtsp_engine.specs.Desk.{Service, State, state, service}
use Rattle.rtsp_engine.specs.DeskAnswers.{AnswersAt, GivesUpAt, Takes, Faults}
use Rattle.rtsp_traits.specs.Devices.{Devices}
use Rattle.rtsp_engine.specs.Served.{Output, Line, Parts, Answered, FaultedAfter, EndsFrom, Ends}
use Rattle.rtsp_engine.specs.declared.conducting.SetUp.{SetUp}
use Rattle.rtsp_engine.specs.declared.conducting.SetUp.TheVariants.{NoShare, NoWord, NoNumber, Tried}
use Rattle.rtsp_engine.specs.declared.desk.Asker.{Asker}
use Rattle.rtsp_engine.specs.declared.desk.Desk.{Desk}
use Rattle.rtsp_engine.specs.Serving.{Serving, AnswersMeant, GivesUpMeant}
use Rattle.rtsp_engine.specs.Visiting.{Visits}
use Rattle.rtsp_engine.specs.declared.serving.ServeEnd.{ServeEnd}
use Rattle.rtsp_engine.specs.declared.visiting.VisitEnd.{VisitEnd}

-- a seat that holds and adds under no numbers but those that it drew still does so
abbrev pub KeepsNumbers : View → View → Type 0
KeepsNumbers v u = UsesDrawn v → UsesDrawn u

-- all seats of its lock hold and add under numbers that they drew, as this one has done
pub record DrawsAlone (v : View) : Type 0 where
  pub lock : v.numbers_drawn ≡ true
  pub own : UsesDrawn v

module _ {R B W C P S N : Type 0} where
  -- the desk's seat is the only one of its lock, and owns all that stands
  abbrev pub SeatOwnsAll : Desk R B W C P S N → Type 0
  SeatOwnsAll desk = OwnsAll (seat_view desk.seat.now)

  -- the desk's seat and all others of its lock use drawn numbers alone
  abbrev pub SeatDrawsAlone : Desk R B W C P S N → Type 0
  SeatDrawsAlone desk = DrawsAlone (seat_view desk.seat.now)

  -- the desk's seat holds and adds under drawn numbers still
  abbrev pub DeskKeepsNumbers : Desk R B W C P S N → Desk R B W C P S N → Type 0
  DeskKeepsNumbers s t = KeepsNumbers (seat_view s.seat.now) (seat_view t.seat.now)

module _ {B W C P S : Type 0} (d : Devices B W C P S) (Left : Ask → View → View → Type 0) where
  -- of a track that was to be set up this is left where its admission was refused
  abbrev pub SetupLeaves : (conn : ℕ) (plan : SetupPlan) (outcome : SetUp) (s t : State B W C P S) → SetsUp d conn plan outcome s t → Type 0
  SetupLeaves conn plan NoShare s t run = Unit {0}
  SetupLeaves conn plan (NoWord at) s t run = Unit {0}
  SetupLeaves conn plan (NoNumber at) s t run = Unit {0}
  SetupLeaves conn plan (Tried n (Ok granted)) s t run = Unit {0}
  SetupLeaves conn plan (Tried n (Err refusal)) s t run = Left (ask_of plan (drawn_with conn run.given n)) run.between t.view

  -- so it is with a plan
  abbrev pub PlanLeaves : (asker : Asker) (uri : List ℕ) (plan : Plan) (response : Response) (s t : State B W C P S)
      → Conducts d asker uri plan response s t → Type 0
  PlanLeaves asker uri (plans.Answer given) response s t run = Unit {0}
  PlanLeaves asker uri (plans.Step plan) response s t run = Unit {0}
  PlanLeaves asker uri (plans.Admit plan) response s t run = SetupLeaves asker.conn plan run.outcome s t run.comes

  module _ (service : Service) where
    -- with a request whose session was found
    abbrev pub FoundLeaves : (uri : List ℕ) (request : ParsedValue) (found : Option (ℕ × Session)) (moment : ℕ) (response : Response) (s t : State B W C P S)
        → RespondsFound d service uri request found moment response s t → Type 0
    FoundLeaves uri request found moment response s t (inl run) =
        PlanLeaves service.asker uri (decide service.table request run.again service.asker.peer moment) response run.mid t run.conducts
    FoundLeaves uri request found moment response s t (inr refused) = Unit {0}

    -- with a request
    abbrev pub ResponseLeaves : (uri : List ℕ) (screened : Screen) (response : Response) (s t : State B W C P S)
        → RespondsScreened d service uri screened response s t → Type 0
    ResponseLeaves uri (screens.Answered given) response s t run = Unit {0}
    ResponseLeaves uri (screens.Asks request) response s t run = FoundLeaves uri request run.found run.moment response run.mid t run.goes_on

    -- with an item
    abbrev pub ItemLeaves : (item : Item) (bytes : List ℕ) (s t : State B W C P S) → Answers d service item bytes s t → Type 0
    ItemLeaves (items.Request request) bytes s t run = ResponseLeaves request.uri (screen service.table request) run.0 s t run.1
    ItemLeaves (items.Response response) bytes s t run = Unit {0}
    ItemLeaves (items.Frame frame) bytes s t run = Unit {0}

  -- what an item means is answered with these bytes, from devices as they are then, and of a SETUP that is refused this is left
  abbrev pub AnswersMeantCleanly : (Serving → Item → Item) → Serving → Item → List ℕ → Serving → Type 0
  AnswersMeantCleanly meant old item bytes new =
      (run : AnswersMeant d meant old item bytes new) × ItemLeaves old.service (meant old item) bytes run.before run.after run.answers

  module _ {R N : Type 0} where
    -- an item is answered with these bytes, and of a SETUP that is refused this is left
    abbrev pub AnswersCleanly : Desk R B W C P S N → Item → List ℕ → Desk R B W C P S N → Type 0
    AnswersCleanly old item bytes new =
        (run : AnswersAt d old item bytes new) × ItemLeaves (service old) item bytes (state old) (state new) run.0

    -- the same of all items of a connection, of which this is the end
    abbrev pub EndsCleanly : {I O : Type 0} → (I → Option (List ℕ)) → (O → Option (List ℕ)) → ServeEnd → Parts I O (Desk R B W C P S N) → Parts I O (Desk R B W C P S N) → Type 0
    EndsCleanly remaining contents end s t = Ends AnswersCleanly (GivesUpAt d) remaining contents end s t

module _ {B W C P S : Type 0} (d : Devices B W C P S) (R N : Type 0) where
  -- over a request that is answered, or for which memory ran out, and over a connection its seat holds and adds under drawn numbers still
  pub record ServedKeepsNumbers : Type 0 where
    pub responded : (service : Service) (request : Request) (response : Response) (s t : State B W C P S)
        → Responds d service request response s t → KeepsNumbers s.view t.view
    pub lacked : (service : Service) (request : Request) (s t : State B W C P S) → Lacks d service request s t → KeepsNumbers s.view t.view
    pub answered : (bytes rest : List ℕ) (s t : Output (Desk R B W C P S N)) → Takes d bytes rest s t → DeskKeepsNumbers s.answerer t.answerer
    pub faulted : (bytes : List ℕ) (fault : MessageFault) (s t : Output (Desk R B W C P S N)) → Faults d bytes fault s t → DeskKeepsNumbers s.answerer t.answerer
    pub ended : (start : List ℕ) (end : ServeEnd) (s t : Line (Desk R B W C P S N)) → EndsFrom (AnswersAt d) (GivesUpAt d) start end s t
        → DeskKeepsNumbers s.output.answerer t.output.answerer

module _ {B W C P S : Type 0} (d : Devices B W C P S) (R N : Type 0) (Left : Ask → View → View → Type 0) (Is : View → Type 0) where
  -- over a connection whose seat is so, it stays so, and of the SETUPs that are refused this is left
  pub record ServedLeaving : Type 0 where
    pub answered : (bytes rest : List ℕ) (s t : Output (Desk R B W C P S N)) → Is (seat_view s.answerer.seat.now) → Takes d bytes rest s t
        → Answered (AnswersCleanly d Left) (GivesUpAt d) bytes rest s t × Is (seat_view t.answerer.seat.now)
    pub faulted : (bytes : List ℕ) (fault : MessageFault) (s t : Output (Desk R B W C P S N)) → Is (seat_view s.answerer.seat.now) → Faults d bytes fault s t
        → FaultedAfter (AnswersCleanly d Left) (GivesUpAt d) bytes fault s t × Is (seat_view t.answerer.seat.now)
    pub ended : (start : List ℕ) (end : ServeEnd) (s t : Line (Desk R B W C P S N)) → Is (seat_view s.output.answerer.seat.now) → EndsFrom (AnswersAt d) (GivesUpAt d) start end s t
        → EndsFrom (AnswersCleanly d Left) (GivesUpAt d) start end s t × Is (seat_view t.output.answerer.seat.now)

module _ {B W C P S : Type 0} (d : Devices B W C P S) (R N : Type 0) where
  -- over a connection whose seat is the only one of its lock nothing is left of the SETUPs that are refused
  abbrev pub ServedCleanly : Type 0
  ServedCleanly = ServedLeaving d R N LeftNothing OwnsAll

  -- nor is anything where all seats use drawn numbers alone, in the history either
  abbrev pub ServedDrawn : Type 0
  ServedDrawn = ServedLeaving d R N LeftNothingEver DrawsAlone

module _ {B W C P S : Type 0} (d : Devices B W C P S) where
  -- what an item means is answered with these bytes, and of a SETUP that is refused nothing is left, in the history either
  abbrev pub AnswersMeantDrawn : (Serving → Item → Item) → Serving → Item → List ℕ → Serving → Type 0
  AnswersMeantDrawn meant = AnswersMeantCleanly d LeftNothingEver meant

  -- so is the seat of a lock that was opened for drawn numbers, and each that is split off it; and over the items of a connection whose devices are lent
  -- for one piece at a time, each answered by what it is taken to mean, and over its visits, it stays so, and of the SETUPs that are refused nothing is left
  pub record VisitedDrawn : Type 0 where
    pub first : (w : Whole) → DrawsAlone (first_view true w)
    pub split : (v v' u : View) → v.numbers_drawn ≡ true → Made v v' u → DrawsAlone u
    pub answered : (meant : Serving → Item → Item) (bytes rest : List ℕ) (s t : Output Serving) → DrawsAlone s.answerer.view
        → Answered (AnswersMeant d meant) (GivesUpMeant d meant) bytes rest s t
        → Answered (AnswersMeantDrawn meant) (GivesUpMeant d meant) bytes rest s t × DrawsAlone t.answerer.view
    pub faulted : (meant : Serving → Item → Item) (bytes : List ℕ) (fault : MessageFault) (s t : Output Serving) → DrawsAlone s.answerer.view
        → FaultedAfter (AnswersMeant d meant) (GivesUpMeant d meant) bytes fault s t
        → FaultedAfter (AnswersMeantDrawn meant) (GivesUpMeant d meant) bytes fault s t × DrawsAlone t.answerer.view
    pub visited : (meant : Serving → Item → Item) (start rest : List ℕ) (end : VisitEnd) (s t : Line Serving) → DrawsAlone s.output.answerer.view
        → Visits (AnswersMeant d meant) (GivesUpMeant d meant) start rest end s t
        → Visits (AnswersMeantDrawn meant) (GivesUpMeant d meant) start rest end s t × DrawsAlone t.output.answerer.view
