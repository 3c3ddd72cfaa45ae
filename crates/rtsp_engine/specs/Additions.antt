-- The records that the replies to the requests of a connection made, in order, read from how they were answered.
use Rattle.std.specs.Prelude.{ℕ, List, [], ◌∷◌, ◌++◌, Option, Some, None}
use mathlib.Core.Logic.{inl, inr}
use Rattle.rtsp_grammar.specs.declared.fault.MessageFault.{MessageFault}
use Rattle.rtsp_grammar.specs.declared.message.Item.{Item}
use Rattle.rtsp_grammar.specs.declared.message.Item.TheVariants as items
use Rattle.rtsp_grammar.specs.declared.message.Response.{Response}
use Rattle.rtsp_record.specs.declared.changes.Record.{Record}
use Rattle.rtsp_record.specs.Books.{Session}
use Rattle.rtsp_book.specs.declared.steps.Step.{Step}
use Rattle.rtsp_book.specs.Answers.{written}
use Rattle.rtsp_lock.specs.declared.view.View.{View}
use Rattle.rtsp_lock.specs.Calls.{seat_view}
use Rattle.rtsp_lock.specs.Laws.{Grown}
use Rattle.rtsp_admit.specs.Additions.{admission_records}
use Rattle.rtsp_state.specs.declared.plan.Plan.{Plan}
use Rattle.rtsp_state.specs.declared.plan.Plan.TheVariants as plans
use Rattle.rtsp_state.specs.declared.request.Name.{Name}
use Rattle.rtsp_state.specs.declared.request.Screen.{Screen}
use Rattle.rtsp_state.specs.declared.request.Screen.TheVariants as screens
use Rattle.rtsp_state.specs.declared.setup_plan.SetupPlan.{SetupPlan}
use Rattle.rtsp_state.specs.ParsedRequest.{ParsedValue}
use Rattle.rtsp_state.specs.Screen.{screen}
use Rattle.rtsp_state.specs.SetupPlan.{ask_of}
use Rattle.rtsp_state.specs.StateTable.{decide}
use Rattle.rtsp_engine.specs.Conducting.{drawn_with, SetsUp, Conducts}
use Rattle.rtsp_engine.specs.Conversing.{RespondsFound, RespondsScreened, LacksFound, LacksScreened, Answers, GivesUp}
use Rattle.rtsp_engine.specs.Desk.{Service, State, state, service}
use Rattle.rtsp_engine.specs.DeskAnswers.{AnswersAt, GivesUpAt, Takes, Faults}
use Rattle.rtsp_traits.specs.Devices.{Devices}
use Rattle.rtsp_engine.specs.Renewing.{RenewsBy, Renews, renewal_at}
use Rattle.rtsp_engine.specs.Served.{Output, Line, Served, Answered, Faulted, FaultedAfter, Gathered, BreaksOff, EndsFrom, with_text, answered_by}
use Rattle.rtsp_engine.specs.declared.conducting.SetUp.{SetUp}
use Rattle.rtsp_engine.specs.declared.conducting.SetUp.TheVariants.{NoShare, NoWord, NoNumber, Tried}
use Rattle.rtsp_engine.specs.declared.desk.Asker.{Asker}
use Rattle.rtsp_engine.specs.declared.desk.Desk.{Desk}
use Rattle.rtsp_engine.specs.declared.serving.ServeEnd.{ServeEnd}
use Rattle.rtsp_engine.specs.declared.serving.ServeEnd.TheVariants.{Closed, ReadFault, WriteFault, Fault, TurnsSpent}

-- of a renewal
abbrev pub touch_records : (conn : ℕ) (name : Option Name) (step : Option Step) (found again : Option (ℕ × Session)) (v u : View) → RenewsBy conn name step found again v u → List Record
touch_records conn name None found again v u run = []
touch_records conn name (Some touch) found again v u run = run.made

abbrev pub renewal_records : (service : Service) (request : ParsedValue) (moment : ℕ) (found again : Option (ℕ × Session)) (v u : View)
    → Renews service request moment found again v u → List Record
renewal_records service request moment found again v u run = touch_records service.asker.conn request.name (renewal_at service request moment found) found again v u run

module _ {B W C P S : Type 0} (d : Devices B W C P S) where
  -- of a track that is set up
  abbrev pub setup_records : (conn : ℕ) (plan : SetupPlan) (outcome : SetUp) (s t : State B W C P S) → SetsUp d conn plan outcome s t → List Record
  setup_records conn plan NoShare s t run = []
  setup_records conn plan (NoWord at) s t run = []
  setup_records conn plan (NoNumber at) s t run = []
  setup_records conn plan (Tried n made) s t run =
      admission_records d.binder (ask_of plan (drawn_with conn run.given n)) made (record { view = run.between; binder = s.binder }) (record { view = t.view; binder = t.binder }) run.admits

  -- of a plan
  abbrev pub plan_records : (asker : Asker) (uri : List ℕ) (plan : Plan) (response : Response) (s t : State B W C P S) → Conducts d asker uri plan response s t → List Record
  plan_records asker uri (plans.Answer given) response s t run = []
  plan_records asker uri (plans.Step plan) response s t run = written run.made
  plan_records asker uri (plans.Admit plan) response s t run = setup_records asker.conn plan run.outcome s t run.comes

  module _ (service : Service) where
    -- of a request whose session was found, and of its renewal before it
    abbrev pub found_records : (uri : List ℕ) (request : ParsedValue) (found : Option (ℕ × Session)) (moment : ℕ) (response : Response) (s t : State B W C P S)
        → RespondsFound d service uri request found moment response s t → List Record
    found_records uri request found moment response s t (inl run) =
        renewal_records service request moment found run.again s.view run.mid.view run.renews.renews
        ++ plan_records service.asker uri (decide service.table request run.again service.asker.peer moment) response run.mid t run.conducts
    found_records uri request found moment response s t (inr refused) = []

    -- of a request
    abbrev pub response_records : (uri : List ℕ) (screened : Screen) (response : Response) (s t : State B W C P S) → RespondsScreened d service uri screened response s t → List Record
    response_records uri (screens.Answered given) response s t run = []
    response_records uri (screens.Asks request) response s t run = found_records uri request run.found run.moment response run.mid t run.goes_on

    -- of one for which there was no memory: its renewal's
    abbrev pub lack_records : (request : ParsedValue) (found : Option (ℕ × Session)) (moment : ℕ) (s t : State B W C P S) → LacksFound d service request found moment s t → List Record
    lack_records request found moment s t (inl run) = renewal_records service request moment found run.again s.view run.mid.view run.renews.renews
    lack_records request found moment s t (inr refused) = []

    abbrev pub screen_records : (screened : Screen) (s t : State B W C P S) → LacksScreened d service screened s t → List Record
    screen_records (screens.Answered given) s t run = []
    screen_records (screens.Asks request) s t run = lack_records request run.found run.moment run.mid t run.goes_on

    -- of an item
    abbrev pub item_records : (item : Item) (bytes : List ℕ) (s t : State B W C P S) → Answers d service item bytes s t → List Record
    item_records (items.Request request) bytes s t run = response_records request.uri (screen service.table request) run.0 s t run.1
    item_records (items.Response response) bytes s t run = []
    item_records (items.Frame frame) bytes s t run = []

    -- of one that has no answer
    abbrev pub lost_records : (item : Item) (s t : State B W C P S) → GivesUp d service item s t → List Record
    lost_records (items.Request request) s t (inl same) = []
    lost_records (items.Request request) s t (inr run) = screen_records (screen service.table request) s t run
    lost_records (items.Response response) s t run = []
    lost_records (items.Frame frame) s t run = []

  module _ {R N : Type 0} where
    -- of the items of a connection
    abbrev pub served_records : (served : List Item) (bytes : List ℕ) (s : Desk R B W C P S N) (output : List ℕ) (t : Desk R B W C P S N)
        → Served (AnswersAt d) (GivesUpAt d) served bytes s output t → List Record
    served_records [] bytes s output t run = []
    served_records (item ∷ earlier) bytes s output t run =
        served_records earlier run.front s run.first run.mid run.before ++ item_records (service run.mid) item run.last (state run.mid) (state t) run.answer.0

    abbrev pub answered_records : (bytes rest : List ℕ) (s t : Output (Desk R B W C P S N)) → Answered (AnswersAt d) (GivesUpAt d) bytes rest s t → List Record
    answered_records bytes rest s t run = served_records run.items run.done s.answerer run.output t.answerer run.served

    -- of what was left where memory ran out
    abbrev pub fault_records : (rest : List ℕ) (fault : MessageFault) (s t : Desk R B W C P S N) → Faulted (AnswersAt d) (GivesUpAt d) rest fault s t → List Record
    fault_records rest fault s t (inl has) = []
    fault_records rest fault s t (inr (is, inl same)) = []
    fault_records rest fault s t (inr (is, inr lost)) = lost_records (service s) lost.item (state s) (state t) lost.left.0

    abbrev pub faulted_records : (bytes : List ℕ) (fault : MessageFault) (s t : Output (Desk R B W C P S N)) → FaultedAfter (AnswersAt d) (GivesUpAt d) bytes fault s t → List Record
    faulted_records bytes fault s t run =
        answered_records bytes run.rest s (answered_by run.mid t) run.answered ++ fault_records run.rest fault run.mid t.answerer run.faulted

    -- of answers that are gathered in one text
    abbrev pub gathered_records : (bytes text : List ℕ) (s t : Desk R B W C P S N) → Gathered (AnswersAt d) (GivesUpAt d) bytes text s t → List Record
    gathered_records bytes text s t (inl run) = answered_records bytes run.0 (record { text = Some []; answerer = s }) (record { text = Some text; answerer = t }) run.1
    gathered_records bytes text s t (inr run) = faulted_records bytes run.0 (record { text = Some []; answerer = s }) (record { text = Some text; answerer = t }) run.1

    -- of items whose answers could be written in part only
    abbrev pub cut_records : (bytes : List ℕ) (s t : Output (Desk R B W C P S N)) → BreaksOff (AnswersAt d) (GivesUpAt d) bytes s t → List Record
    cut_records bytes s t (inl run) = gathered_records bytes run.text s.answerer t.answerer run.gathered
    cut_records bytes s t (inr run) = faulted_records bytes run.fault s (with_text run.between t) run.faulted

    -- of a connection that has ended
    abbrev pub end_records : (start : List ℕ) (end : ServeEnd) (s t : Line (Desk R B W C P S N)) → EndsFrom (AnswersAt d) (GivesUpAt d) start end s t → List Record
    end_records start Closed s t run = answered_records (start ++ run.progress.bytes) run.rest s.output t.output run.progress.answered
    end_records start ReadFault s t run = answered_records (start ++ run.progress.bytes) run.rest s.output t.output run.progress.answered
    end_records start TurnsSpent s t run = answered_records (start ++ run.progress.bytes) run.rest s.output t.output run.progress.answered
    end_records start WriteFault s t run =
        answered_records (start ++ run.before.bytes) run.held s.output run.between.output run.before.answered ++ cut_records (run.held ++ run.piece) run.between.output t.output run.breaks
    end_records start (Fault fault) s t run =
        answered_records (start ++ run.progress.bytes) run.rest s.output run.between run.progress.answered ++ fault_records run.rest fault run.between.answerer t.output.answerer run.faulted

    -- what the seat has seen comes after what it had seen, and its entries have grown by these records and nothing else
    abbrev pub GrowsBy : Desk R B W C P S N → Desk R B W C P S N → List Record → Type 0
    GrowsBy s t made = Grown (seat_view s.seat.now) (seat_view t.seat.now) made

module _ {B W C P S : Type 0} (d : Devices B W C P S) (R N : Type 0) where
  -- so it is over what is answered of a connection, and over a whole one, by the records of the replies to its requests
  pub record ServedGrows : Type 0 where
    pub answered : (bytes rest : List ℕ) (s t : Output (Desk R B W C P S N)) (run : Takes d bytes rest s t) → GrowsBy d s.answerer t.answerer (answered_records d bytes rest s t run)
    pub faulted : (bytes : List ℕ) (fault : MessageFault) (s t : Output (Desk R B W C P S N)) (run : Faults d bytes fault s t) → GrowsBy d s.answerer t.answerer (faulted_records d bytes fault s t run)
    pub ended : (start : List ℕ) (end : ServeEnd) (s t : Line (Desk R B W C P S N)) (run : EndsFrom (AnswersAt d) (GivesUpAt d) start end s t)
        → GrowsBy d s.output.answerer t.output.answerer (end_records d start end s t run)

  -- what the seat has seen comes after what it had seen, and its entries have grown by some records
  abbrev pub Grows : Desk R B W C P S N → Desk R B W C P S N → Type 0
  Grows s t = (made : List Record) × GrowsBy d s t made
