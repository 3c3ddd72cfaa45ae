-- A connection's seat keeps to the numbers that it drew; and where all seats of its lock do, or it is the only one, nothing is left of a refused SETUP.
use Rattle.std.proofs.Common.{◌≡◌, ℕ, true, List, refl, sym, ◌∙◌, ap, subst, inl, inr, Ok, Err}
use Rattle.std.specs.Prelude.{Option, None}
use Rattle.std.proofs.lemmas.Option.{none-some}
use Rattle.rtsp_grammar.specs.declared.message.Item.{Item}
use Rattle.rtsp_grammar.specs.declared.message.Item.TheVariants as items
use Rattle.rtsp_grammar.specs.declared.message.Request.{Request}
use Rattle.rtsp_grammar.specs.declared.message.Response.{Response}
use Rattle.rtsp_grammar.specs.Writing.{response_text}
use Rattle.rtsp_record.specs.declared.changes.Entry.{Entry}
use Rattle.rtsp_record.specs.Books.{Session}
use Rattle.rtsp_book.specs.declared.steps.Step.{Step}
use Rattle.rtsp_lock.specs.declared.view.View.{View}
use Rattle.rtsp_lock.specs.Calls.{seat_view}
use Rattle.rtsp_lock.specs.Numbers.{admission_of, uses, UsesDrawn, NamesDrawn}
use Rattle.rtsp_book.specs.declared.asks.Ask.{Ask}
use Rattle.rtsp_book.specs.declared.refusals.Refusal.{Refusal}
use Rattle.rtsp_admit.specs.Refused.{LeftNothing, LeftNothingEver}
use Rattle.rtsp_admit.specs.Runs.{Admits}
use Rattle.rtsp_admit.specs.Runs as runs
use Rattle.rtsp_admit.specs.Numbers.{IsUnused, OwnsAll}
use Rattle.rtsp_admit.proofs.Drawing.{acts_use_drawn, looks_use_drawn, draws_give_unused, admissions_keep_drawn}
use Rattle.rtsp_admit.proofs.Alone.{owns_all_lasts, admissions_keep_all, leaves_nothing_alone}
use Rattle.rtsp_admit.proofs.Keeping.{admissions_keep}
use Rattle.rtsp_admit.proofs.Unwinding.{leaves_nothing_drawn}
use Rattle.rtsp_state.specs.declared.plan.Plan.{Plan}
use Rattle.rtsp_state.specs.declared.plan.Plan.TheVariants as plans
use Rattle.rtsp_state.specs.declared.request.Screen.{Screen}
use Rattle.rtsp_state.specs.declared.request.Screen.TheVariants as screens
use Rattle.rtsp_state.specs.declared.setup_plan.SetupPlan.{SetupPlan}
use Rattle.rtsp_state.specs.declared.setup_plan.SetupSession.{SetupSession}
use Rattle.rtsp_state.specs.declared.setup_plan.SetupSession.TheVariants.{New, Living}
use Rattle.rtsp_state.specs.ParsedRequest.{ParsedValue}
use Rattle.rtsp_state.specs.Screen.{screen}
use Rattle.rtsp_state.specs.SetupPlan.{ask_of}
use Rattle.rtsp_state.specs.StateTable.{decide}
use Rattle.rtsp_engine.specs.Conducting.{drawn_with, SetsUp, Conducts}
use Rattle.rtsp_engine.specs.Conversing.{RespondsFound, RespondsScreened, Answers}
use Rattle.rtsp_engine.specs.Desk.{Service, State, state, service}
use Rattle.rtsp_engine.specs.DeskAnswers.{AnswersAt, GivesUpAt}
use Rattle.rtsp_traits.specs.Devices.{Devices}
use Rattle.rtsp_engine.specs.Drawing.{DrawsNumbers}
use Rattle.rtsp_engine.specs.Numbers.{DrawsAlone, DeskKeepsNumbers, SetupLeaves, PlanLeaves, FoundLeaves, ResponseLeaves, ItemLeaves, AnswersCleanly, AnswersMeantCleanly, ServedKeepsNumbers, ServedLeaving, ServedCleanly, ServedDrawn, VisitedDrawn}
use Rattle.rtsp_engine.specs.Serving.{Serving, AnswersMeant, GivesUpMeant}
use Rattle.rtsp_engine.specs.declared.conducting.SetUp.{SetUp}
use Rattle.rtsp_engine.specs.declared.conducting.SetUp.TheVariants.{NoShare, NoWord, NoNumber, Tried}
use Rattle.rtsp_engine.specs.declared.desk.Asker.{Asker}
use Rattle.rtsp_engine.specs.declared.desk.Desk.{Desk}
use Rattle.rtsp_engine.specs.declared.drawing.AdmissionNumbers.{AdmissionNumbers}
use Rattle.rtsp_engine.proofs.Keeping.{answered_keeps, fault_keeps, ends_keep}
use Rattle.rtsp_engine.proofs.Numbering.{EachKeeps, keeps_numbers, keeps_item, keeps_lost, keeps_finds, keeps_renewal}
use Rattle.rtsp_engine.proofs.Strengthening.{answered_more, fault_more, ends_more, visits_more}

-- a step that names no admission names drawn numbers alone
none_named : (v : View) (step : Step) → admission_of step ≡ None → NamesDrawn v step
none_named v step none a is = absurd (none-some a (sym none ∙ is))

-- an unused number is drawn
unused_drawn : (session : SetupSession) (id : ℕ) (n : AdmissionNumbers) (v u : View) → DrawsNumbers session id n v u → UsesDrawn v → IsUnused u n.admission
unused_drawn (New expires startup) id n v u run own =
    let first = (draws_give_unused v run.between n.key.session own run.session.looked run.session.drew).0 in
    (draws_give_unused run.between u n.admission first run.admission.looked run.admission.drew).1
unused_drawn (Living key) id n v u run own = (draws_give_unused v u n.admission own run.1.looked run.1.drew).1

module _ {B W C P S : Type 0} (d : Devices B W C P S) where
  numbers_kept : EachKeeps d.binder UsesDrawn
  numbers_kept = record {
    looked = λ v u looked own. looks_use_drawn v u own looked;
    acted = λ v u step answer none acted own. acts_use_drawn v u step answer own (none_named v step none) acted;
    admitted = λ ask result s t admits drawn own. admissions_keep_drawn d.binder ask result s t admits drawn own;
  }

  all_kept : EachKeeps d.binder OwnsAll
  all_kept = record {
    looked = λ v u looked own. owns_all_lasts.looked v u own looked;
    acted = λ v u step answer none acted own. owns_all_lasts.acted v u step answer own (none_named v step none) acted;
    admitted = λ ask result s t admits drawn own. admissions_keep_all d.binder ask result s t admits drawn own;
  }

  drawn_kept : EachKeeps d.binder DrawsAlone
  drawn_kept = record {
    looked = λ v u looked is. record { lock = looked.stays.same_numbers ∙ is.lock; own = looks_use_drawn v u is.own looked };
    acted = λ v u step answer none acted is. record { lock = acted.stays.same_numbers ∙ is.lock; own = acts_use_drawn v u step answer is.own (none_named v step none) acted };
    admitted = λ ask result s t admits drawn is. record {
      lock = admissions_keep d.binder ask (λ (x : View). x.numbers_drawn ≡ true) (λ v u step answer of acted on. acted.stays.same_numbers ∙ on) result s t admits is.lock;
      own = admissions_keep_drawn d.binder ask result s t admits drawn is.own;
    };
  }

  module _ {R N : Type 0} where
    numbers_self : (s : Desk R B W C P S N) → DeskKeepsNumbers s s
    numbers_self s own = own

    numbers_then : (s t u : Desk R B W C P S N) → DeskKeepsNumbers s t → DeskKeepsNumbers t u → DeskKeepsNumbers s u
    numbers_then s t u h k own = k (h own)

    numbers_answered : (s t : Desk R B W C P S N) (item : Item) (bytes : List ℕ) → AnswersAt d s item bytes t → DeskKeepsNumbers s t
    numbers_answered s t item bytes h own = keeps_item d UsesDrawn numbers_kept (service s) item bytes (state s) (state t) h.0 own

    numbers_lost : (s t : Desk R B W C P S N) (item : Item) → GivesUpAt d s item t → DeskKeepsNumbers s t
    numbers_lost s t item h own = keeps_lost d UsesDrawn numbers_kept (service s) item (state s) (state t) h.0 own

    pub served_keeps_numbers : ServedKeepsNumbers d R N
    served_keeps_numbers = record {
      responded = λ service request response s t run own. keeps_item d UsesDrawn numbers_kept service (items.Request request) (response_text response) s t (response, run, refl) own;
      lacked = λ service request s t run own. keeps_lost d UsesDrawn numbers_kept service (items.Request request) s t run own;
      answered = λ bytes rest s t run. answered_keeps (AnswersAt d) (GivesUpAt d) DeskKeepsNumbers numbers_self numbers_then numbers_answered numbers_lost bytes rest s t run;
      faulted = λ bytes fault s t run. fault_keeps (AnswersAt d) (GivesUpAt d) DeskKeepsNumbers numbers_self numbers_then numbers_answered numbers_lost bytes fault s t run;
      ended = λ start end s t run. ends_keep (AnswersAt d) (GivesUpAt d) DeskKeepsNumbers numbers_self numbers_then numbers_answered numbers_lost end start s t run;
    }

-- Where the seat is so that nothing is left of its refused admissions.
module _ {B W C P S : Type 0} (d : Devices B W C P S) (Left : Ask → View → View → Type 0) (Is : View → Type 0) (each : EachKeeps d.binder Is) (keeps_own : (v : View) → Is v → UsesDrawn v)
    (leaves : (ask : Ask) (refusal : Refusal) (s t : runs.State B) → Admits d.binder ask (Err refusal) s t → Is s.view → IsUnused s.view ask.admission → Left ask s.view t.view) where
  setup_leaves : (conn : ℕ) (plan : SetupPlan) (outcome : SetUp) (s t : State B W C P S) (run : SetsUp d conn plan outcome s t) → Is s.view → SetupLeaves d Left conn plan outcome s t run
  setup_leaves conn plan NoShare s t run own = tt
  setup_leaves conn plan (NoWord at) s t run own = tt
  setup_leaves conn plan (NoNumber at) s t run own = tt
  setup_leaves conn plan (Tried n (Ok granted)) s t run own = tt
  setup_leaves conn plan (Tried n (Err refusal)) s t run own =
      leaves (ask_of plan (drawn_with conn run.given n)) refusal (record { view = run.between; binder = s.binder }) (record { view = t.view; binder = t.binder }) run.admits
      (keeps_numbers d Is each plan.session run.given.id n s.view run.between run.numbers own).0
      (unused_drawn plan.session run.given.id n s.view run.between run.numbers (keeps_own s.view own))

  plan_leaves : (asker : Asker) (uri : List ℕ) (plan : Plan) (response : Response) (s t : State B W C P S) (run : Conducts d asker uri plan response s t) → Is s.view → PlanLeaves d Left asker uri plan response s t run
  plan_leaves asker uri (plans.Answer given) response s t run own = tt
  plan_leaves asker uri (plans.Step plan) response s t run own = tt
  plan_leaves asker uri (plans.Admit plan) response s t run own = setup_leaves asker.conn plan run.outcome s t run.comes own

  module _ (service : Service) where
    found_leaves : (uri : List ℕ) (request : ParsedValue) (found : Option (ℕ × Session)) (moment : ℕ) (response : Response) (s t : State B W C P S) (run : RespondsFound d service uri request found moment response s t)
        → Is s.view → FoundLeaves d Left service uri request found moment response s t run
    found_leaves uri request found moment response s t (inl run) own =
        plan_leaves service.asker uri (decide service.table request run.again service.asker.peer moment) response run.mid t run.conducts
        (keeps_renewal d Is each service request moment found run.again s.view run.mid.view run.renews.renews own)
    found_leaves uri request found moment response s t (inr refused) own = tt

    response_leaves : (uri : List ℕ) (screened : Screen) (response : Response) (s t : State B W C P S) (run : RespondsScreened d service uri screened response s t)
        → Is s.view → ResponseLeaves d Left service uri screened response s t run
    response_leaves uri (screens.Answered given) response s t run own = tt
    response_leaves uri (screens.Asks request) response s t run own =
        found_leaves uri request run.found run.moment response run.mid t run.goes_on (keeps_finds d Is each service request run.found run.moment s run.mid run.finds own)

    item_leaves : (item : Item) (bytes : List ℕ) (s t : State B W C P S) (run : Answers d service item bytes s t) → Is s.view → ItemLeaves d Left service item bytes s t run
    item_leaves (items.Request request) bytes s t run own = response_leaves request.uri (screen service.table request) run.0 s t run.1 own
    item_leaves (items.Response response) bytes s t run own = tt
    item_leaves (items.Frame frame) bytes s t run own = tt

  meant_cleanly : (meant : Serving → Item → Item) (s t : Serving) (item : Item) (bytes : List ℕ) → Is s.view → AnswersMeant d meant s item bytes t → AnswersMeantCleanly d Left meant s item bytes t × Is t.view
  meant_cleanly meant s t item bytes own h =
      let seen = subst Is (sym h.seen) own in
      ((h, item_leaves s.service (meant s item) bytes h.before h.after h.answers seen), subst Is h.sees (keeps_item d Is each s.service (meant s item) bytes h.before h.after h.answers seen))

  meant_lost : (meant : Serving → Item → Item) (s t : Serving) (item : Item) → Is s.view → GivesUpMeant d meant s item t → Is t.view
  meant_lost meant s t item own h = subst Is h.sees (keeps_lost d Is each s.service (meant s item) h.before h.after h.gives_up (subst Is (sym h.seen) own))

  module _ {R N : Type 0} where
    cleanly : (s t : Desk R B W C P S N) (item : Item) (bytes : List ℕ) → Is (seat_view s.seat.now) → AnswersAt d s item bytes t → AnswersCleanly d Left s item bytes t × Is (seat_view t.seat.now)
    cleanly s t item bytes own h = (
      (h, item_leaves (service s) item bytes (state s) (state t) h.0 own),
      keeps_item d Is each (service s) item bytes (state s) (state t) h.0 own,
    )

    lost : (s t : Desk R B W C P S N) (item : Item) → Is (seat_view s.seat.now) → GivesUpAt d s item t → Is (seat_view t.seat.now)
    lost s t item own h = keeps_lost d Is each (service s) item (state s) (state t) h.0 own

    abbrev OfDesk : Desk R B W C P S N → Type 0
    OfDesk s = Is (seat_view s.seat.now)

    served_leaving : ServedLeaving d R N Left Is
    served_leaving = record {
      answered = λ bytes rest s t own run. answered_more (AnswersAt d) (AnswersCleanly d Left) (GivesUpAt d) OfDesk cleanly lost bytes rest s t own run;
      faulted = λ bytes fault s t own run. fault_more (AnswersAt d) (AnswersCleanly d Left) (GivesUpAt d) OfDesk cleanly lost bytes fault s t own run;
      ended = λ start end s t own run. ends_more (AnswersAt d) (AnswersCleanly d Left) (GivesUpAt d) OfDesk cleanly lost end start s t own run;
    }

module _ {B W C P S : Type 0} (d : Devices B W C P S) where
  module _ {R N : Type 0} where
    pub served_cleanly : ServedCleanly d R N
    served_cleanly = served_leaving d LeftNothing OwnsAll (all_kept d) (λ v own. own.drawn) (λ ask refusal s t run own unused. leaves_nothing_alone d.binder ask refusal s t run own unused)

    pub served_drawn : ServedDrawn d R N
    served_drawn = served_leaving d LeftNothingEver DrawsAlone (drawn_kept d) (λ v is. is.own) (λ ask refusal s t run is unused. leaves_nothing_drawn d.binder ask refusal s t run is.lock unused)

  own_drawn : (v : View) → DrawsAlone v → UsesDrawn v
  own_drawn v is = is.own

  leaves_drawn : (ask : Ask) (refusal : Refusal) (s t : runs.State B) → Admits d.binder ask (Err refusal) s t → DrawsAlone s.view → IsUnused s.view ask.admission → LeftNothingEver ask s.view t.view
  leaves_drawn ask refusal s t run is unused = leaves_nothing_drawn d.binder ask refusal s t run is.lock unused

  -- an item is answered, and nothing is left of a SETUP that was refused
  pub meant_drawn : (meant : Serving → Item → Item) (s t : Serving) (item : Item) (bytes : List ℕ) → DrawsAlone s.view → AnswersMeant d meant s item bytes t → AnswersMeantCleanly d LeftNothingEver meant s item bytes t × DrawsAlone t.view
  meant_drawn meant = meant_cleanly d LeftNothingEver DrawsAlone (drawn_kept d) own_drawn leaves_drawn meant

  -- memory ran out over it
  pub lost_drawn : (meant : Serving → Item → Item) (s t : Serving) (item : Item) → DrawsAlone s.view → GivesUpMeant d meant s item t → DrawsAlone t.view
  lost_drawn meant = meant_lost d LeftNothingEver DrawsAlone (drawn_kept d) own_drawn leaves_drawn meant

  pub visited_drawn : VisitedDrawn d
  visited_drawn = record {
    first = λ w. record { lock = refl; own = λ n used. absurd (used refl) };
    split = λ v v' u on made. record { lock = made.same_numbers ∙ on; own = λ n used. absurd (used (ap (λ (j : List Entry). uses n j) made.mine)) };
    answered = λ meant bytes rest s t is run. answered_more (AnswersMeant d meant) (AnswersMeantCleanly d LeftNothingEver meant) (GivesUpMeant d meant) (λ (x : Serving). DrawsAlone x.view) (meant_drawn meant) (lost_drawn meant) bytes rest s t is run;
    faulted = λ meant bytes fault s t is run. fault_more (AnswersMeant d meant) (AnswersMeantCleanly d LeftNothingEver meant) (GivesUpMeant d meant) (λ (x : Serving). DrawsAlone x.view) (meant_drawn meant) (lost_drawn meant) bytes fault s t is run;
    visited = λ meant start rest end s t is run. visits_more (AnswersMeant d meant) (AnswersMeantCleanly d LeftNothingEver meant) (GivesUpMeant d meant) (λ (x : Serving). DrawsAlone x.view) (meant_drawn meant) (lost_drawn meant) end start rest s t is run;
  }
