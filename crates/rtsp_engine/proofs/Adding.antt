-- A seat's entries grow by the records of the replies to the requests of its connection.
use Rattle.std.proofs.Common.{◌≡◌, ℕ, List, [], ◌∷◌, ◌++◌, sym, ap, subst, append-nil, inl, inr, Ok, Err}
use Rattle.std.specs.Prelude.{Option, Some, None}
use Rattle.rtsp_grammar.specs.declared.fault.MessageFault.{MessageFault}
use Rattle.rtsp_grammar.specs.declared.message.Item.{Item}
use Rattle.rtsp_grammar.specs.declared.message.Item.TheVariants as items
use Rattle.rtsp_grammar.specs.declared.message.Response.{Response}
use Rattle.rtsp_record.specs.declared.changes.Record.{Record}
use Rattle.rtsp_record.specs.Books.{Session}
use Rattle.rtsp_book.specs.declared.steps.Step.{Step}
use Rattle.rtsp_book.specs.declared.steps.Step.TheVariants as step
use Rattle.rtsp_lock.specs.declared.view.View.{View}
use Rattle.rtsp_lock.specs.Laws.{Grown}
use Rattle.rtsp_admit.proofs.Adding.{grown_self, grown_none, grown_acted, grown_looked, grown_then, admissions_grow}
use Rattle.rtsp_state.specs.declared.plan.Plan.{Plan}
use Rattle.rtsp_state.specs.declared.plan.Plan.TheVariants as plans
use Rattle.rtsp_state.specs.declared.request.Name.{Name}
use Rattle.rtsp_state.specs.declared.request.Screen.{Screen}
use Rattle.rtsp_state.specs.declared.request.Screen.TheVariants as screens
use Rattle.rtsp_state.specs.declared.setup_plan.SetupPlan.{SetupPlan}
use Rattle.rtsp_state.specs.declared.setup_plan.SetupSession.{SetupSession}
use Rattle.rtsp_state.specs.declared.setup_plan.SetupSession.TheVariants.{New, Living}
use Rattle.rtsp_state.specs.ParsedRequest.{ParsedValue}
use Rattle.rtsp_state.specs.Screen.{screen}
use Rattle.rtsp_state.specs.SetupPlan.{ask_of}
use Rattle.rtsp_state.specs.StateTable.{decide}
use Rattle.rtsp_engine.specs.Conducting.{drawn_with, SetsUp, Conducts}
use Rattle.rtsp_engine.specs.Conversing.{Finds, Ends, RespondsFound, RespondsScreened, LacksFound, LacksScreened, Answers, GivesUp}
use Rattle.rtsp_engine.specs.Desk.{Service, State, state, service}
use Rattle.rtsp_engine.specs.DeskAnswers.{AnswersAt, GivesUpAt, Takes, Faults}
use Rattle.rtsp_traits.specs.Devices.{Devices}
use Rattle.rtsp_engine.specs.Drawing.{DrawsNumbers, LacksNumber}
use Rattle.rtsp_engine.specs.Renewing.{Looks, LooksAgain, RenewsBy, Renews, renewal_at}
use Rattle.rtsp_engine.specs.Served.{Output, Line, Served, Faulted, Gathered, BreaksOff, EndsFrom, with_text, answered_by}
use Rattle.rtsp_engine.specs.Additions.{touch_records, renewal_records, setup_records, plan_records, found_records, response_records, lack_records, screen_records, item_records, lost_records, served_records, answered_records, fault_records, faulted_records, gathered_records, cut_records, end_records, GrowsBy, ServedGrows}
use Rattle.rtsp_engine.specs.declared.conducting.SetUp.{SetUp}
use Rattle.rtsp_engine.specs.declared.conducting.SetUp.TheVariants.{NoShare, NoWord, NoNumber, Tried}
use Rattle.rtsp_engine.specs.declared.desk.Asker.{Asker}
use Rattle.rtsp_engine.specs.declared.desk.Desk.{Desk}
use Rattle.rtsp_engine.specs.declared.drawing.AdmissionNumbers.{AdmissionNumbers}
use Rattle.rtsp_engine.specs.declared.drawing.Spent.{Spent}
use Rattle.rtsp_engine.specs.declared.drawing.Spent.TheVariants as spent
use Rattle.rtsp_engine.specs.declared.serving.ServeEnd.{ServeEnd}
use Rattle.rtsp_engine.specs.declared.serving.ServeEnd.TheVariants.{Closed, ReadFault, WriteFault, Fault, TurnsSpent}

-- nothing more is added
still : (v u w : View) (rs : List Record) → Grown v u rs → Grown u w [] → Grown v w rs
still v u w rs g h = subst (λ (z : List Record). Grown v w z) (append-nil rs) (grown_then v u w rs [] g h)

grown_looks : (conn : ℕ) (name : Option Name) (found : Option (ℕ × Session)) (v u : View) → Looks conn name found v u → Grown v u []
grown_looks conn None found v u run = grown_none v u run.1
grown_looks conn (Some name) found v u run = grown_looked v u run.0

grown_looks_again : (conn : ℕ) (name : Option Name) (made : List Record) (found again : Option (ℕ × Session)) (v u : View) → LooksAgain conn name made found again v u → Grown v u []
grown_looks_again conn name [] found again v u run = grown_none v u run.1
grown_looks_again conn name (r ∷ made) found again v u run = grown_looks conn name again v u run

grown_touch : (conn : ℕ) (name : Option Name) (step : Option Step) (found again : Option (ℕ × Session)) (v u : View) (run : RenewsBy conn name step found again v u)
    → Grown v u (touch_records conn name step found again v u run)
grown_touch conn name None found again v u run = grown_none v u run.1
grown_touch conn name (Some touch) found again v u run =
    still v run.between u run.made (grown_acted v run.between touch (Ok run.made) run.acted) (grown_looks_again conn name run.made found again run.between u run.looks)

grown_numbers : (session : SetupSession) (id : ℕ) (n : AdmissionNumbers) (v u : View) → DrawsNumbers session id n v u → Grown v u []
grown_numbers (New expires startup) id n v u run = grown_then v run.between u [] [] (grown_looked v run.between run.session.looked) (grown_looked run.between u run.admission.looked)
grown_numbers (Living key) id n v u run = grown_looked v u run.1.looked

grown_spent : (session : SetupSession) (at : Spent) (v u : View) → LacksNumber session at v u → Grown v u []
grown_spent (New expires startup) spent.Session v u run = grown_looked v u run.looked
grown_spent (New expires startup) spent.Admission v u run = grown_then v run.between u [] [] (grown_looked v run.between run.draws.looked) (grown_looked run.between u run.lacks.looked)
grown_spent (Living key) spent.Session v u run = absurd run
grown_spent (Living key) spent.Admission v u run = grown_looked v u run.looked

module _ {B W C P S : Type 0} (d : Devices B W C P S) where
  same_view : (s t : State B W C P S) → t ≡ s → Grown s.view t.view []
  same_view s t same = grown_none s.view t.view (ap (λ (x : State B W C P S). x.view) same)

  grown_setup : (conn : ℕ) (plan : SetupPlan) (outcome : SetUp) (s t : State B W C P S) (run : SetsUp d conn plan outcome s t) → Grown s.view t.view (setup_records d conn plan outcome s t run)
  grown_setup conn plan NoShare s t run = grown_none s.view t.view run.view
  grown_setup conn plan (NoWord at) s t run = grown_none s.view t.view run.view
  grown_setup conn plan (NoNumber at) s t run = grown_spent plan.session at s.view t.view run.number
  grown_setup conn plan (Tried n made) s t run =
      grown_then s.view run.between t.view [] (setup_records d conn plan (Tried n made) s t run) (grown_numbers plan.session run.given.id n s.view run.between run.numbers)
      (admissions_grow d.binder (ask_of plan (drawn_with conn run.given n)) made (record { view = run.between; binder = s.binder }) (record { view = t.view; binder = t.binder }) run.admits)

  grown_plan : (asker : Asker) (uri : List ℕ) (plan : Plan) (response : Response) (s t : State B W C P S) (run : Conducts d asker uri plan response s t) → Grown s.view t.view (plan_records d asker uri plan response s t run)
  grown_plan asker uri (plans.Answer given) response s t run = same_view s t run.1
  grown_plan asker uri (plans.Step plan) response s t run = grown_acted s.view t.view plan.step run.made run.acted
  grown_plan asker uri (plans.Admit plan) response s t run = grown_setup asker.conn plan run.outcome s t run.comes

  module _ (service : Service) where
    grown_renewal : (request : ParsedValue) (moment : ℕ) (found again : Option (ℕ × Session)) (v u : View) (run : Renews service request moment found again v u)
        → Grown v u (renewal_records service request moment found again v u run)
    grown_renewal request moment found again v u run = grown_touch service.asker.conn request.name (renewal_at service request moment found) found again v u run

    grown_ends : (request : ParsedValue) (found : Option (ℕ × Session)) (moment : ℕ) (response : Response) (s t : State B W C P S) → Ends d service request found moment response s t → Grown s.view t.view []
    grown_ends request found moment response s t run =
        let r = run.refuses in
        grown_acted s.view t.view (step.Touch r.session.0 r.until) (Err r.refused.refusal) r.refused.acted

    grown_found : (uri : List ℕ) (request : ParsedValue) (found : Option (ℕ × Session)) (moment : ℕ) (response : Response) (s t : State B W C P S) (run : RespondsFound d service uri request found moment response s t)
        → Grown s.view t.view (found_records d service uri request found moment response s t run)
    grown_found uri request found moment response s t (inl run) =
        let plan = decide service.table request run.again service.asker.peer moment in
        grown_then s.view run.mid.view t.view (renewal_records service request moment found run.again s.view run.mid.view run.renews.renews) (plan_records d service.asker uri plan response run.mid t run.conducts)
        (grown_renewal request moment found run.again s.view run.mid.view run.renews.renews) (grown_plan service.asker uri plan response run.mid t run.conducts)
    grown_found uri request found moment response s t (inr refused) = grown_ends request found moment response s t refused

    grown_finds : (request : ParsedValue) (found : Option (ℕ × Session)) (moment : ℕ) (s t : State B W C P S) → Finds d service request found moment s t → Grown s.view t.view []
    grown_finds request found moment s t run = grown_looks service.asker.conn request.name found s.view t.view run.looks

    grown_response : (uri : List ℕ) (screened : Screen) (response : Response) (s t : State B W C P S) (run : RespondsScreened d service uri screened response s t)
        → Grown s.view t.view (response_records d service uri screened response s t run)
    grown_response uri (screens.Answered given) response s t run = same_view s t run.1
    grown_response uri (screens.Asks request) response s t run =
        grown_then s.view run.mid.view t.view [] (found_records d service uri request run.found run.moment response run.mid t run.goes_on) (grown_finds request run.found run.moment s run.mid run.finds)
        (grown_found uri request run.found run.moment response run.mid t run.goes_on)

    grown_lack : (request : ParsedValue) (found : Option (ℕ × Session)) (moment : ℕ) (s t : State B W C P S) (run : LacksFound d service request found moment s t)
        → Grown s.view t.view (lack_records d service request found moment s t run)
    grown_lack request found moment s t (inl run) =
        still s.view run.mid.view t.view (renewal_records service request moment found run.again s.view run.mid.view run.renews.renews)
        (grown_renewal request moment found run.again s.view run.mid.view run.renews.renews) (grown_none run.mid.view t.view run.nothing.view)
    grown_lack request found moment s t (inr refused) = grown_ends request found moment refused.0 s t refused.1

    grown_screen : (screened : Screen) (s t : State B W C P S) (run : LacksScreened d service screened s t) → Grown s.view t.view (screen_records d service screened s t run)
    grown_screen (screens.Answered given) s t run = same_view s t run
    grown_screen (screens.Asks request) s t run =
        grown_then s.view run.mid.view t.view [] (lack_records d service request run.found run.moment run.mid t run.goes_on) (grown_finds request run.found run.moment s run.mid run.finds)
        (grown_lack request run.found run.moment run.mid t run.goes_on)

    grown_item : (item : Item) (bytes : List ℕ) (s t : State B W C P S) (run : Answers d service item bytes s t) → Grown s.view t.view (item_records d service item bytes s t run)
    grown_item (items.Request request) bytes s t run = grown_response request.uri (screen service.table request) run.0 s t run.1
    grown_item (items.Response response) bytes s t run = same_view s t run.1
    grown_item (items.Frame frame) bytes s t run = same_view s t run.1

    grown_lost : (item : Item) (s t : State B W C P S) (run : GivesUp d service item s t) → Grown s.view t.view (lost_records d service item s t run)
    grown_lost (items.Request request) s t (inl same) = same_view s t same
    grown_lost (items.Request request) s t (inr run) = grown_screen (screen service.table request) s t run
    grown_lost (items.Response response) s t run = same_view s t run
    grown_lost (items.Frame frame) s t run = same_view s t run

  module _ {R N : Type 0} where
    same_desk : (s t : Desk R B W C P S N) → t ≡ s → GrowsBy d s t []
    same_desk s t same = subst (λ (x : Desk R B W C P S N). GrowsBy d s x []) (sym same) (grown_self (state s).view)

    then : (s m t : Desk R B W C P S N) (rs ss : List Record) → GrowsBy d s m rs → GrowsBy d m t ss → GrowsBy d s t (rs ++ ss)
    then s m t rs ss g h = grown_then (state s).view (state m).view (state t).view rs ss g h

    grown_served : (served : List Item) (bytes : List ℕ) (s : Desk R B W C P S N) (output : List ℕ) (t : Desk R B W C P S N) (run : Served (AnswersAt d) (GivesUpAt d) served bytes s output t)
        → GrowsBy d s t (served_records d served bytes s output t run)
    grown_served [] bytes s output t run = same_desk s t run.2
    grown_served (item ∷ earlier) bytes s output t run =
        then s run.mid t (served_records d earlier run.front s run.first run.mid run.before) (item_records d (service run.mid) item run.last (state run.mid) (state t) run.answer.0)
        (grown_served earlier run.front s run.first run.mid run.before) (grown_item (service run.mid) item run.last (state run.mid) (state t) run.answer.0)

    grown_answered : (bytes rest : List ℕ) (s t : Output (Desk R B W C P S N)) (run : Takes d bytes rest s t) → GrowsBy d s.answerer t.answerer (answered_records d bytes rest s t run)
    grown_answered bytes rest s t run = grown_served run.items run.done s.answerer run.output t.answerer run.served

    grown_fault : (rest : List ℕ) (fault : MessageFault) (s t : Desk R B W C P S N) (run : Faulted (AnswersAt d) (GivesUpAt d) rest fault s t) → GrowsBy d s t (fault_records d rest fault s t run)
    grown_fault rest fault s t (inl has) = same_desk s t has.1
    grown_fault rest fault s t (inr (is, inl same)) = same_desk s t same
    grown_fault rest fault s t (inr (is, inr lost)) = grown_lost (service s) lost.item (state s) (state t) lost.left.0

    grown_faulted : (bytes : List ℕ) (fault : MessageFault) (s t : Output (Desk R B W C P S N)) (run : Faults d bytes fault s t) → GrowsBy d s.answerer t.answerer (faulted_records d bytes fault s t run)
    grown_faulted bytes fault s t run =
        then s.answerer run.mid t.answerer (answered_records d bytes run.rest s (answered_by run.mid t) run.answered) (fault_records d run.rest fault run.mid t.answerer run.faulted)
        (grown_answered bytes run.rest s (answered_by run.mid t) run.answered) (grown_fault run.rest fault run.mid t.answerer run.faulted)

    grown_gathered : (bytes text : List ℕ) (s t : Desk R B W C P S N) (run : Gathered (AnswersAt d) (GivesUpAt d) bytes text s t) → GrowsBy d s t (gathered_records d bytes text s t run)
    grown_gathered bytes text s t (inl run) = grown_answered bytes run.0 (record { text = Some []; answerer = s }) (record { text = Some text; answerer = t }) run.1
    grown_gathered bytes text s t (inr run) = grown_faulted bytes run.0 (record { text = Some []; answerer = s }) (record { text = Some text; answerer = t }) run.1

    grown_cut : (bytes : List ℕ) (s t : Output (Desk R B W C P S N)) (run : BreaksOff (AnswersAt d) (GivesUpAt d) bytes s t) → GrowsBy d s.answerer t.answerer (cut_records d bytes s t run)
    grown_cut bytes s t (inl run) = grown_gathered bytes run.text s.answerer t.answerer run.gathered
    grown_cut bytes s t (inr run) = grown_faulted bytes run.fault s (with_text run.between t) run.faulted

    grown_end : (start : List ℕ) (end : ServeEnd) (s t : Line (Desk R B W C P S N)) (run : EndsFrom (AnswersAt d) (GivesUpAt d) start end s t)
        → GrowsBy d s.output.answerer t.output.answerer (end_records d start end s t run)
    grown_end start Closed s t run = grown_answered (start ++ run.progress.bytes) run.rest s.output t.output run.progress.answered
    grown_end start ReadFault s t run = grown_answered (start ++ run.progress.bytes) run.rest s.output t.output run.progress.answered
    grown_end start TurnsSpent s t run = grown_answered (start ++ run.progress.bytes) run.rest s.output t.output run.progress.answered
    grown_end start WriteFault s t run =
        then s.output.answerer run.between.output.answerer t.output.answerer (answered_records d (start ++ run.before.bytes) run.held s.output run.between.output run.before.answered)
        (cut_records d (run.held ++ run.piece) run.between.output t.output run.breaks)
        (grown_answered (start ++ run.before.bytes) run.held s.output run.between.output run.before.answered) (grown_cut (run.held ++ run.piece) run.between.output t.output run.breaks)
    grown_end start (Fault fault) s t run =
        then s.output.answerer run.between.answerer t.output.answerer (answered_records d (start ++ run.progress.bytes) run.rest s.output run.between run.progress.answered)
        (fault_records d run.rest fault run.between.answerer t.output.answerer run.faulted)
        (grown_answered (start ++ run.progress.bytes) run.rest s.output run.between run.progress.answered) (grown_fault run.rest fault run.between.answerer t.output.answerer run.faulted)

    pub served_grows : ServedGrows d R N
    served_grows = record { answered = grown_answered; faulted = grown_faulted; ended = grown_end }
