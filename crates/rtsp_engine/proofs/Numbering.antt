-- What looks, steps and admissions keep of a seat, the answers to the items of its connection keep.
use Rattle.std.proofs.Common.{◌≡◌, ℕ, List, [], ◌∷◌, refl, ap, sym, subst, inl, inr, Result, Ok, Err}
use Rattle.std.specs.Prelude.{Option, Some, None}
use Rattle.std.proofs.lemmas.Option.{same_Some}
use Rattle.rtsp_grammar.specs.declared.message.Item.{Item}
use Rattle.rtsp_grammar.specs.declared.message.Item.TheVariants as items
use Rattle.rtsp_grammar.specs.declared.message.Response.{Response}
use Rattle.rtsp_record.specs.declared.changes.Record.{Record}
use Rattle.rtsp_record.specs.Books.{Session}
use Rattle.rtsp_book.specs.declared.asks.Admitted.{Admitted}
use Rattle.rtsp_book.specs.declared.asks.Ask.{Ask}
use Rattle.rtsp_book.specs.declared.refusals.Refusal.{Refusal}
use Rattle.rtsp_book.specs.declared.steps.Step.{Step}
use Rattle.rtsp_book.specs.declared.steps.Step.TheVariants as step
use Rattle.rtsp_lock.specs.declared.view.View.{View}
use Rattle.rtsp_lock.specs.Entries.{Has}
use Rattle.rtsp_lock.specs.Calls.{Acted, Looked}
use Rattle.rtsp_admit.specs.Binder.{Calls}
use Rattle.rtsp_lock.specs.Numbers.{admission_of}
use Rattle.rtsp_admit.specs.Runs.{Admits}
use Rattle.rtsp_admit.specs.Runs as runs
use Rattle.rtsp_admit.proofs.Drawing.{has_last}
use Rattle.rtsp_content.specs.TableValue.{TableValue}
use Rattle.rtsp_state.specs.Context.{Living}
use Rattle.rtsp_state.specs.Renewal.{renewal}
use Rattle.rtsp_state.specs.Laws.{session_in, StepsIn}
use Rattle.rtsp_state.specs.declared.plan.Plan.{Plan}
use Rattle.rtsp_state.specs.declared.plan.Plan.TheVariants as plans
use Rattle.rtsp_state.specs.declared.request.Name.{Name}
use Rattle.rtsp_state.specs.declared.request.Screen.{Screen}
use Rattle.rtsp_state.specs.declared.request.Screen.TheVariants as screens
use Rattle.rtsp_state.specs.declared.setup_plan.SetupPlan.{SetupPlan}
use Rattle.rtsp_state.specs.declared.setup_plan.SetupSession.{SetupSession}
use Rattle.rtsp_state.specs.declared.setup_plan.SetupSession.TheVariants.{New, Living as Lives}
use Rattle.rtsp_state.specs.declared.step_plan.StepPlan.{StepPlan}
use Rattle.rtsp_state.specs.ParsedRequest.{ParsedValue}
use Rattle.rtsp_state.specs.Screen.{screen}
use Rattle.rtsp_state.specs.SetupPlan.{ask_of}
use Rattle.rtsp_state.specs.StateTable.{decide}
use Rattle.rtsp_state.proofs.ShownLemmas.{shows_session}
use Rattle.rtsp_engine.specs.Conducting.{NamesNoNumber, drawn_with, SetsUp, Conducts}
use Rattle.rtsp_engine.specs.Conversing.{Finds, Ends, RespondsFound, RespondsScreened, LacksFound, LacksScreened, Answers, GivesUp}
use Rattle.rtsp_engine.specs.Desk.{Service, State}
use Rattle.rtsp_traits.specs.Devices.{Devices}
use Rattle.rtsp_engine.specs.Drawing.{DrawsNumbers, LacksNumber}
use Rattle.rtsp_engine.specs.Renewing.{Looks, LooksAgain, RenewsBy, Renews, renewing, renewal_at}
use Rattle.rtsp_engine.specs.declared.conducting.SetUp.{SetUp}
use Rattle.rtsp_engine.specs.declared.conducting.SetUp.TheVariants.{NoShare, NoWord, NoNumber, Tried}
use Rattle.rtsp_engine.specs.declared.desk.Asker.{Asker}
use Rattle.rtsp_engine.specs.declared.drawing.AdmissionNumbers.{AdmissionNumbers}
use Rattle.rtsp_engine.specs.declared.drawing.Spent.{Spent}
use Rattle.rtsp_engine.specs.declared.drawing.Spent.TheVariants as spent

-- a step of a living session holds and adds under no admission
names_none : (step : Step) (n : ℕ) → session_in step ≡ Some n → admission_of step ≡ None
names_none (step.Open l) n is = absurd cc
names_none (step.HoldRate s a bits) n is = absurd cc
names_none (step.HoldPair s a from) n is = absurd cc
names_none (step.HoldPort s a from) n is = absurd cc
names_none (step.HoldChan h) n is = absurd cc
names_none (step.Return s a x) n is = absurd cc
names_none (step.Commit c) n is = absurd cc
names_none (step.Play p) n is = refl
names_none (step.Pause s unit_ms now) n is = refl
names_none (step.Finish s unit_ms now) n is = absurd cc
names_none (step.Touch s until) n is = absurd cc
names_none (step.Unwind c) n is = absurd cc
names_none (step.DropTrack s t) n is = refl
names_none (step.End s) n is = refl
names_none (step.Expire now) n is = absurd cc
names_none (step.Hangup conn) n is = absurd cc

names_none_in : (view : Option Living) (step : Step) → StepsIn view step → admission_of step ≡ None
names_none_in None step is = absurd is
names_none_in (Some v) step is = names_none step v.0 is

-- so do the steps that are decided
planned : (table : TableValue) (request : ParsedValue) (view : Option Living) (peer moment : ℕ) (plan : StepPlan) → decide table request view peer moment ≡ plans.Step plan → admission_of plan.step ≡ None
planned table request view peer moment plan is =
    names_none_in view plan.step (shows_session.steps_in (record { table = table; request = request; view = view; peer = peer; moment = moment }) plan is)

-- and so the plan that is decided
pub plan_names : (table : TableValue) (request : ParsedValue) (view : Option Living) (peer moment : ℕ) (plan : Plan) → plan ≡ decide table request view peer moment → NamesNoNumber plan
plan_names table request view peer moment (plans.Answer reply) is = tt
plan_names table request view peer moment (plans.Step plan) is = planned table request view peer moment plan (sym is)
plan_names table request view peer moment (plans.Admit plan) is = tt

-- numbers that were drawn for an admission have its own among them
pub draws_number : (session : SetupSession) (id : ℕ) (n : AdmissionNumbers) (v u : View) → DrawsNumbers session id n v u → Has u.drawn n.admission
draws_number (New expires startup) id n v u run = subst (λ d. Has d n.admission) (sym run.admission.drew.drawn) (has_last run.between.drawn n.admission)
draws_number (Lives key) id n v u run = subst (λ d. Has d n.admission) (sym run.1.drew.drawn) (has_last v.drawn n.admission)

-- a renewal is a Touch
touch_is : (view : ℕ × Session) (until : Option ℕ) (t : Step) → renewing view until ≡ Some t → admission_of t ≡ None
touch_is view (Some until) t is = ap admission_of (sym (same_Some (step.Touch view.0 until) t is))
touch_is view None t is = absurd cc

-- what is kept over each kind of call
pub record EachKeeps {B : Type 0} (calls : Calls B) (N : View → Type 0) : Type 0 where
  pub looked : (v u : View) → Looked v u → N v → N u
  pub acted : (v u : View) (step : Step) (answer : Result (List Record) Refusal) → admission_of step ≡ None → Acted v u step answer → N v → N u
  pub admitted : (ask : Ask) (result : Result Admitted Refusal) (s t : runs.State B) → Admits calls ask result s t → Has s.view.drawn ask.admission → N s.view → N t.view

module _ {B W C P S : Type 0} (d : Devices B W C P S) (N : View → Type 0) (each : EachKeeps d.binder N) where
  still : (v u : View) → u ≡ v → N v → N u
  still v u same own = subst N (sym same) own

  keeps_looks : (conn : ℕ) (name : Option Name) (found : Option (ℕ × Session)) (v u : View) → Looks conn name found v u → N v → N u
  keeps_looks conn None found v u run own = still v u run.1 own
  keeps_looks conn (Some name) found v u run own = each.looked v u run.0 own

  keeps_looks_again : (conn : ℕ) (name : Option Name) (made : List Record) (found again : Option (ℕ × Session)) (v u : View) → LooksAgain conn name made found again v u → N v → N u
  keeps_looks_again conn name [] found again v u run own = still v u run.1 own
  keeps_looks_again conn name (r ∷ made) found again v u run own = keeps_looks conn name again v u run own

  keeps_touch : (conn : ℕ) (name : Option Name) (touch : Option Step) (found again : Option (ℕ × Session)) (v u : View)
      → ((t : Step) → touch ≡ Some t → admission_of t ≡ None) → RenewsBy conn name touch found again v u → N v → N u
  keeps_touch conn name None found again v u none run own = still v u run.1 own
  keeps_touch conn name (Some touch) found again v u none run own =
      keeps_looks_again conn name run.made found again run.between u run.looks (each.acted v run.between touch (Ok run.made) (none touch refl) run.acted own)

  -- numbers are drawn, the admission's among them
  pub keeps_numbers : (session : SetupSession) (id : ℕ) (n : AdmissionNumbers) (v u : View) → DrawsNumbers session id n v u → N v → N u × Has u.drawn n.admission
  keeps_numbers (New expires startup) id n v u run own = (
    each.looked run.between u run.admission.looked (each.looked v run.between run.session.looked own),
    subst (λ d. Has d n.admission) (sym run.admission.drew.drawn) (has_last run.between.drawn n.admission),
  )
  keeps_numbers (Lives key) id n v u run own = (each.looked v u run.1.looked own, subst (λ d. Has d n.admission) (sym run.1.drew.drawn) (has_last v.drawn n.admission))

  keeps_spent : (session : SetupSession) (at : Spent) (v u : View) → LacksNumber session at v u → N v → N u
  keeps_spent (New expires startup) spent.Session v u run own = each.looked v u run.looked own
  keeps_spent (New expires startup) spent.Admission v u run own = each.looked run.between u run.lacks.looked (each.looked v run.between run.draws.looked own)
  keeps_spent (Lives key) spent.Session v u run own = absurd run
  keeps_spent (Lives key) spent.Admission v u run own = each.looked v u run.looked own

  same_view : (s t : State B W C P S) → t ≡ s → N s.view → N t.view
  same_view s t same own = still s.view t.view (ap (λ (x : State B W C P S). x.view) same) own

  pub keeps_setup : (conn : ℕ) (plan : SetupPlan) (outcome : SetUp) (s t : State B W C P S) → SetsUp d conn plan outcome s t → N s.view → N t.view
  keeps_setup conn plan NoShare s t run own = still s.view t.view run.view own
  keeps_setup conn plan (NoWord at) s t run own = still s.view t.view run.view own
  keeps_setup conn plan (NoNumber at) s t run own = keeps_spent plan.session at s.view t.view run.number own
  keeps_setup conn plan (Tried n made) s t run own =
      let drawn = keeps_numbers plan.session run.given.id n s.view run.between run.numbers own in
      each.admitted (ask_of plan (drawn_with conn run.given n)) made (record { view = run.between; binder = s.binder }) (record { view = t.view; binder = t.binder }) run.admits drawn.1 drawn.0

  pub keeps_plan : (asker : Asker) (uri : List ℕ) (plan : Plan) (response : Response) (s t : State B W C P S)
      → ((p : StepPlan) → plan ≡ plans.Step p → admission_of p.step ≡ None) → Conducts d asker uri plan response s t → N s.view → N t.view
  keeps_plan asker uri (plans.Answer given) response s t none run own = same_view s t run.1 own
  keeps_plan asker uri (plans.Step plan) response s t none run own = each.acted s.view t.view plan.step run.made (none plan refl) run.acted own
  keeps_plan asker uri (plans.Admit plan) response s t none run own = keeps_setup asker.conn plan run.outcome s t run.comes own

  module _ (service : Service) where
    touches : (request : ParsedValue) (moment : ℕ) (found : Option (ℕ × Session)) (t : Step) → renewal_at service request moment found ≡ Some t → admission_of t ≡ None
    touches request moment (Some view) t is = touch_is view (renewal service.table request view moment) t is
    touches request moment None t is = absurd cc

    pub keeps_renewal : (request : ParsedValue) (moment : ℕ) (found again : Option (ℕ × Session)) (v u : View) → Renews service request moment found again v u → N v → N u
    keeps_renewal request moment found again v u run own =
        keeps_touch service.asker.conn request.name (renewal_at service request moment found) found again v u (touches request moment found) run own

    keeps_ends : (request : ParsedValue) (found : Option (ℕ × Session)) (moment : ℕ) (response : Response) (s t : State B W C P S) → Ends d service request found moment response s t → N s.view → N t.view
    keeps_ends request found moment response s t run own =
        let r = run.refuses in
        each.acted s.view t.view (step.Touch r.session.0 r.until) (Err r.refused.refusal) refl r.refused.acted own

    keeps_found : (uri : List ℕ) (request : ParsedValue) (found : Option (ℕ × Session)) (moment : ℕ) (response : Response) (s t : State B W C P S)
        → RespondsFound d service uri request found moment response s t → N s.view → N t.view
    keeps_found uri request found moment response s t (inl run) own =
        keeps_plan service.asker uri (decide service.table request run.again service.asker.peer moment) response run.mid t (planned service.table request run.again service.asker.peer moment) run.conducts
        (keeps_renewal request moment found run.again s.view run.mid.view run.renews.renews own)
    keeps_found uri request found moment response s t (inr refused) own = keeps_ends request found moment response s t refused own

    pub keeps_finds : (request : ParsedValue) (found : Option (ℕ × Session)) (moment : ℕ) (s t : State B W C P S) → Finds d service request found moment s t → N s.view → N t.view
    keeps_finds request found moment s t run own = keeps_looks service.asker.conn request.name found s.view t.view run.looks own

    keeps_response : (uri : List ℕ) (screened : Screen) (response : Response) (s t : State B W C P S) → RespondsScreened d service uri screened response s t → N s.view → N t.view
    keeps_response uri (screens.Answered given) response s t run own = same_view s t run.1 own
    keeps_response uri (screens.Asks request) response s t run own =
        keeps_found uri request run.found run.moment response run.mid t run.goes_on (keeps_finds request run.found run.moment s run.mid run.finds own)

    keeps_lack : (request : ParsedValue) (found : Option (ℕ × Session)) (moment : ℕ) (s t : State B W C P S) → LacksFound d service request found moment s t → N s.view → N t.view
    keeps_lack request found moment s t (inl run) own =
        still run.mid.view t.view run.nothing.view (keeps_renewal request moment found run.again s.view run.mid.view run.renews.renews own)
    keeps_lack request found moment s t (inr refused) own = keeps_ends request found moment refused.0 s t refused.1 own

    keeps_screen : (screened : Screen) (s t : State B W C P S) → LacksScreened d service screened s t → N s.view → N t.view
    keeps_screen (screens.Answered given) s t run own = same_view s t run own
    keeps_screen (screens.Asks request) s t run own = keeps_lack request run.found run.moment run.mid t run.goes_on (keeps_finds request run.found run.moment s run.mid run.finds own)

    -- an item that is answered
    pub keeps_item : (item : Item) (bytes : List ℕ) (s t : State B W C P S) → Answers d service item bytes s t → N s.view → N t.view
    keeps_item (items.Request request) bytes s t run own = keeps_response request.uri (screen service.table request) run.0 s t run.1 own
    keeps_item (items.Response response) bytes s t run own = same_view s t run.1 own
    keeps_item (items.Frame frame) bytes s t run own = same_view s t run.1 own

    -- one that has no answer
    pub keeps_lost : (item : Item) (s t : State B W C P S) → GivesUp d service item s t → N s.view → N t.view
    keeps_lost (items.Request request) s t (inl same) own = same_view s t same own
    keeps_lost (items.Request request) s t (inr run) own = keeps_screen (screen service.table request) s t run own
    keeps_lost (items.Response response) s t run own = same_view s t run own
    keeps_lost (items.Frame frame) s t run own = same_view s t run own
