-- How a plan is conducted.
use Rattle.std.specs.Prelude.{◌≡◌, ◌⊎◌, ℕ, List, [], Option, Some, None, Result, Ok, Err}
use Rattle.rtsp_grammar.specs.declared.message.Response.{Response}
use Rattle.rtsp_record.specs.declared.changes.Record.{Record}
use Rattle.rtsp_record.specs.declared.phases.Phase.{Phase}
use Rattle.rtsp_record.specs.declared.holdings.Thing.{Thing}
use Rattle.rtsp_book.specs.declared.asks.Admitted.{Admitted}
use Rattle.rtsp_book.specs.declared.refusals.Refusal.{Refusal}
use Rattle.rtsp_book.specs.declared.steps.Step.{Step}
use Rattle.rtsp_book.specs.declared.steps.Step.TheVariants as step
use Rattle.rtsp_lock.specs.declared.view.View.{View}
use Rattle.rtsp_lock.specs.Calls.{Acted}
use Rattle.rtsp_lock.specs.Numbers.{admission_of}
use Rattle.rtsp_admit.specs.Binder.{UnboundAll, freed_addresses}
use Rattle.rtsp_admit.specs.Runs.{Admits}
use Rattle.rtsp_state.specs.declared.fault.Fault.TheVariants as faults
use Rattle.rtsp_state.specs.declared.plan.Plan.{Plan}
use Rattle.rtsp_state.specs.declared.plan.Plan.TheVariants as plans
use Rattle.rtsp_state.specs.declared.step_plan.StepPlan.{StepPlan}
use Rattle.rtsp_state.specs.declared.setup_plan.Drawn.{Drawn}
use Rattle.rtsp_state.specs.declared.setup_plan.SetupPlan.{SetupPlan}
use Rattle.rtsp_state.specs.declared.status.Status.TheVariants.{ServerError, Unavailable}
use Rattle.rtsp_state.specs.Answer.{moved, step_answer, setup_answer}
use Rattle.rtsp_state.specs.Response.{refused}
use Rattle.rtsp_state.specs.SetupPlan.{setup_start, ask_of}
use Rattle.rtsp_engine.specs.Desk.{State}
use Rattle.rtsp_traits.specs.Devices.{Devices, Noted, Settled, UsesPlace, LacksPlace, RefusesNone}
use Rattle.rtsp_engine.specs.Drawing.{opens, GivesWords, LacksWord, DrawsNumbers, LacksNumber}
use Rattle.rtsp_engine.specs.declared.conducting.SetUp.{SetUp}
use Rattle.rtsp_engine.specs.declared.conducting.SetUp.TheVariants.{NoShare, NoWord, NoNumber, Tried}
use Rattle.rtsp_engine.specs.declared.desk.Asker.{Asker}
use Rattle.rtsp_engine.specs.declared.drawing.GivenWords.{GivenWords}
use Rattle.rtsp_engine.specs.declared.drawing.Lacking.{Lacking}
use Rattle.rtsp_engine.specs.declared.drawing.AdmissionNumbers.{AdmissionNumbers}
use Rattle.rtsp_engine.specs.declared.drawing.Spent.{Spent}

-- the session of a play that a step begins
abbrev pub played : Step → Option ℕ
played (step.Play play) = Some play.session
played other = None

-- the step of a plan names no number under which it would hold or add
abbrev pub NamesNoNumber : Plan → Type 0
NamesNoNumber (plans.Step plan) = admission_of plan.step ≡ None
NamesNoNumber other = Unit {0}

-- the ports that a step freed, each under its admission
abbrev pub freed_by : Result (List Record) Refusal → List (ℕ × Thing)
freed_by (Ok made) = freed_addresses made
freed_by (Err refusal) = []

-- the phase that a step moved to; none where it was refused
abbrev pub moved_by : Result (List Record) Refusal → Option Phase
moved_by (Ok made) = moved made
moved_by (Err refusal) = None

-- what is drawn for an admission
abbrev pub drawn_with : ℕ → GivenWords → AdmissionNumbers → Drawn
drawn_with conn given n = record {
  conn = conn;
  key = n.key;
  admission = n.admission;
  ssrc = given.ssrc;
  seq = given.seq;
  rtptime = given.rtptime;
}

-- the session of an admission that was granted
abbrev pub opened : SetUp → Option ℕ
opened (Tried n (Ok granted)) = Some n.key.session
opened other = None

-- a track that was to be set up didn't fail for want of a place in the asker's share
abbrev pub HasPlace : SetUp → Type 0
HasPlace NoShare = ⊥
HasPlace (NoWord at) = Unit {0}
HasPlace (NoNumber at) = Unit {0}
HasPlace (Tried n made) = Unit {0}

-- the response to a track that was to be set up: 503 beyond the asker's share, 500 without words, 503 without numbers; where it is granted over UDP,
-- with the host that packets come from, where it has to be told
abbrev pub setup_response : SetupPlan → Option ℕ → SetUp → Response
setup_response plan source NoShare = refused (setup_start plan) (faults.Refused Unavailable)
setup_response plan source (NoWord at) = refused (setup_start plan) (faults.Refused ServerError)
setup_response plan source (NoNumber at) = refused (setup_start plan) (faults.Refused Unavailable)
setup_response plan source (Tried n made) = setup_answer plan source n.key made

module _ {B W C P S : Type 0} (d : Devices B W C P S) where
  -- a play is noted; the step is acted, and the ports that it freed are unbound; the play is settled by the phase that it began, and the outcome
  -- answered
  pub record ConductsStep (uri : List ℕ) (plan : StepPlan) (response : Response) (s t : State B W C P S) : Type 0 where
    pub between : P
    pub noted : Noted d.plays (played plan.step) plan.start.cseq uri s.plays between
    pub made : Result (List Record) Refusal
    pub acted : Acted s.view t.view plan.step made
    pub unbound : UnboundAll d.binder (freed_by made) s.binder t.binder
    pub settled : Settled d.plays (played plan.step) (moved_by made) between t.plays
    pub answer : response ≡ step_answer plan made
    pub words : t.words ≡ s.words
    pub clock : t.clock ≡ s.clock
    pub shares : t.shares ≡ s.shares

  -- words are drawn, then numbers, and the admission is made with them
  pub record Tries (conn : ℕ) (plan : SetupPlan) (n : AdmissionNumbers) (made : Result Admitted Refusal) (s t : State B W C P S) : Type 0 where
    pub given : GivenWords
    pub words : GivesWords d.words (opens plan.session) given s.words t.words
    pub between : View
    pub numbers : DrawsNumbers plan.session given.id n s.view between
    pub admits : Admits d.binder (ask_of plan (drawn_with conn given n)) made (record { view = between; binder = s.binder }) (record { view = t.view; binder = t.binder })

  -- the asker's share is spent: no word is drawn and no number, and there is no entry
  pub record StopsAtShare (s t : State B W C P S) : Type 0 where
    pub words : t.words ≡ s.words
    pub view : t.view ≡ s.view
    pub binder : t.binder ≡ s.binder

  -- a word can't be had, and no number is drawn
  pub record StopsAtWord (plan : SetupPlan) (at : Lacking) (s t : State B W C P S) : Type 0 where
    pub word : LacksWord d.words (opens plan.session) at s.words t.words
    pub view : t.view ≡ s.view
    pub binder : t.binder ≡ s.binder

  -- the words are drawn, and a number isn't left
  pub record StopsAtNumber (plan : SetupPlan) (at : Spent) (s t : State B W C P S) : Type 0 where
    pub given : GivenWords
    pub words : GivesWords d.words (opens plan.session) given s.words t.words
    pub number : LacksNumber plan.session at s.view t.view
    pub binder : t.binder ≡ s.binder

  -- how far a track that is to be set up comes
  abbrev pub SetsUp : ℕ → SetupPlan → SetUp → State B W C P S → State B W C P S → Type 0
  SetsUp conn plan NoShare s t = StopsAtShare s t
  SetsUp conn plan (NoWord at) s t = StopsAtWord plan at s t
  SetsUp conn plan (NoNumber at) s t = StopsAtNumber plan at s t
  SetsUp conn plan (Tried n made) s t = Tries conn plan n made s t

  -- where a session is to be opened, a place for it was taken and settled, by the session that was opened, or by none; or there was no place
  abbrev pub AsksShare : ℕ → SetupPlan → SetUp → State B W C P S → State B W C P S → Type 0
  AsksShare peer plan NoShare s t = LacksPlace d.shares (opens plan.session) peer s.shares t.shares
  AsksShare peer plan outcome s t = UsesPlace d.shares (opens plan.session) peer (opened outcome) s.shares t.shares

  pub record ConductsSetup (asker : Asker) (plan : SetupPlan) (response : Response) (s t : State B W C P S) : Type 0 where
    pub outcome : SetUp
    pub comes : SetsUp asker.conn plan outcome s t
    pub shares : AsksShare asker.peer plan outcome s t
    pub answer : response ≡ setup_response plan asker.source outcome
    pub clock : t.clock ≡ s.clock
    pub plays : t.plays ≡ s.plays

  abbrev pub Conducts : Asker → List ℕ → Plan → Response → State B W C P S → State B W C P S → Type 0
  Conducts asker uri (plans.Answer given) response s t = (response ≡ given) × (t ≡ s)
  Conducts asker uri (plans.Step plan) response s t = ConductsStep uri plan response s t
  Conducts asker uri (plans.Admit plan) response s t = ConductsSetup asker plan response s t

  -- nothing is done, for want of memory; perhaps a play could not be noted
  pub record DoesNothing (s t : State B W C P S) : Type 0 where
    pub view : t.view ≡ s.view
    pub binder : t.binder ≡ s.binder
    pub words : t.words ≡ s.words
    pub clock : t.clock ≡ s.clock
    pub shares : t.shares ≡ s.shares
    pub plays : (t.plays ≡ s.plays) ⊎ d.plays.lacks s.plays t.plays

  -- where no place is ever refused no SETUP ends for want of one
  abbrev pub NeverWantsPlace : Type 0
  NeverWantsPlace = RefusesNone d.shares → (asker : Asker) (plan : SetupPlan) (response : Response) (s t : State B W C P S) (run : ConductsSetup asker plan response s t) → HasPlace run.outcome
