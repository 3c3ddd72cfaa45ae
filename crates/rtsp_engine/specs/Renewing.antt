-- How the session that a request names is looked up and renewed.
use Rattle.std.specs.Prelude.{◌≡◌, ℕ, List, [], ◌∷◌, Option, Some, None, Ok, Err}
use Rattle.rtsp_grammar.specs.declared.message.Response.{Response}
use Rattle.rtsp_record.specs.declared.changes.Record.{Record}
use Rattle.rtsp_record.specs.Books.{Session, book_of}
use Rattle.rtsp_book.specs.declared.refusals.Refusal.{Refusal}
use Rattle.rtsp_book.specs.declared.steps.Step.{Step}
use Rattle.rtsp_book.specs.declared.steps.Step.TheVariants as step
use Rattle.rtsp_lock.specs.declared.names.Name.{Name as LockName}
use Rattle.rtsp_lock.specs.declared.names.Name.TheVariants as names
use Rattle.rtsp_lock.specs.declared.view.View.{View}
use Rattle.rtsp_lock.specs.Calls.{Acted, Looked}
use Rattle.rtsp_lock.specs.Named.{session_named}
use Rattle.rtsp_state.specs.declared.request.Name.{Name}
use Rattle.rtsp_state.specs.declared.request.Name.TheVariants.{Id, Startup}
use Rattle.rtsp_state.specs.ParsedRequest.{ParsedValue}
use Rattle.rtsp_state.specs.Renewal.{renewal, renewal_refused}
use Rattle.rtsp_engine.specs.Desk.{Service}

-- a startup number is one of the connection
abbrev pub lock_name : ℕ → Name → LockName
lock_name conn (Id id) = names.Id id
lock_name conn (Startup number) = names.Startup (record { conn = conn; number = number })

-- the living session of a name, in the journal that is then seen
abbrev pub Looks : ℕ → Option Name → Option (ℕ × Session) → View → View → Type 0
Looks conn None found v u = (found ≡ None) × (u ≡ v)
Looks conn (Some name) found v u = Looked v u × (found ≡ session_named (book_of u.seen) (lock_name conn name))

-- the step that renews a session to a moment
abbrev pub renewing : ℕ × Session → Option ℕ → Option Step
renewing view (Some until) = Some (step.Touch view.0 until)
renewing view None = None

abbrev pub renewal_at : Service → ParsedValue → ℕ → Option (ℕ × Session) → Option Step
renewal_at service request moment (Some view) = renewing view (renewal service.table request view moment)
renewal_at service request moment None = None

-- the session is looked up again where its renewal was recorded
abbrev pub LooksAgain : ℕ → Option Name → List Record → Option (ℕ × Session) → Option (ℕ × Session) → View → View → Type 0
LooksAgain conn name [] found again v u = (again ≡ found) × (u ≡ v)
LooksAgain conn name (r ∷ rs) found again v u = Looks conn name again v u

-- a renewal is made, and the session is then this
pub record Renewed (conn : ℕ) (name : Option Name) (touch : Step) (found again : Option (ℕ × Session)) (v u : View) : Type 0 where
  pub made : List Record
  pub between : View
  pub acted : Acted v between touch (Ok made)
  pub looks : LooksAgain conn name made found again between u

-- the session that was found is renewed, where it is to be, and is then this
abbrev pub RenewsBy : ℕ → Option Name → Option Step → Option (ℕ × Session) → Option (ℕ × Session) → View → View → Type 0
RenewsBy conn name None found again v u = (again ≡ found) × (u ≡ v)
RenewsBy conn name (Some touch) found again v u = Renewed conn name touch found again v u

-- the session is renewed to this moment
abbrev pub RenewsTo : ℕ → Option Name → ℕ × Session → ℕ → Option (ℕ × Session) → Option (ℕ × Session) → View → View → Type 0
RenewsTo conn name session until found again v u = RenewsBy conn name (Some (step.Touch session.0 until)) found again v u

abbrev pub Renews : Service → ParsedValue → ℕ → Option (ℕ × Session) → Option (ℕ × Session) → View → View → Type 0
Renews service request moment found again v u =
    RenewsBy service.asker.conn request.name (renewal_at service request moment found) found again v u

-- the session's renewal to a moment is refused, and this is what is answered
pub record RefusedRenewal (request : ParsedValue) (session : ℕ × Session) (until : ℕ) (response : Response) (v u : View) : Type 0 where
  pub refusal : Refusal
  pub acted : Acted v u (step.Touch session.0 until) (Err refusal)
  pub answer : response ≡ renewal_refused request session refusal

-- its renewal is refused, and this is what is answered
pub record RefusesRenewal (service : Service) (request : ParsedValue) (moment : ℕ) (found : Option (ℕ × Session)) (response : Response) (v u : View) : Type 0 where
  pub session : ℕ × Session
  pub lives : found ≡ Some session
  pub until : ℕ
  pub renewal : renewal service.table request session moment ≡ Some until
  pub refused : RefusedRenewal request session until response v u
