-- What of an answer changes where the content does (RFC 7826 section 13).
use Rattle.std.specs.Prelude.{◌≡◌, ◌⊎◌, ℕ, true, false, None, Option, Some, Ok, slice_get}
use Rattle.rtsp_grammar.specs.declared.message.Request.{Request}
use Rattle.rtsp_content.specs.TableValue.{TableValue, IsTableWithin}
use Rattle.rtsp_content.specs.Withdrawn.{is_withdrawn}
use Rattle.rtsp_content.specs.Offering.{is_namesake, meant_of, offered_named}
use Rattle.rtsp_content.specs.Growing.{Extends, IsSamePlace}
use Rattle.rtsp_state.specs.declared.method.Method.TheVariants as methods
use Rattle.rtsp_state.specs.declared.status.Status.TheVariants.{NotFound}
use Rattle.rtsp_state.specs.declared.fault.Fault.TheVariants.{Refused}
use Rattle.rtsp_state.specs.declared.request.Target.{Target}
use Rattle.rtsp_state.specs.declared.request.Target.TheVariants as targets
use Rattle.rtsp_state.specs.declared.request.Screen.TheVariants.{Asks}
use Rattle.rtsp_state.specs.declared.plan.Plan.TheVariants as plans
use Rattle.rtsp_state.specs.Response.{refused}
use Rattle.rtsp_state.specs.ParsedRequest.{ParsedValue}
use Rattle.rtsp_state.specs.Context.{Living}
use Rattle.rtsp_state.specs.Aim.{place_of, own_of, aimed}
use Rattle.rtsp_state.specs.StateTable.{decide, session_found, start_of}
use Rattle.rtsp_state.specs.Screen.{screen}
use Rattle.rtsp_state.specs.Renewal.{renewal}
use Rattle.rtsp_state.specs.Alike.{Has, IsSameOn, NamesSame, IsHeld, IsThere, AgreeOn}

-- the target has the name of what stands at the place, or names no presentation
abbrev pub IsOwn : TableValue → ℕ → Target → Type 0
IsOwn table own (targets.Presentation base p) = is_namesake (slice_get table.presentations own) (slice_get table.presentations p) ≡ true
IsOwn table own (targets.Track base p t) = is_namesake (slice_get table.presentations own) (slice_get table.presentations p) ≡ true
IsOwn table own targets.Server = Unit {0}
IsOwn table own targets.Star = Unit {0}

-- a request of a session for what it has is decided as before, whatever of that is withdrawn or replaced, as long as the places of both are theirs
abbrev pub PlaysOn : Type 0
PlaysOn = (old new : TableValue) → Extends old new → new.server.timeout ≡ old.server.timeout → (request : ParsedValue) (living : Living) (own : ℕ)
    → place_of (Some living) ≡ Some own → ¬ (request.method ≡ methods.Describe) → IsOwn old own request.target
    → IsSamePlace old new own → IsSameOn old new request.target
    → (peer moment : ℕ) → decide new request (Some living) peer moment ≡ decide old request (Some living) peer moment

-- the target is of the place
abbrev pub IsAt : ℕ → Target → Type 0
IsAt p (targets.Presentation base q) = q ≡ p
IsAt p (targets.Track base q t) = q ≡ p
IsAt p targets.Server = ⊥
IsAt p targets.Star = ⊥

-- a DESCRIBE of what is withdrawn, and a SETUP that would open a session of it, is 404 (section 17.4.6), unless the name is offered again
abbrev pub IsGone : Type 0
IsGone = (table : TableValue) (request : ParsedValue) (view : Option Living) (p : ℕ)
    → (request.method ≡ methods.Describe) ⊎ ((request.method ≡ methods.Setup) × (view ≡ None))
    → session_found request.method request.name view ≡ Ok tt → IsAt p request.target → is_withdrawn table.withdrawn p ≡ true
    → offered_named table (slice_get table.presentations p) ≡ None
    → (peer moment : ℕ) → decide table request view peer moment ≡ plans.Answer (refused (start_of request.cseq view) (Refused NotFound))

-- ---- all others

-- both tables mean the same by a target, for whoever has streams of a place, and have the same presentation there
pub record MeansAlike (old new : TableValue) (own : Option ℕ) (target : Target) : Type 0 where
  pub meant : aimed new own target ≡ aimed old own target
  pub stands : (aim : Target) → aimed old own target ≡ Ok aim → AgreeOn old new aim

-- a request is decided by the presentation that it means and by the session timeout, and by nothing else of a table
abbrev pub DecidesByPlace : Type 0
DecidesByPlace = (old new : TableValue) → new.server.timeout ≡ old.server.timeout → (request : ParsedValue) (view : Option Living)
    → MeansAlike old new (own_of request.method view) request.target
    → (peer moment : ℕ) → decide new request view peer moment ≡ decide old request view peer moment

-- the place that a session has streams of stands in the table, where it has one
abbrev pub HasOwn : TableValue → Option ℕ → Type 0
HasOwn table None = Unit {0}
HasOwn table (Some own) = IsHeld table own

-- nor was that place given to another
abbrev pub IsSameOwn : TableValue → TableValue → Option ℕ → Type 0
IsSameOwn old new None = Unit {0}
IsSameOwn old new (Some own) = IsSamePlace old new own

-- what the old table means by a place is the session's own, or is offered by the new one, at its place
pub record IsKeptAt (old new : TableValue) (own : Option ℕ) (p : ℕ) : Type 0 where
  pub meant : ℕ
  pub is : meant_of old own p ≡ Some meant
  pub same : IsSamePlace old new meant
  pub stays : (own ≡ Some meant) ⊎ (is_withdrawn new.withdrawn meant ≡ false)

-- the same of a target, where it is of a place
abbrev pub IsKeptOn : TableValue → TableValue → Option ℕ → Target → Type 0
IsKeptOn old new own (targets.Presentation base p) = IsKeptAt old new own p
IsKeptOn old new own (targets.Track base p t) = IsKeptAt old new own p
IsKeptOn old new own targets.Server = Unit {0}
IsKeptOn old new own targets.Star = Unit {0}

-- what is named stands in the old table, and what it means is there still, for whoever has streams of a place of the old table
pub record IsKept (old new : TableValue) (own : Option ℕ) (target : Target) : Type 0 where
  pub there : IsThere old target
  pub same : IsSameOn old new target
  pub own_there : HasOwn old own
  pub own_same : IsSameOwn old new own
  pub kept : IsKeptOn old new own target

-- a request for what is offered still, or is the session's own, is decided as before, whatever else is added, withdrawn or replaced
abbrev pub OffersRest : Type 0
OffersRest = (old new : TableValue) → Extends old new → IsTableWithin new → new.server.timeout ≡ old.server.timeout
    → (request : ParsedValue) (view : Option Living) → IsKept old new (own_of request.method view) request.target
    → (peer moment : ℕ) → decide new request view peer moment ≡ decide old request view peer moment

-- the numbers by which sessions live are the same
pub record AreTimesAlike (old new : TableValue) : Type 0 where
  pub timeout : new.server.timeout ≡ old.server.timeout
  pub renewal_step : new.server.renewal_step ≡ old.server.renewal_step

-- a session is renewed by these numbers, and by nothing else of a table
abbrev pub RenewsAlike : Type 0
RenewsAlike = (old new : TableValue) → AreTimesAlike old new → (request : ParsedValue) (living : Living) (moment : ℕ)
    → renewal new request living moment ≡ renewal old request living moment

-- whatever a request asks of the old table, it means what is offered still, or the session's own
abbrev pub KeepsAsked : TableValue → TableValue → Request → Option Living → Type 0
KeepsAsked old new request view = (parsed : ParsedValue) → screen old request ≡ Asks parsed
    → HasOwn old (own_of parsed.method view) × IsSameOwn old new (own_of parsed.method view) × IsKeptOn old new (own_of parsed.method view) parsed.target

-- both tables answer a request alike, of a session as it is: before one is looked up, when it is renewed, and when the request is decided
pub record IsAnsweredAlike (old new : TableValue) (request : Request) (view : Option Living) : Type 0 where
  pub read : screen new request ≡ screen old request
  pub renewed : (parsed : ParsedValue) (living : Living) (moment : ℕ) → renewal new parsed living moment ≡ renewal old parsed living moment
  pub decided : (parsed : ParsedValue) → screen old request ≡ Asks parsed
      → (peer moment : ℕ) → decide new parsed view peer moment ≡ decide old parsed view peer moment

-- what a request for what was there is answered stays, where that is offered still or is the session's own
abbrev pub AnswersAlike : Type 0
AnswersAlike = (old new : TableValue) → Extends old new → IsTableWithin new → AreTimesAlike old new → (request : Request) (view : Option Living)
    → Has old request → NamesSame old new request → KeepsAsked old new request view → IsAnsweredAlike old new request view
