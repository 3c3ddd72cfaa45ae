-- What a desk writes into a room: each part of a conversation, with its response behind what is there; and what it may have done where
-- memory ran out. Each is said of the desk and the room before, and of the desk and the room after.
use Rattle.std.specs.Prelude.{◌≡◌, ℕ, List, ◌++◌, Option}
use Rattle.rtsp_grammar.specs.declared.message.Request.{Request}
use Rattle.rtsp_grammar.specs.declared.message.Response.{Response}
use Rattle.rtsp_grammar.specs.Writing.{response_text}
use Rattle.rtsp_record.specs.Books.{Session}
use Rattle.rtsp_state.specs.declared.plan.Plan.{Plan}
use Rattle.rtsp_state.specs.declared.step_plan.StepPlan.{StepPlan}
use Rattle.rtsp_state.specs.declared.setup_plan.SetupPlan.{SetupPlan}
use Rattle.rtsp_state.specs.ParsedRequest.{ParsedValue}
use Rattle.rtsp_state.specs.Room.{RoomText}
use Rattle.rtsp_engine.specs.Conducting.{ConductsStep, ConductsSetup, Conducts, DoesNothing}
use Rattle.rtsp_engine.specs.Conversing.{ConductsRenewed, RespondsFound, RespondsParsed, Responds, LacksFound, OnlyFinds, Lacks}
use Rattle.rtsp_engine.specs.Desk.{state, service}
use Rattle.rtsp_traits.specs.Devices.{Devices}
use Rattle.rtsp_engine.specs.declared.desk.Desk.{Desk}

-- such a response is written behind what is there
pub record Writes (Is : Response → Type 0) (old new : List ℕ) : Type 0 where
  pub response : Response
  pub is : Is response
  pub text : new ≡ old ++ response_text response

module _ {R B W C P S N : Type 0} (d : Devices B W C P S) where
  -- the outcome of a step
  abbrev pub WritesStep : List ℕ → StepPlan → Desk R B W C P S N → RoomText → Desk R B W C P S N → RoomText → Type 0
  WritesStep uri plan s old t new = Writes (λ r. ConductsStep d uri plan r (state s) (state t)) old.text new.text

  -- that of an admission
  abbrev pub WritesSetup : SetupPlan → Desk R B W C P S N → RoomText → Desk R B W C P S N → RoomText → Type 0
  WritesSetup plan s old t new = Writes (λ r. ConductsSetup d s.asker plan r (state s) (state t)) old.text new.text

  -- that of a plan
  abbrev pub WritesOutcome : List ℕ → Plan → Desk R B W C P S N → RoomText → Desk R B W C P S N → RoomText → Type 0
  WritesOutcome uri plan s old t new = Writes (λ r. Conducts d s.asker uri plan r (state s) (state t)) old.text new.text

  -- the response to a request whose session was renewed, and is now this
  abbrev pub WritesRenewed : List ℕ → ParsedValue → Option (ℕ × Session) → ℕ → Desk R B W C P S N → RoomText → Desk R B W C P S N → RoomText → Type 0
  WritesRenewed uri request session moment s old t new =
      Writes (λ r. ConductsRenewed d (service s) uri request session moment r (state s) (state t)) old.text new.text

  -- the response to a request whose session was found at this moment
  abbrev pub WritesFound : List ℕ → ParsedValue → Option (ℕ × Session) → ℕ → Desk R B W C P S N → RoomText → Desk R B W C P S N → RoomText → Type 0
  WritesFound uri request found moment s old t new =
      Writes (λ r. RespondsFound d (service s) uri request found moment r (state s) (state t)) old.text new.text

  -- the response to a request that nothing refuses before its session is looked up
  abbrev pub WritesParsed : List ℕ → ParsedValue → Desk R B W C P S N → RoomText → Desk R B W C P S N → RoomText → Type 0
  WritesParsed uri request s old t new = Writes (λ r. RespondsParsed d (service s) uri request r (state s) (state t)) old.text new.text

  -- the response to a request
  abbrev pub WritesResponse : Request → Desk R B W C P S N → RoomText → Desk R B W C P S N → RoomText → Type 0
  WritesResponse request s old t new = Writes (λ r. Responds d (service s) request r (state s) (state t)) old.text new.text

  -- memory ran out: for the outcome of a plan
  abbrev pub WantsOutcome : Desk R B W C P S N → Desk R B W C P S N → Type 0
  WantsOutcome s t = DoesNothing d (state s) (state t)

  -- for the response to a request whose session was found at this moment
  abbrev pub WantsFound : ParsedValue → Option (ℕ × Session) → ℕ → Desk R B W C P S N → Desk R B W C P S N → Type 0
  WantsFound request found moment s t = LacksFound d (service s) request found moment (state s) (state t)

  -- for that to one that nothing refuses before its session is looked up
  abbrev pub WantsParsed : ParsedValue → Desk R B W C P S N → Desk R B W C P S N → Type 0
  WantsParsed request s t = OnlyFinds d (service s) request (state s) (state t)

  -- for that to a request
  abbrev pub WantsResponse : Request → Desk R B W C P S N → Desk R B W C P S N → Type 0
  WantsResponse request s t = Lacks d (service s) request (state s) (state t)
