-- How one item of a connection is answered. Other seats may act between any two of its calls.
use Rattle.std.specs.Prelude.{◌≡◌, ◌⊎◌, ℕ, List, [], Option}
use Rattle.rtsp_grammar.specs.declared.message.Item.{Item}
use Rattle.rtsp_grammar.specs.declared.message.Item.TheVariants as items
use Rattle.rtsp_grammar.specs.declared.message.Request.{Request}
use Rattle.rtsp_grammar.specs.declared.message.Response.{Response}
use Rattle.rtsp_grammar.specs.Writing.{response_text}
use Rattle.rtsp_record.specs.Books.{Session}
use Rattle.rtsp_state.specs.declared.request.Screen.{Screen}
use Rattle.rtsp_state.specs.declared.request.Screen.TheVariants.{Answered, Asks}
use Rattle.rtsp_state.specs.ParsedRequest.{ParsedValue}
use Rattle.rtsp_state.specs.Screen.{screen}
use Rattle.rtsp_state.specs.StateTable.{decide}
use Rattle.rtsp_engine.specs.Conducting.{Conducts, DoesNothing}
use Rattle.rtsp_engine.specs.Desk.{Service, State}
use Rattle.rtsp_traits.specs.Devices.{Devices}
use Rattle.rtsp_engine.specs.Renewing.{Looks, Renews, RefusesRenewal}

module _ {B W C P S : Type 0} (d : Devices B W C P S) (service : Service) where
  -- the session that the request names is looked up, and the clock is read
  pub record Finds (request : ParsedValue) (found : Option (ℕ × Session)) (moment : ℕ) (s t : State B W C P S) : Type 0 where
    pub looks : Looks service.asker.conn request.name found s.view t.view
    pub clock : d.clock s.clock moment t.clock
    pub binder : t.binder ≡ s.binder
    pub words : t.words ≡ s.words
    pub plays : t.plays ≡ s.plays
    pub shares : t.shares ≡ s.shares

  -- the session is renewed, and nothing else is done
  pub record OnlyRenews (request : ParsedValue) (found again : Option (ℕ × Session)) (moment : ℕ) (s t : State B W C P S) : Type 0 where
    pub renews : Renews service request moment found again s.view t.view
    pub others : t ≡ record s { view = t.view }

  abbrev pub ConductsRenewed : List ℕ → ParsedValue → Option (ℕ × Session) → ℕ → Response → State B W C P S → State B W C P S → Type 0
  ConductsRenewed uri request view moment response s t =
      Conducts d service.asker uri (decide service.table request view service.asker.peer moment) response s t

  -- the request is conducted with the session as it is after its renewal
  pub record Proceeds (uri : List ℕ) (request : ParsedValue) (found : Option (ℕ × Session)) (moment : ℕ) (response : Response) (s t : State B W C P S) : Type 0 where
    pub again : Option (ℕ × Session)
    pub mid : State B W C P S
    pub renews : OnlyRenews request found again moment s mid
    pub conducts : ConductsRenewed uri request again moment response mid t

  -- a refused renewal ends the request
  pub record Ends (request : ParsedValue) (found : Option (ℕ × Session)) (moment : ℕ) (response : Response) (s t : State B W C P S) : Type 0 where
    pub refuses : RefusesRenewal service request moment found response s.view t.view
    pub others : t ≡ record s { view = t.view }

  abbrev pub RespondsFound : List ℕ → ParsedValue → Option (ℕ × Session) → ℕ → Response → State B W C P S → State B W C P S → Type 0
  RespondsFound uri request found moment response s t =
      Proceeds uri request found moment response s t ⊎ Ends request found moment response s t

  -- a request that nothing refuses before its session is looked up
  pub record RespondsParsed (uri : List ℕ) (request : ParsedValue) (response : Response) (s t : State B W C P S) : Type 0 where
    pub found : Option (ℕ × Session)
    pub moment : ℕ
    pub mid : State B W C P S
    pub finds : Finds request found moment s mid
    pub goes_on : RespondsFound uri request found moment response mid t

  abbrev pub RespondsScreened : List ℕ → Screen → Response → State B W C P S → State B W C P S → Type 0
  RespondsScreened uri (Answered given) response s t = (response ≡ given) × (t ≡ s)
  RespondsScreened uri (Asks request) response s t = RespondsParsed uri request response s t

  abbrev pub Responds : Request → Response → State B W C P S → State B W C P S → Type 0
  Responds request response s t = RespondsScreened request.uri (screen service.table request) response s t

  -- where memory runs out there is no step but the renewal
  pub record Stays (request : ParsedValue) (found : Option (ℕ × Session)) (moment : ℕ) (s t : State B W C P S) : Type 0 where
    pub again : Option (ℕ × Session)
    pub mid : State B W C P S
    pub renews : OnlyRenews request found again moment s mid
    pub nothing : DoesNothing d mid t

  abbrev pub LacksFound : ParsedValue → Option (ℕ × Session) → ℕ → State B W C P S → State B W C P S → Type 0
  LacksFound request found moment s t = Stays request found moment s t ⊎ ((response : Response) × Ends request found moment response s t)

  pub record OnlyFinds (request : ParsedValue) (s t : State B W C P S) : Type 0 where
    pub found : Option (ℕ × Session)
    pub moment : ℕ
    pub mid : State B W C P S
    pub finds : Finds request found moment s mid
    pub goes_on : LacksFound request found moment mid t

  abbrev pub LacksScreened : Screen → State B W C P S → State B W C P S → Type 0
  LacksScreened (Answered given) s t = t ≡ s
  LacksScreened (Asks request) s t = OnlyFinds request s t

  abbrev pub Lacks : Request → State B W C P S → State B W C P S → Type 0
  Lacks request s t = (t ≡ s) ⊎ LacksScreened (screen service.table request) s t

  -- an item is answered: a request by the text of its one response, a response and a frame by nothing
  abbrev pub Answers : Item → List ℕ → State B W C P S → State B W C P S → Type 0
  Answers (items.Request request) bytes s t = (response : Response) × Responds request response s t × (bytes ≡ response_text response)
  Answers (items.Response response) bytes s t = (bytes ≡ []) × (t ≡ s)
  Answers (items.Frame frame) bytes s t = (bytes ≡ []) × (t ≡ s)

  -- an item has no answer, for want of memory
  abbrev pub GivesUp : Item → State B W C P S → State B W C P S → Type 0
  GivesUp (items.Request request) s t = Lacks request s t
  GivesUp (items.Response response) s t = t ≡ s
  GivesUp (items.Frame frame) s t = t ≡ s
