-- What a request asks for, and what is answered.
use Rattle.std.specs.Prelude.{◌≡◌, ◌≢◌, ◌⊎◌, ℕ, Bool, true, false, List, [], codes, ⊤, if◌then◌else◌}
use Rattle.http.specs.declared.request.Parts.{Parts}
use Rattle.http_header.specs.HeaderMap.{ContainsKey}
use Rattle.http_server.specs.declared.response.Response.{Response}
use Rattle.http_uri.specs.Uri.{uri_path}
use Rattle.rtsp_status.specs.declared.asked.Asked.{Asked}
use Rattle.rtsp_status.specs.declared.asked.Asked.TheVariants as asks
use Rattle.rtsp_status.specs.declared.asked.Nearness.{Nearness}
use Rattle.rtsp_status.specs.declared.asked.Nearness.TheVariants.{Loopback, Elsewhere}
use Rattle.rtsp_status.specs.declared.shown.Shown.{Shown}

-- a method that only looks
abbrev pub IsLook : List ℕ → Type 0
IsLook method = (method ≡ codes "GET") ⊎ (method ≡ codes "HEAD")

-- whoever asks from there sees players' addresses
abbrev pub MayLook : Nearness → Bool → Type 0
MayLook near is_open = (is_open ≡ true) ⊎ (near ≡ Loopback)

-- a path at which there is nothing to look at
abbrev pub IsNothing : List ℕ → Type 0
IsNothing path =
    (path ≢ codes "/metrics") × (path ≢ codes "/") × (path ≢ codes "/healthz") × (path ≢ codes "/ready") × (path ≢ codes "/agent") × (path ≢ codes "/sessions")

-- a request of this method for this path, from there, asks for this; and whether the older text is asked for
abbrev pub Asks : List ℕ → List ℕ → Nearness → Bool → Bool → Asked → Type 0
Asks method path near is_open plain asks.Metrics = IsLook method × (path ≡ codes "/metrics") × (plain ≡ false)
Asks method path near is_open plain asks.Plain = IsLook method × (path ≡ codes "/metrics") × (plain ≡ true)
Asks method path near is_open plain asks.Page = IsLook method × (path ≡ codes "/")
Asks method path near is_open plain asks.Health = IsLook method × (path ≡ codes "/healthz")
Asks method path near is_open plain asks.Ready = (IsLook method × (path ≡ codes "/ready")) ⊎ (method ≡ codes "OPTIONS")
Asks method path near is_open plain asks.Agent = IsLook method × (path ≡ codes "/agent")
Asks method path near is_open plain asks.Sessions = IsLook method × (path ≡ codes "/sessions") × MayLook near is_open
Asks method path near is_open plain asks.Hidden = IsLook method × (path ≡ codes "/sessions") × (is_open ≡ false) × (near ≡ Elsewhere)
Asks method path near is_open plain asks.Drain = (method ≡ codes "POST") × (near ≡ Loopback) × (path ≡ codes "/drain")
Asks method path near is_open plain (asks.End session) = (method ≡ codes "POST") × (near ≡ Loopback)
Asks method path near is_open plain asks.NoSession = (method ≡ codes "POST") × (near ≡ Loopback)
Asks method path near is_open plain asks.Forbidden = (method ≡ codes "POST") × (near ≡ Elsewhere)
Asks method path near is_open plain asks.Nothing = IsLook method × IsNothing path
Asks method path near is_open plain asks.NotAllowed = ¬ IsLook method

-- a request of this method, from there, may change something
abbrev pub MayChange : List ℕ → Nearness → Type 0
MayChange method near = (method ≡ codes "POST") × (near ≡ Loopback)

-- what changes something
abbrev pub Changes : Asked → Type 0
Changes asks.Drain = ⊤
Changes (asks.End session) = ⊤
Changes other = ⊥

-- the status of each answer: of the end of a session whether there was one
abbrev pub IsCode : Shown → Asked → ℕ → Type 0
IsCode shown asks.Ready n = n ≡ (if shown.is_ready then 200 else 503)
IsCode shown (asks.End session) n = (n ≡ 200) ⊎ (n ≡ 404)
IsCode shown asks.NoSession n = n ≡ 404
IsCode shown asks.Hidden n = n ≡ 403
IsCode shown asks.Forbidden n = n ≡ 403
IsCode shown asks.Nothing n = n ≡ 404
IsCode shown asks.NotAllowed n = n ≡ 405
IsCode shown other n = n ≡ 200

-- what each answer has of what is shown: that of the sessions is the source's
abbrev pub IsBody : Shown → Asked → List ℕ → Type 0
IsBody shown asks.Metrics text = text ≡ shown.metrics.items
IsBody shown asks.Plain text = text ≡ shown.plain.items
IsBody shown asks.Page text = text ≡ shown.page.items
IsBody shown asks.Health text = text ≡ codes "ok\n"
IsBody shown asks.Ready text = text ≡ (if shown.is_ready then codes "ready\n" else codes "not ready\n")
IsBody shown asks.Agent text = text ≡ shown.agent.items
IsBody shown asks.Sessions text = ⊤
IsBody shown other text = text ≡ []

-- an answer to what is asked for
abbrev pub Fills : Shown → Asked → Response → Type 0
Fills shown asked r = IsCode shown asked r.status × IsBody shown asked r.body.items

-- The answer to a request of this head, from there, where this is shown. The older text is for those who say what they
-- accept, and what a page of a browser asks for counts as from elsewhere.
pub record Answers (shown : Shown) (from : Nearness) (is_open : Bool) (head : Parts) (r : Response) : Type 0 where
  pub near : Nearness
  pub nearer : near ≡ Loopback → from ≡ Loopback
  pub page : (near ≡ from) ⊎ ContainsKey head.headers (codes "origin")
  pub plain : Bool
  pub accepts : plain ≡ true → ContainsKey head.headers (codes "accept")
  pub asked : Asked
  pub asks : Asks head.method (uri_path head.uri) near is_open plain asked
  pub status : IsCode shown asked r.status
  pub body : IsBody shown asked r.body.items
