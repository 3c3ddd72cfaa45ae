-- Headers within RFC 7826, and headers as players write them.
use Rattle.std.specs.Prelude.{◌≡◌, ◌⊎◌, ◌<◌, ◌≤◌, ℕ, Bool, true, false, List, ◌∷◌, ◌++◌}
use Rattle.std.specs.List.{list_any, AllByRecursion}
use Rattle.rtsp_text.specs.Decimal.{SpellsNumber}
use Rattle.rtsp_grammar.specs.Header.{HeaderText}
use Rattle.rtsp_grammar.specs.declared.message.Request.{Request}
use Rattle.rtsp_transport.specs.Transport.{SpellsTransport}
use Rattle.rtsp_transport.specs.declared.spec.Spec.{Spec}
use Rattle.rtsp_dialect.specs.ClientPort.{is_client_port, is_old}
use Rattle.rtsp_dialect.specs.Repair.{is_startup, is_transport}

-- the value is a number of at most so many digits
abbrev pub IsStartup : ℕ → List ℕ → Type 0
IsStartup most value = (n : ℕ) × SpellsNumber most value n

-- client_port is a parameter of RTSP 1.0; 2.0 has none of that name
abbrev pub HasNoClientPort : Spec → Type 0
HasNoClientPort spec = list_any is_client_port spec.parameters ≡ false

-- the value spells specifications, each of which is such a one
pub record IsTransport (Is : Spec → Type 0) (value : List ℕ) : Type 0 where
  pub specs : List Spec
  pub spells : SpellsTransport value specs
  pub each : AllByRecursion Is specs

-- the value of a header, where its name is one of the two
abbrev pub IsValue : ℕ → (Spec → Type 0) → Bool → Bool → List ℕ → Type 0
IsValue most Is true transport value = IsStartup most value
IsValue most Is false true value = IsTransport Is value
IsValue most Is false false value = Unit {0}

abbrev pub IsHeader : ℕ → (Spec → Type 0) → HeaderText → Type 0
IsHeader most Is header = IsValue most Is (is_startup header) (is_transport header) header.value

-- Pipelined-Requests has at most eight digits (RFC 7826 section 18.33), Transport no client_port (section 18.54)
abbrev pub IsWithin : Request → Type 0
IsWithin request = AllByRecursion (IsHeader 8 HasNoClientPort) request.headers

-- Pipelined-Requests has at most ten digits, and a specification with client_port is RTSP 1.0's
abbrev pub IsSpoken : Request → Type 0
IsSpoken request = AllByRecursion (IsHeader 10 (λ spec. HasNoClientPort spec ⊎ (is_old spec ≡ true))) request.headers

-- two ports with a dash between them (RFC 2326 section 12.39)
pub record SpellsPorts (text : List ℕ) (rtp rtcp : ℕ) : Type 0 where
  pub first : List ℕ
  pub second : List ℕ
  pub parts : text ≡ first ++ 45 ∷ second
  pub rtp_port : SpellsNumber 5 first rtp
  pub rtcp_port : SpellsNumber 5 second rtcp
  pub rtp_some : 0 < rtp
  pub rtp_few : rtp ≤ 65535
  pub rtcp_some : 0 < rtcp
  pub rtcp_few : rtcp ≤ 65535
