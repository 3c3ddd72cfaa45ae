-- The specification that a client gets (RFC 7826 section 18.54).
use Rattle.std.specs.Prelude.{◌≡◌, ◌⊎◌, ℕ, Bool, true, false, List, [], ◌∷◌, ◌++◌, Option, Some, None, codes}
use Rattle.std.specs.List.{list_any, AllByRecursion}
use Rattle.rtsp_transport.specs.Address.{Place, Places, SpellsQuoted, SpellsPlaces}
use Rattle.rtsp_transport.specs.Hosts.{AllowsHost, is_bracketed}
use Rattle.rtsp_transport.specs.Names.{is_udp, is_tcp}
use Rattle.rtsp_transport.specs.Parameters.{asks_more, first_named, first_value, has_mux}
use Rattle.rtsp_transport.specs.Channels.{IsPairOf}
use Rattle.rtsp_transport.specs.Fitting.{fit_of}
use Rattle.rtsp_transport.specs.declared.picks.Pick.{Pick}
use Rattle.rtsp_transport.specs.declared.picks.Pick.TheVariants.{Udp, Mux, Inter, Unsupported, Prohibited}
use Rattle.rtsp_transport.specs.declared.spec.Spec.{Spec}

-- RTP over UDP, with RTCP on its port or not, and no more than this server serves; the text names the addresses
pub record IsOverUdp (spec : Spec) (one_port : Bool) (text : List ℕ) : Type 0 where
  pub protocol : is_udp spec.protocol ≡ true
  pub served : list_any asks_more spec.parameters ≡ false
  pub mux : has_mux spec.parameters ≡ one_port
  pub value : first_value (codes "dest_addr") spec.parameters ≡ Some text

-- RTP over UDP to a pair of addresses
pub record IsUdpForm (spec : Spec) (places : Places) : Type 0 where
  pub text : List ℕ
  pub over : IsOverUdp spec false text
  pub spells : SpellsPlaces text places
  pub rtp_plain : is_bracketed places.rtp.host ≡ false
  pub rtcp_plain : is_bracketed places.rtcp.host ≡ false

-- usable over UDP to these ports of the peer
pub record IsUdp (peer : ℕ) (spec : Spec) (rtp_port rtcp_port : ℕ) : Type 0 where
  pub places : Places
  pub form : IsUdpForm spec places
  pub rtp_host : AllowsHost peer places.rtp.host
  pub rtcp_host : AllowsHost peer places.rtcp.host
  pub rtp : places.rtp.port ≡ rtp_port
  pub rtcp : places.rtcp.port ≡ rtcp_port

-- RTP and RTCP over UDP to one address (RFC 5761)
pub record IsMuxForm (spec : Spec) (place : Place) : Type 0 where
  pub text : List ℕ
  pub over : IsOverUdp spec true text
  pub spells : SpellsQuoted text place
  pub plain : is_bracketed place.host ≡ false

-- usable over UDP to this one port of the peer
pub record IsMux (peer : ℕ) (spec : Spec) (port : ℕ) : Type 0 where
  pub place : Place
  pub form : IsMuxForm spec place
  pub host : AllowsHost peer place.host
  pub same : place.port ≡ port

-- usable over UDP to two ports but for a host that is another's
pub record IsForeignUdp (peer : ℕ) (spec : Spec) : Type 0 where
  pub places : Places
  pub form : IsUdpForm spec places
  pub foreign : ¬ (AllowsHost peer places.rtp.host × AllowsHost peer places.rtcp.host)

-- usable over UDP to one port but for a host that is another's
pub record IsForeignMux (peer : ℕ) (spec : Spec) : Type 0 where
  pub place : Place
  pub form : IsMuxForm spec place
  pub foreign : ¬ AllowsHost peer place.host

-- usable over UDP but for a host that is another's
abbrev pub IsForeign : ℕ → Spec → Type 0
IsForeign peer spec = IsForeignUdp peer spec ⊎ IsForeignMux peer spec

-- usable over the connection itself, on these channels where the client names any
pub record IsInterleaved (spec : Spec) (wish : Option ℕ) : Type 0 where
  pub protocol : is_tcp spec.protocol ≡ true
  pub served : list_any asks_more spec.parameters ≡ false
  pub apart : has_mux spec.parameters ≡ false
  pub no_address : first_named (codes "dest_addr") spec.parameters ≡ None
  pub text : List ℕ
  pub value : first_value (codes "interleaved") spec.parameters ≡ Some text
  pub wished : IsPairOf text wish

-- the specification is usable so
abbrev pub IsUsable : ℕ → Spec → Pick → Type 0
IsUsable peer spec (Udp rtp_port rtcp_port) = IsUdp peer spec rtp_port rtcp_port
IsUsable peer spec (Mux port) = IsMux peer spec port
IsUsable peer spec (Inter wish) = IsInterleaved spec wish
IsUsable peer spec Unsupported = ⊥
IsUsable peer spec Prohibited = ⊥

abbrev pub NotUsable : ℕ → Spec → Type 0
NotUsable peer spec = (pick : Pick) → ¬ IsUsable peer spec pick

-- the first usable specification of a list is usable so
pub record IsFirst (peer : ℕ) (specs : List Spec) (pick : Pick) : Type 0 where
  pub before : List Spec
  pub spec : Spec
  pub behind : List Spec
  pub parts : specs ≡ before ++ spec ∷ behind
  pub none : AllByRecursion (NotUsable peer) before
  pub usable : IsUsable peer spec pick

-- one of the list fails by its hosts alone
pub record HasForeign (peer : ℕ) (specs : List Spec) : Type 0 where
  pub before : List Spec
  pub spec : Spec
  pub behind : List Spec
  pub parts : specs ≡ before ++ spec ∷ behind
  pub foreign : IsForeign peer spec

-- The first usable one; else prohibited where one fails by its hosts alone; else unsupported.
abbrev pub Picks : ℕ → List Spec → Pick → Type 0
Picks peer specs (Udp rtp_port rtcp_port) = IsFirst peer specs (Udp rtp_port rtcp_port)
Picks peer specs (Mux port) = IsFirst peer specs (Mux port)
Picks peer specs (Inter wish) = IsFirst peer specs (Inter wish)
Picks peer specs Prohibited = AllByRecursion (NotUsable peer) specs × HasForeign peer specs
Picks peer specs Unsupported = AllByRecursion (NotUsable peer) specs × AllByRecursion (λ spec. ¬ IsForeign peer spec) specs

-- ---- the one pick of a list, read from left to right

abbrev pub prohibited_or : Pick → Pick
prohibited_or (Udp rtp_port rtcp_port) = Udp rtp_port rtcp_port
prohibited_or (Mux port) = Mux port
prohibited_or (Inter wish) = Inter wish
prohibited_or Unsupported = Prohibited
prohibited_or Prohibited = Prohibited

-- what one specification and the ones after it come to
abbrev pub better : Pick → Pick → Pick
better (Udp rtp_port rtcp_port) rest = Udp rtp_port rtcp_port
better (Mux port) rest = Mux port
better (Inter wish) rest = Inter wish
better Unsupported rest = rest
better Prohibited rest = prohibited_or rest

unfoldable pub pick_of : ℕ → List Spec → Pick
pick_of peer [] = Unsupported
pick_of peer (spec ∷ specs) = better (fit_of peer spec) (pick_of peer specs)
