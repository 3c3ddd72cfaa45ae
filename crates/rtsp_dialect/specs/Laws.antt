-- What a repair changes, and what stays.
use Rattle.std.specs.Prelude.{◌≡◌, ◌<◌, ◌%◌, ℕ, Bool, not, ◌||◌, List, [], length, map, filter, Some}
use Rattle.rtsp_text.specs.Decimal.{SpellsNumber}
use Rattle.rtsp_grammar.specs.Header.{HeaderText}
use Rattle.rtsp_grammar.specs.declared.message.Request.{Request}
use Rattle.rtsp_transport.specs.Address.{Places, SpellsPlaces}
use Rattle.rtsp_transport.specs.Transport.{SpellsTransport}
use Rattle.rtsp_transport.specs.declared.spec.Spec.{Spec}
use Rattle.rtsp_dialect.specs.Startup.{repaired_startup}
use Rattle.rtsp_dialect.specs.ClientPort.{port_pair, addresses_text, repaired_spec}
use Rattle.rtsp_dialect.specs.ClientPortText.{repaired_transport}
use Rattle.rtsp_dialect.specs.Repair.{is_startup, is_transport, repaired}
use Rattle.rtsp_dialect.specs.Within.{IsWithin, IsSpoken, SpellsPorts}

-- a request within RFC 7826 is repaired to itself
abbrev pub RepairsToItself : Type 0
RepairsToItself = (request : Request) → IsWithin request → repaired request ≡ request

-- one as players write it is within RFC 7826 once it is repaired
abbrev pub RepairedIsWithin : Type 0
RepairedIsWithin = (request : Request) → IsSpoken request → IsWithin (repaired request)

-- a header of another name than the two
abbrev pub is_other : HeaderText → Bool
is_other header = not (is_startup header || is_transport header)

pub record RestStays : Type 0 where
  pub method : (request : Request) → (repaired request).method ≡ request.method
  pub uri : (request : Request) → (repaired request).uri ≡ request.uri
  pub version : (request : Request) → (repaired request).version ≡ request.version
  pub body : (request : Request) → (repaired request).body ≡ request.body
  -- as many headers, of the same names, in the same order
  pub names : (request : Request) → map (λ header. header.name) (repaired request).headers ≡ map (λ header. header.name) request.headers
  -- the others with their values
  pub others : (request : Request) → filter is_other (repaired request).headers ≡ filter is_other request.headers

-- two addresses without hosts
abbrev pub ports_only : ℕ → ℕ → Places
ports_only rtp rtcp = record { rtp = record { host = []; port = rtp }; rtcp = record { host = []; port = rtcp } }

-- two ports, and the text of the addresses in their place
pub record SaysPorts (text : List ℕ) (ports : List ℕ × List ℕ) : Type 0 where
  pub rtp : ℕ
  pub rtcp : ℕ
  pub old : SpellsPorts text rtp rtcp
  pub new : SpellsPlaces (addresses_text ports) (ports_only rtp rtcp)

-- a repaired header says what it said
pub record SaysTheSame : Type 0 where
  -- a number of nine or ten digits, modulo 10^8
  pub startup : (value : List ℕ) (n : ℕ) → 8 < length value → SpellsNumber 10 value n → SpellsNumber 8 (repaired_startup value) (n % 100000000)
  -- specifications, each in the terms of 2.0
  pub transport : (value : List ℕ) (specs : List Spec) → SpellsTransport value specs → SpellsTransport (repaired_transport value) (map repaired_spec specs)
  -- the ports of a client_port, as those of an address
  pub ports : (text : List ℕ) (ports : List ℕ × List ℕ) → port_pair text ≡ Some ports → SaysPorts text ports
  -- whatever two ports a text spells, they are read of it
  pub pairs : (text : List ℕ) (rtp rtcp : ℕ) → SpellsPorts text rtp rtcp → (ports : List ℕ × List ℕ) × (port_pair text ≡ Some ports)
