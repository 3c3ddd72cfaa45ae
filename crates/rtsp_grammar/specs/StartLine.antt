-- The first rule: the first line of a message (RFC 7826 sections 7.1, 8.1 and 20.2.2).
use Rattle.std.specs.Prelude.{◌≡◌, ℕ, ◌<◌, ◌≤◌, ◌⊎◌, true, List, ◌∷◌, ◌++◌, length, Result, Ok, Err}
use Rattle.rtsp_text.specs.Decimal.{three_digits}
use Rattle.rtsp_grammar.specs.Method.{method_name, IsCanonicalMethod}
use Rattle.rtsp_grammar.specs.Version.{version_text, SpellsVersion, IsCanonicalVersion}
use Rattle.rtsp_grammar.specs.Words.{is_uri}
use Rattle.rtsp_grammar.specs.declared.method.Method.{Method}
use Rattle.rtsp_grammar.specs.declared.version.Version.{Version}
use Rattle.rtsp_grammar.specs.declared.start_line.StartLine.{StartLine}
use Rattle.rtsp_grammar.specs.declared.start_line.StartLine.TheVariants.{Request, Status}
use Rattle.rtsp_grammar.specs.declared.fault.MessageFault.{MessageFault}
use Rattle.rtsp_grammar.specs.declared.fault.MessageFault.TheVariants.{BadLine, UriTooLong}

-- method, space, URI, space, version
abbrev pub request_line : List ℕ → List ℕ → List ℕ → List ℕ
request_line method uri version = method ++ 32 ∷ (uri ++ 32 ∷ version)

-- version, space, status, space, reason
abbrev pub status_line : List ℕ → ℕ → List ℕ → List ℕ
status_line version status reason = version ++ 32 ∷ (three_digits status ++ 32 ∷ reason)

-- the line is a request line with these parts
pub record SpellsRequestLine (line : List ℕ) (method : Method) (uri : List ℕ) (version : Version) : Type 0 where
  pub spelling : List ℕ
  pub parts : line ≡ request_line (method_name method) uri spelling
  pub method_is : IsCanonicalMethod method
  pub uri_is : is_uri uri ≡ true
  pub version_is : SpellsVersion spelling version

-- the line is a status line with these parts, whose reason is any text
pub record SpellsStatusLine (line : List ℕ) (version : Version) (status : ℕ) (reason : List ℕ) : Type 0 where
  pub spelling : List ℕ
  pub parts : line ≡ status_line spelling status reason
  pub version_is : SpellsVersion spelling version
  pub three : status < 1000

-- the line is a request line or a status line with these parts
abbrev pub SpellsStart : List ℕ → StartLine → Type 0
SpellsStart line (Request method uri version) = SpellsRequestLine line method uri version
SpellsStart line (Status version status reason) = SpellsStatusLine line version status reason

-- how a first line is written
abbrev pub start_text : StartLine → List ℕ
start_text (Request method uri version) = request_line (method_name method) uri (version_text version)
start_text (Status version status reason) = status_line (version_text version) status reason

-- the parts of a request line that is written
pub record IsRequestLine (method : Method) (uri : List ℕ) (version : Version) : Type 0 where
  pub method_is : IsCanonicalMethod method
  pub uri_is : is_uri uri ≡ true
  pub version_is : IsCanonicalVersion version

-- the parts of a status line that is written
pub record IsStatusLine (version : Version) (status : ℕ) : Type 0 where
  pub version_is : IsCanonicalVersion version
  pub three : status < 1000

-- each part is of its class
abbrev pub IsStart : StartLine → Type 0
IsStart (Request method uri version) = IsRequestLine method uri version
IsStart (Status version status reason) = IsStatusLine version status

-- how many bytes the URI has
abbrev pub uri_len : StartLine → ℕ
uri_len (Request method uri version) = length uri
uri_len (Status version status reason) = 0

-- the line is a first line whose URI has more than 1,024 bytes
pub record HasLongUri (line : List ℕ) : Type 0 where
  pub start : StartLine
  pub spelled : SpellsStart line start
  pub long : 1024 < uri_len start

-- a line is a first line whose URI has at most 1,024 bytes, or UriTooLong, or no first line at all and BadLine
abbrev pub StartRule : List ℕ → Result StartLine MessageFault → Type 0
StartRule line (Ok start) = SpellsStart line start × (uri_len start ≤ 1024)
StartRule line (Err fault) = ((fault ≡ UriTooLong) × HasLongUri line) ⊎ ((fault ≡ BadLine) × ((start : StartLine) → ¬ SpellsStart line start))
