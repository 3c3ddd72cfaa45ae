-- What stands on a connection: the texts that spell an item (RFC 7826 sections 5 and 14).
use Rattle.std.specs.Prelude.{◌≡◌, ◌≢◌, ℕ, ◌*◌, ◌<◌, ◌≤◌, List, [], ◌∷◌, ◌++◌, length, drop, Ok}
use Rattle.std.specs.List.{AllByRecursion}
use Rattle.rtsp_grammar.specs.Frame.{frame_text, IsFrame, BeginsFrame}
use Rattle.rtsp_grammar.specs.Head.{HeadRule}
use Rattle.rtsp_grammar.specs.Header.{HeaderText}
use Rattle.rtsp_grammar.specs.Lines.{blank_text, lines_text, IsLine}
use Rattle.rtsp_grammar.specs.declared.head.Head.{Head}
use Rattle.rtsp_grammar.specs.declared.message.Item.{Item}
use Rattle.rtsp_grammar.specs.declared.message.Item.TheVariants as items
use Rattle.rtsp_grammar.specs.declared.message.Frame.{Frame}
use Rattle.rtsp_grammar.specs.declared.message.Request.{Request}
use Rattle.rtsp_grammar.specs.declared.message.Response.{Response}
use Rattle.rtsp_grammar.specs.declared.start_line.StartLine.{StartLine}
use Rattle.rtsp_grammar.specs.declared.start_line.StartLine.TheVariants as starts

-- the text begins with an empty line
abbrev pub BeginsBlank : List ℕ → Type 0
BeginsBlank (a ∷ b ∷ bytes) = (a ≡ 13) × (b ≡ 10)
BeginsBlank bytes = ⊥

-- the first n bytes are empty lines
pub record IsBlank (text : List ℕ) (n : ℕ) : Type 0 where
  pub count : ℕ
  pub twice : n ≡ 2 * count
  pub parts : text ≡ blank_text count ++ drop n text
  pub within : n ≤ length text

-- n bytes of empty lines, and none after them
pub record HasBlank (text : List ℕ) (n : ℕ) : Type 0 where
  pub front : IsBlank text n
  pub next : ¬ BeginsBlank (drop n text)

-- fewer than 8,192 bytes of empty lines, and a frame
pub record SpellsFrame (text : List ℕ) (frame : Frame) : Type 0 where
  pub blank : ℕ
  pub few : blank < 4096
  pub parts : text ≡ blank_text blank ++ frame_text frame
  pub fits : IsFrame frame

-- empty lines, lines and the empty line that ends them, in at most 8,192 bytes
pub record IsHeadText (text : List ℕ) (lines : List (List ℕ)) : Type 0 where
  pub blank : ℕ
  pub parts : text ≡ blank_text blank ++ (lines_text lines ++ 13 ∷ 10 ∷ [])
  pub each : AllByRecursion IsLine lines
  pub some : lines ≢ []
  pub no_frame : ¬ BeginsFrame (lines_text lines)
  pub short : length text ≤ 8192

-- a head whose lines keep the rules, and the body that it announces
pub record SpellsMessage (text : List ℕ) (head : Head) (body : List ℕ) : Type 0 where
  pub front : List ℕ
  pub parts : text ≡ front ++ body
  pub lines : List (List ℕ)
  pub head_text : IsHeadText front lines
  pub rules : HeadRule lines (Ok (head, length body))

abbrev pub request_head : Request → Head
request_head r = record { start = starts.Request r.method r.uri r.version; headers = r.headers }

abbrev pub response_head : Response → Head
response_head r = record { start = starts.Status r.version r.status r.reason; headers = r.headers }

-- the message of a first line, headers and a body
abbrev pub message_of : StartLine → List HeaderText → List ℕ → Item
message_of (starts.Request method uri version) headers body = items.Request (record { method = method; uri = uri; version = version; headers = headers; body = body })
message_of (starts.Status version status reason) headers body = items.Response (record { version = version; status = status; reason = reason; headers = headers; body = body })

-- the text is this item, all of it and nothing else
abbrev pub Spells : List ℕ → Item → Type 0
Spells text (items.Frame frame) = SpellsFrame text frame
Spells text (items.Request request) = SpellsMessage text (request_head request) request.body
Spells text (items.Response response) = SpellsMessage text (response_head response) response.body
