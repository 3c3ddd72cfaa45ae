-- How items are written, and which of them are read back.
use Rattle.std.specs.Prelude.{ℕ, ◌≤◌, List, [], ◌∷◌, ◌++◌, length, Ok}
use Rattle.std.specs.List.{AllByRecursion}
use Rattle.rtsp_grammar.specs.Answer.{Decides}
use Rattle.rtsp_grammar.specs.Frame.{frame_text, IsFrame}
use Rattle.rtsp_grammar.specs.Header.{HeaderText}
use Rattle.rtsp_grammar.specs.HeaderLine.{IsHeader}
use Rattle.rtsp_grammar.specs.Item.{request_head, response_head}
use Rattle.rtsp_grammar.specs.Length.{LengthRule}
use Rattle.rtsp_text.specs.Line.{IsPlain}
use Rattle.rtsp_grammar.specs.Lines.{line_text}
use Rattle.rtsp_grammar.specs.StartLine.{start_text, uri_len, IsStart}
use Rattle.rtsp_grammar.specs.declared.head.Head.{Head}
use Rattle.rtsp_grammar.specs.declared.start_line.StartLine.{StartLine}
use Rattle.rtsp_grammar.specs.declared.start_line.StartLine.TheVariants as starts
use Rattle.rtsp_grammar.specs.declared.message.Item.{Item}
use Rattle.rtsp_grammar.specs.declared.message.Item.TheVariants as items
use Rattle.rtsp_grammar.specs.declared.message.Request.{Request}
use Rattle.rtsp_grammar.specs.declared.message.Response.{Response}

-- a name, a colon, a space and a value
abbrev pub header_line : HeaderText → List ℕ
header_line h = h.name ++ 58 ∷ 32 ∷ h.value

abbrev pub header_text : HeaderText → List ℕ
header_text h = line_text (header_line h)

unfoldable pub headers_text : List HeaderText → List ℕ
headers_text [] = []
headers_text (h ∷ hs) = header_text h ++ headers_text hs

-- a first line
abbrev pub start_line_text : StartLine → List ℕ
start_line_text start = line_text (start_text start)

-- what stands after it: the headers, the empty line and the body
abbrev pub headers_and_body_text : List HeaderText → List ℕ → List ℕ
headers_and_body_text headers body = headers_text headers ++ 13 ∷ 10 ∷ body

-- a head and a body
abbrev pub message_text : Head → List ℕ → List ℕ
message_text head body = start_line_text head.start ++ headers_and_body_text head.headers body

abbrev pub request_text : Request → List ℕ
request_text r = message_text (request_head r) r.body

abbrev pub response_text : Response → List ℕ
response_text r = message_text (response_head r) r.body

abbrev pub item_text : Item → List ℕ
item_text (items.Frame frame) = frame_text frame
item_text (items.Request request) = request_text request
item_text (items.Response response) = response_text response

-- a reason has no line end in it
abbrev pub HasPlainReason : StartLine → Type 0
HasPlainReason (starts.Request method uri version) = Unit {0}
HasPlainReason (starts.Status version status reason) = IsPlain reason

-- a head within the grammar and its limits, which announces the body
pub record IsMessage (head : Head) (body : List ℕ) : Type 0 where
  pub start : IsStart head.start
  pub reason : HasPlainReason head.start
  pub uri : uri_len head.start ≤ 1024
  pub count : length head.headers ≤ 64
  pub headers : AllByRecursion IsHeader head.headers
  pub short : length (message_text head []) ≤ 8192
  pub announces : LengthRule head.headers (Ok (length body))

-- an item within the grammar
abbrev pub IsItem : Item → Type 0
IsItem (items.Frame frame) = IsFrame frame
IsItem (items.Request request) = IsMessage (request_head request) request.body
IsItem (items.Response response) = IsMessage (response_head response) response.body

-- an item that is written is read back, whatever follows
abbrev pub ReadsBack : Type 0
ReadsBack = (item : Item) (more : List ℕ) → IsItem item → Decides (item_text item ++ more) (Ok (item, length (item_text item)))
