-- A request as a player writes it, in the terms of RFC 7826.
use Rattle.std.specs.Prelude.{ℕ, Bool, ◌&&◌, is_some, map, List, codes, if◌then◌else◌}
use Rattle.rtsp_content.specs.declared.server.Players.{Players}
use Rattle.rtsp_content.specs.declared.server.Players.TheVariants.{Strict, Gstreamer}
use Rattle.rtsp_grammar.specs.Header.{HeaderText, is_named}
use Rattle.rtsp_grammar.specs.declared.message.Item.{Item}
use Rattle.rtsp_grammar.specs.declared.message.Item.TheVariants as items
use Rattle.rtsp_grammar.specs.declared.message.Request.{Request}
use Rattle.rtsp_dialect.specs.Startup.{long_startup, repaired_startup}
use Rattle.rtsp_dialect.specs.ClientPortText.{has_old, repaired_transport}

abbrev pub is_startup : HeaderText → Bool
is_startup header = is_named header.name (codes "Pipelined-Requests")

abbrev pub is_transport : HeaderText → Bool
is_transport header = is_named header.name (codes "Transport")

-- the header has a number of Pipelined-Requests that is too long, or a specification of RTSP 1.0
unfoldable pub needs_repair : HeaderText → Bool
needs_repair header =
    if is_startup header then is_some (long_startup header.value)
    else (is_transport header && has_old header.value)

unfoldable pub repaired_value : HeaderText → List ℕ
repaired_value header =
    if is_startup header then repaired_startup header.value
    else (if is_transport header then repaired_transport header.value else header.value)

-- the header's name stays
abbrev pub repaired_header : HeaderText → HeaderText
repaired_header header = record { name = header.name; value = repaired_value header }

-- the method, the URI, the version and the body stay
abbrev pub repaired : Request → Request
repaired request = record request { headers = map repaired_header request.headers }

-- responses and frames stay
abbrev pub repaired_item : Item → Item
repaired_item (items.Request request) = items.Request (repaired request)
repaired_item (items.Response response) = items.Response response
repaired_item (items.Frame frame) = items.Frame frame

-- what an item means to a server for such players
abbrev pub understood : Players → Item → Item
understood Strict item = item
understood Gstreamer item = repaired_item item
