-- The page that shows the figures.
use Rattle.std.specs.Prelude.{ℕ, zero, suc, ◌+◌, ◌/◌, ◌%◌, nat_lt, List, [], ◌∷◌, ◌++◌, codes, decimal, if◌then◌else◌}
use Rattle.std.specs.List.{concat}
use Rattle.rtsp_text.specs.Decimal.{three_digits}
use Rattle.rtsp_metrics.specs.declared.snapshot.ByMethod.{ByMethod}
use Rattle.rtsp_metrics.specs.declared.snapshot.ByOutcome.{ByOutcome}
use Rattle.rtsp_metrics.specs.declared.snapshot.Counts.{Counts}
use Rattle.rtsp_metrics.specs.declared.snapshot.Lateness.{Lateness}
use Rattle.rtsp_metrics.specs.declared.snapshot.Refusals.{Refusals}
use Rattle.rtsp_metrics.specs.declared.snapshot.Snapshot.{Snapshot}
use Rattle.rtsp_metrics.specs.Figures.{early, soon, all_packets}

-- a number with a comma before each three digits, of which it has at most so many
unfoldable pub groups : ℕ → ℕ → List ℕ
groups zero n = decimal n
groups (suc more) n = if nat_lt n 1000 then decimal n else groups more (n / 1000) ++ (codes "," ++ three_digits (n % 1000))

-- a number of at most 39 digits with a comma before each three
unfoldable pub grouped : ℕ → List ℕ
grouped n = groups 13 n

-- a row with one number
unfoldable pub number_row : List ℕ → ℕ → List ℕ
number_row name n = concat (codes "<tr><th>" ∷ name ∷ codes "<td><td class=n>" ∷ grouped n ∷ codes "\n" ∷ [])

-- a row with a bar: a part of a whole
unfoldable pub bar_row : List ℕ → ℕ → ℕ → List ℕ
bar_row name part whole =
    concat (
    codes "<tr><th>" ∷ name ∷ codes "<td><meter max=" ∷ decimal whole ∷ codes " value=" ∷ decimal part ∷ codes "></meter><td class=n>" ∷
    grouped part ∷ codes " of " ∷ grouped whole ∷ codes "\n" ∷ [])

-- rows under a title
unfoldable pub section_text : List ℕ → List ℕ → List ℕ
section_text title rows = concat (codes "<h2>" ∷ title ∷ codes "</h2>\n<table>\n" ∷ rows ∷ codes "</table>\n" ∷ [])

-- a row with a number for each class of answers
unfoldable pub answers_row : List ℕ → ByOutcome → List ℕ
answers_row name n =
    concat (
    codes "<tr><th>" ∷ name ∷
    codes "<td class=n>" ∷ grouped n.success ∷ codes "<td class=n>" ∷ grouped n.redirection ∷
    codes "<td class=n>" ∷ grouped n.client_error ∷ codes "<td class=n>" ∷ grouped n.server_error ∷ codes "\n" ∷ [])

-- how long it runs, what the book has, and what is connected
abbrev pub server_rows : Snapshot → List ℕ
server_rows s =
    concat (
    number_row (codes "Seconds since it began") s.uptime_seconds ∷
    number_row (codes "Sessions") s.book.sessions ∷
    bar_row (codes "Uplink, bit/s") s.book.rate.held (s.book.rate.held + s.book.rate.free) ∷
    bar_row (codes "Pairs of ports") s.book.pairs.held (s.book.pairs.held + s.book.pairs.free) ∷
    bar_row (codes "Ports") s.book.ports.held (s.book.ports.held + s.book.ports.free) ∷
    bar_row (codes "Journal, used") s.book.entries (s.book.entries + s.book.owed + s.book.room) ∷
    bar_row (codes "Journal, kept for ends") s.book.owed (s.book.entries + s.book.owed + s.book.room) ∷
    bar_row (codes "Connections") s.connections.held (s.connections.held + s.connections.free) ∷ [])

-- the answers by method, with a row of heads
abbrev pub request_rows : ByMethod → List ℕ
request_rows n =
    concat (
    codes "<tr><th><td class=n>2xx<td class=n>3xx<td class=n>4xx<td class=n>5xx\n" ∷
    answers_row (codes "OPTIONS") n.options ∷ answers_row (codes "DESCRIBE") n.describe ∷
    answers_row (codes "SETUP") n.setup ∷ answers_row (codes "PLAY") n.play ∷
    answers_row (codes "PAUSE") n.pause ∷ answers_row (codes "TEARDOWN") n.teardown ∷
    answers_row (codes "GET_PARAMETER") n.get_parameter ∷ answers_row (codes "SET_PARAMETER") n.set_parameter ∷
    answers_row (codes "other") n.other ∷ [])

-- the refusals by why
abbrev pub refusal_rows : Refusals → List ℕ
refusal_rows n =
    concat (
    number_row (codes "Bandwidth (453)") n.bandwidth ∷ number_row (codes "Unavailable (503)") n.unavailable ∷
    number_row (codes "No such session (454)") n.session ∷ number_row (codes "No such path (404)") n.path ∷
    number_row (codes "Not in this state (455)") n.state ∷ number_row (codes "Transport (461)") n.transport ∷
    number_row (codes "Credentials (401)") n.credentials ∷
    number_row (codes "Other") n.other ∷ [])

-- how many packets were at most so late
abbrev pub lateness_rows : Lateness → List ℕ
lateness_rows n =
    let all = all_packets n in
    concat (
    bar_row (codes "Within 1 ms") n.within_1_ms all ∷
    bar_row (codes "Within 2 ms") (n.within_1_ms + n.within_2_ms) all ∷
    bar_row (codes "Within 5 ms") (n.within_1_ms + n.within_2_ms + n.within_5_ms) all ∷
    bar_row (codes "Within 10 ms") (early n) all ∷
    bar_row (codes "Within 20 ms") (early n + n.within_20_ms) all ∷
    bar_row (codes "Within 40 ms") (early n + n.within_20_ms + n.within_40_ms) all ∷
    bar_row (codes "Within 100 ms") (early n + n.within_20_ms + n.within_40_ms + n.within_100_ms) all ∷
    bar_row (codes "Within 400 ms") (soon n) all ∷
    bar_row (codes "Within 1 s") (soon n + n.within_1_s) all ∷
    bar_row (codes "Within 4 s") (soon n + n.within_1_s + n.within_4_s) all ∷
    bar_row (codes "Within 10 s") (soon n + n.within_1_s + n.within_4_s + n.within_10_s) all ∷ [])

-- the other counts
abbrev pub count_rows : Counts → List ℕ
count_rows n =
    concat (
    number_row (codes "Packets sent") n.packets.sent ∷ number_row (codes "Packets lost") n.packets.lost ∷
    number_row (codes "Connections let in") n.connections.accepted ∷ number_row (codes "Connections closed at once") n.connections.refused ∷
    number_row (codes "Headers refused") n.connections.headers_refused ∷
    number_row (codes "Reads of films that failed") n.media_failures ∷
    number_row (codes "Sessions expired") n.expired ∷ number_row (codes "Journal shortened") n.shortenings ∷
    number_row (codes "Log lines dropped") n.log_lines_dropped ∷ [])

-- the figures behind what every such page begins with, and a further section behind the first
unfoldable pub page_text : List ℕ → Snapshot → List ℕ → List ℕ
page_text head s further =
    concat (
    head ∷
    section_text (codes "Now") (server_rows s) ∷
    further ∷
    section_text (codes "Answers") (request_rows s.counts.requests) ∷
    section_text (codes "Refused") (refusal_rows s.counts.refusals) ∷
    section_text (codes "How late packets were sent") (lateness_rows s.counts.lateness) ∷
    section_text (codes "Since it began") (count_rows s.counts) ∷
    codes "<p>The same as text: <a href=\"/metrics\">/metrics</a>\n</html>\n" ∷ [])
