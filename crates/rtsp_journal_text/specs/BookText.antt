-- The text of a book: a line for each part of each living session, and then what is held and what is free.
use Rattle.std.specs.Prelude.{ℕ, ◌-◌, ◌==◌, if◌then◌else◌, List, [], ◌∷◌, ◌++◌, Option, Some, None, codes, decimal}
use Rattle.std.specs.List.{flat_map}
use Rattle.std.specs.FinMap.{entries}
use Rattle.rtsp_record.specs.declared.holdings.Admission.{Admission}
use Rattle.rtsp_record.specs.declared.holdings.Thing.{Thing}
use Rattle.rtsp_record.specs.declared.holdings.Whole.{Whole}
use Rattle.rtsp_record.specs.declared.streams.Stream.{Stream}
use Rattle.rtsp_record.specs.Books.{Session, Book}
use Rattle.rtsp_record.specs.Records.{holds, binds}
use Rattle.rtsp_record.specs.Rules.{as_rate}
use Rattle.rtsp_record.specs.Sums.{amount, held_rate}
use Rattle.rtsp_record.specs.Ports.{pairs, singles, free_pairs, free_ports}
use Rattle.rtsp_journal_text.specs.JournalText.{line_text, phase_text, life_fields, setup_fields, record_line}

-- the line of the thing that a session holds under an admission, where there is one
abbrev pub hold_lines : ℕ → ℕ → Option Thing → List ℕ
hold_lines s a None = []
hold_lines s a (Some x) = record_line (holds s a x)

-- the line of the stream, where there is one
abbrev pub stream_lines : ℕ → ℕ → Option Stream → List ℕ
stream_lines s a None = []
stream_lines s a (Some v) = line_text (codes "stream" ∷ setup_fields (record { session = s; admission = a; stream = v }))

-- the lines of an admission of a session: its rate, its address and its stream
abbrev pub admission_text : ℕ → ℕ × Admission → List ℕ
admission_text s e = hold_lines s e.0 (as_rate e.1.rate) ++ (hold_lines s e.0 e.1.address ++ stream_lines s e.0 e.1.stream)

-- the line of the binding, where there is one
abbrev pub binding_lines : ℕ → Option (ℕ × ℕ) → List ℕ
binding_lines s None = []
binding_lines s (Some k) = record_line (binds s k.0 k.1)

-- the first line of a session: its number, id, connection and expiry, as in the record that opens it, and its phase
abbrev pub session_line : ℕ → Session → List ℕ
session_line s f = line_text (codes "session" ∷ (life_fields (record { session = s; id = f.id; conn = f.conn; expires = f.expires }) ++ phase_text f.phase ∷ []))

-- the lines of a session: its own, those of its admissions in ascending order, and its binding's
abbrev pub session_text : ℕ × Session → List ℕ
session_text e = session_line e.0 e.1 ++ (flat_map (admission_text e.0) (entries e.1.admissions) ++ binding_lines e.0 e.1.binding)

-- the line of how much is held and how much is free
abbrev pub held_line : List ℕ → ℕ → ℕ → List ℕ
held_line word held free = line_text (word ∷ decimal held ∷ decimal free ∷ [])

-- the line of the bits per second that are held and free
abbrev pub rate_line : Whole → Book → List ℕ
rate_line w b = held_line (codes "rate") (held_rate b) (w.uplink - held_rate b)

-- the line of the pairs of ports that are held and free
abbrev pub pairs_line : Whole → Book → List ℕ
pairs_line w b = held_line (codes "pairs") (amount pairs b) (free_pairs w b)

-- the line of so many ports that are held by themselves and so many free ones, where one is held so
abbrev pub singles_line : ℕ → ℕ → List ℕ
singles_line held free = if held == 0 then [] else held_line (codes "ports") held free

-- the line of the ports that are held by themselves and of those that nothing covers, where one is held so
abbrev pub ports_line : Whole → Book → List ℕ
ports_line w b = singles_line (amount singles b) (free_ports w b)

-- the lines of all living sessions in ascending order, and then those of what is held and free
abbrev pub book_text : Whole → Book → List ℕ
book_text w b = flat_map session_text (entries b) ++ (rate_line w b ++ (pairs_line w b ++ ports_line w b))
