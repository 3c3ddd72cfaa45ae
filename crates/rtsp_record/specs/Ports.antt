-- What is held and what is free, counted by ports and by pairs.
use Rattle.std.specs.Prelude.{◌≡◌, ℕ, ◌+◌, ◌*◌, Bool, true, false, List}
use Rattle.rtsp_record.specs.declared.holdings.Thing.{Thing}
use Rattle.rtsp_record.specs.declared.holdings.Thing.TheVariants.{Pair, Port, Chan, Rate}
use Rattle.rtsp_record.specs.declared.holdings.Whole.{Whole}
use Rattle.rtsp_record.specs.declared.changes.Entry.{Entry}
use Rattle.rtsp_record.specs.Books.{Book, book_of}
use Rattle.rtsp_record.specs.Sums.{Measure, nothing, one_if, amount, UdpPort}
use Rattle.rtsp_record.specs.Rules.{IsLegal}
use Rattle.rtsp_record.specs.Choices.{count_of, is_free, is_pair_free}

-- a pair of ports
abbrev pub is_pair : Thing → Bool
is_pair (Pair p) = true
is_pair (Port p) = false
is_pair (Chan c k) = false
is_pair (Rate n) = false

-- held pairs
abbrev pub pairs : Measure
pairs = record nothing { thing = λ x. one_if (is_pair x) }

-- one port by itself
abbrev pub is_single : Thing → Bool
is_single (Pair p) = false
is_single (Port p) = true
is_single (Chan c k) = false
is_single (Rate n) = false

-- ports that are held by themselves
abbrev pub singles : Measure
singles = record nothing { thing = λ x. one_if (is_single x) }

-- how many ports a thing covers
abbrev pub ports_of : Thing → ℕ
ports_of (Pair p) = 2
ports_of (Port p) = 1
ports_of (Chan c k) = 0
ports_of (Rate n) = 0

-- ports that held things cover
abbrev pub ports : Measure
ports = record nothing { thing = ports_of }

-- how many pairs of the whole are free
abbrev pub free_pairs : Whole → Book → ℕ
free_pairs w b = count_of 2 (is_pair_free b) w.first_port w.pairs

-- how many ports of the whole are free
abbrev pub free_ports : Whole → Book → ℕ
free_ports w b = count_of 1 (λ q. is_free b (UdpPort q)) w.first_port (2 * w.pairs)

-- after a legal journal the ports that are covered and those that are free are together all ports of the whole
abbrev pub AllPorts : Whole → List Entry → Type 0
AllPorts w j = IsLegal w j → amount ports (book_of j) + free_ports w (book_of j) ≡ 2 * w.pairs
