-- A header of version 1: a line of at most 107 bytes, `PROXY ` and CR LF counted.
use Rattle.std.specs.Prelude.{ℕ, Bool, false, ◌+◌, ◌*◌, ◌==◌, ◌&&◌, ◌||◌, nat_lt, nat_le, List, [], ◌∷◌, length, codes, bytes_eq, Option, Some, None, Result, Ok, Err, if◌then◌else◌}
use Rattle.rtsp_text.specs.Options.{◌>>=◌}
use Rattle.rtsp_text.specs.Decimal.{number_of}
use Rattle.rtsp_text.specs.SplitOnce.{split_once}
use Rattle.rtsp_proxy.specs.declared.seen.Origin.{Origin}
use Rattle.rtsp_proxy.specs.declared.seen.Origin.TheVariants.{Own, Player}
use Rattle.rtsp_proxy.specs.declared.seen.ProxyFault.{ProxyFault}
use Rattle.rtsp_proxy.specs.declared.seen.ProxyFault.TheVariants.{Malformed, NotIpv4, TooLong}
use Rattle.rtsp_proxy.specs.declared.seen.Seen.{Seen}
use Rattle.rtsp_proxy.specs.declared.seen.Seen.TheVariants.{Undecided, Refused, Header}

-- a zero in front that could be left out
abbrev pub is_padded : List ℕ → Bool
is_padded [] = false
is_padded (b ∷ bytes) = nat_lt 0 (length bytes) && b == 48

-- a number of at most so much, in at most so many digits
abbrev pub at_most : ℕ → List ℕ → ℕ → Option ℕ
at_most most text n = if nat_lt most n || is_padded text then None else Some n

unfoldable pub octet_of : List ℕ → Option ℕ
octet_of text = do
  n ← number_of 3 text
  at_most 255 text n

unfoldable pub port_of : List ℕ → Option ℕ
port_of text = do
  n ← number_of 5 text
  at_most 65535 text n

-- four numbers with dots between them
unfoldable pub address_of : List ℕ → Option ℕ
address_of text = do
  first ← split_once 46 text
  a ← octet_of first.0
  second ← split_once 46 first.1
  b ← octet_of second.0
  third ← split_once 46 second.1
  c ← octet_of third.0
  d ← octet_of third.1
  Some (a * 0x1000000 + b * 0x10000 + c * 0x100 + d)

-- the address and port that the player has, and those that it connected to, which are passed over
unfoldable pub tcp4_of : List ℕ → Option Origin
tcp4_of text = do
  one ← split_once 32 text
  source ← address_of one.0
  two ← split_once 32 one.1
  target ← address_of two.0
  ports ← split_once 32 two.1
  port ← port_of ports.0
  target_port ← port_of ports.1
  Some (Player source port)

abbrev pub read_or : ProxyFault → Option Origin → Result Origin ProxyFault
read_or fault None = Err fault
read_or fault (Some origin) = Ok origin

abbrev pub origin_by : List ℕ → List ℕ → Result Origin ProxyFault
origin_by family rest =
    if bytes_eq family (codes "UNKNOWN") then Ok Own
    else (if bytes_eq family (codes "TCP6") then Err NotIpv4
    else (if bytes_eq family (codes "TCP4") then read_or Malformed (tcp4_of rest) else Err Malformed))

abbrev pub origin_in : List ℕ → Option (List ℕ × List ℕ) → Result Origin ProxyFault
origin_in line None = origin_by line []
origin_in line (Some parts) = origin_by parts.0 parts.1

unfoldable pub origin_of : List ℕ → Result Origin ProxyFault
origin_of line = origin_in line (split_once 32 line)

-- the text before the one CR, which is at its end
abbrev pub before_cr : Option (List ℕ × List ℕ) → Option (List ℕ)
before_cr (Some (line, [])) = Some line
before_cr (Some (line, b ∷ bytes)) = None
before_cr None = None

unfoldable pub without_cr : List ℕ → Option (List ℕ)
without_cr line = before_cr (split_once 13 line)

abbrev pub header_or : ℕ → Result Origin ProxyFault → Seen
header_or size (Ok origin) = Header origin size
header_or size (Err fault) = Refused fault

abbrev pub header_by : ℕ → Option (List ℕ) → Seen
header_by size None = Refused Malformed
header_by size (Some fields) = header_or size (origin_of fields)

abbrev pub line_in : List ℕ → Option (List ℕ × List ℕ) → Seen
line_in rest None = if nat_lt (length rest) 101 then Undecided else Refused TooLong
line_in rest (Some parts) =
    if nat_lt 100 (length parts.0) then Refused TooLong else header_by (6 + length parts.0 + 1) (without_cr parts.0)

-- what follows `PROXY `
unfoldable pub line_of : List ℕ → Seen
line_of rest = line_in rest (split_once 10 rest)
