-- The number of a Pipelined-Requests header: one to eight digits (RFC 7826 section 18.33). Players draw longer ones.
use Rattle.std.specs.Prelude.{ℕ, ◌%◌, nat_lt, List, length, decimal, Option, Some, None, if◌then◌else◌}
use Rattle.rtsp_text.specs.Decimal.{number_of}

-- the number of a text of nine or ten digits
unfoldable pub long_startup : List ℕ → Option ℕ
long_startup value = if nat_lt 8 (length value) then number_of 10 value else None

-- a number modulo 10^8, in decimal digits; without one the value as it is
abbrev pub startup_or : List ℕ → Option ℕ → List ℕ
startup_or value None = value
startup_or value (Some n) = decimal (n % 100000000)

-- a number that is too long, within the grammar
abbrev pub repaired_startup : List ℕ → List ℕ
repaired_startup value = startup_or value (long_startup value)
