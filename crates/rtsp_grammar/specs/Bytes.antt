-- Classes of bytes (RFC 7826 section 20.1).
use Rattle.std.specs.Prelude.{ℕ, Bool, ◌==◌, ◌||◌, ◌&&◌, not, nat_le}

-- a byte of a URI: visible ASCII, 21 to 7e
abbrev pub is_uri_byte : ℕ → Bool
is_uri_byte b = nat_le 33 b && nat_le b 126

-- a byte of a header's value: 20 to 7e, tab, and 80 to ff (TEXT)
abbrev pub is_value_byte : ℕ → Bool
is_value_byte b = b == 9 || (nat_le 32 b && not (b == 127))
