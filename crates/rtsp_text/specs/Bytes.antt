-- Classes of bytes, and the words that are made of them (RFC 7826 section 20.1).
use Rattle.std.specs.Prelude.{ℕ, Bool, ◌==◌, ◌||◌, ◌&&◌, not, List, length, codes}
use Rattle.std.specs.Char.{is_ascii_alphanumeric, is_ascii_digit}
use Rattle.std.specs.List.{list_all, list_any}

-- a space or a tab (WSP)
abbrev pub is_blank : ℕ → Bool
is_blank b = b == 32 || b == 9

-- a byte of a token: a letter, a digit or one of fifteen signs
abbrev pub is_token_byte : ℕ → Bool
is_token_byte b = is_ascii_alphanumeric b || list_any (λ c. c == b) (codes "!#$%&'*+-.^_~`|")

-- CR or LF
abbrev pub is_line_end : ℕ → Bool
is_line_end b = b == 13 || b == 10

-- a byte of a line: neither CR nor LF
abbrev pub is_line_byte : ℕ → Bool
is_line_byte b = not (is_line_end b)

-- another byte than this one
abbrev pub is_other : ℕ → ℕ → Bool
is_other byte b = not (b == byte)

-- one byte or more, each of which passes
abbrev pub is_some_of : (ℕ → Bool) → List ℕ → Bool
is_some_of test text = not (length text == 0) && list_all test text

-- one byte of a token or more
abbrev pub is_token : List ℕ → Bool
is_token text = is_some_of is_token_byte text

-- one decimal digit or more
abbrev pub is_number : List ℕ → Bool
is_number text = is_some_of is_ascii_digit text
