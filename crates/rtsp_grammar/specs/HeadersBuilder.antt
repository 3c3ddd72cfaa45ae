-- Headers that are being made.
use Rattle.std.specs.Prelude.{◌≡◌, ℕ, ◌+◌, ◌≤◌, ◌<◌, List, [], ◌∷◌, ◌++◌, length}
use Rattle.rtsp_grammar.specs.Header.{HeaderText}

-- headers, and the room for more: how many, and how many bytes of names and values
pub record BuiltHeaders : Type 0 where
  pub headers : List HeaderText
  pub lines : ℕ
  pub bytes : ℕ

-- the bytes of a header's name and value
abbrev pub size : HeaderText → ℕ
size h = length h.name + length h.value

-- the header was added, and took no more than its room
abbrev pub Takes : BuiltHeaders → BuiltHeaders → HeaderText → Type 0
Takes old new h = (new.headers ≡ old.headers ++ h ∷ []) × (old.lines ≤ new.lines + 1) × (old.bytes ≤ new.bytes + size h)

-- there is room for the header
abbrev pub HasRoom : BuiltHeaders → HeaderText → Type 0
HasRoom d h = (0 < d.lines) × (size h ≤ d.bytes)
