-- The value of a Session header (RFC 7826 section 18.49).
use Rattle.std.specs.Prelude.{◌≡◌, ◌<◌, ◌≤◌, ℕ, Bool, true, not, ◌==◌, ◌&&◌, ◌||◌, codes, nat_le, List, [], ◌∷◌, ◌++◌, length, Option, Some, None}
use Rattle.std.specs.Char.{is_ascii_alphanumeric}
use Rattle.std.specs.List.{list_all, list_any}
use Rattle.rtsp_text.specs.SplitOnce.{split_once}

-- a byte of a session's identifier (RFC 7826 section 4.3)
abbrev pub is_session_byte : ℕ → Bool
is_session_byte b = is_ascii_alphanumeric b || list_any (λ c. c == b) (codes "$-_.+")

-- nothing, or a semicolon and any text
abbrev pub IsIgnored : List ℕ → Type 0
IsIgnored [] = Unit {0}
IsIgnored (b ∷ bytes) = b ≡ 59

-- The text is a session's name and what is ignored.
pub record SpellsSession (text name : List ℕ) : Type 0 where
  pub rest : List ℕ
  pub parts : text ≡ name ++ rest
  pub ignored : IsIgnored rest
  pub some : 0 < length name
  pub few : length name ≤ 256
  pub bytes : list_all is_session_byte name ≡ true

-- the text before the split
abbrev pub front_of : List ℕ → Option (List ℕ × List ℕ) → List ℕ
front_of text None = text
front_of text (Some p) = p.0

-- the text before the first semicolon
abbrev pub name_of : List ℕ → List ℕ
name_of text = front_of text (split_once 59 text)

abbrev pub is_session_name : List ℕ → Bool
is_session_name name = (not (length name == 0) && nat_le (length name) 256) && list_all is_session_byte name
