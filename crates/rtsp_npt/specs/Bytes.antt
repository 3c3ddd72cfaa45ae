-- Bytes and words of a Range header.
use Rattle.std.specs.Prelude.{◌≡◌, ℕ, ◌<◌, true, List, map, length, codes}
use Rattle.std.specs.Char.{to_ascii_lowercase}
use Rattle.std.specs.List.{list_all}
use Rattle.rtsp_text.specs.Bytes.{is_token_byte}

-- `=`, after the unit
abbrev pub equals : ℕ
equals = 61

-- `-`, between the start and the stop
abbrev pub dash : ℕ
dash = 45

-- `:`, between hours, minutes and seconds
abbrev pub colon : ℕ
colon = 58

-- `.`, before a fraction
abbrev pub point : ℕ
point = 46

-- one byte of a token or more, and nothing else
pub record IsToken (text : List ℕ) : Type 0 where
  pub some : 0 < length text
  pub bytes : list_all is_token_byte text ≡ true

-- the unit of normal play time, in any case
abbrev pub IsNpt : List ℕ → Type 0
IsNpt unit = map to_ascii_lowercase unit ≡ codes "npt"
