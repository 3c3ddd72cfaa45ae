-- A text without the spaces and tabs at its ends.
use Rattle.std.specs.Prelude.{◌≡◌, ℕ, ◌-◌, ◌<◌, true, false, List, ◌++◌, length, take, drop, slice_index}
use Rattle.std.specs.List.{list_all, prefix_len, suffix_len}
use Rattle.rtsp_text.specs.Bytes.{is_blank}

-- neither end of the text is a space or a tab
pub record HasPlainEnds (text : List ℕ) : Type 0 where
  pub first : 0 < length text → is_blank (slice_index text 0) ≡ false
  pub last : 0 < length text → is_blank (slice_index text (length text - 1)) ≡ false

-- The text is the core with spaces and tabs round it.
pub record IsPadded (text core : List ℕ) : Type 0 where
  pub before : List ℕ
  pub behind : List ℕ
  pub parts : text ≡ before ++ (core ++ behind)
  pub before_blank : list_all is_blank before ≡ true
  pub behind_blank : list_all is_blank behind ≡ true
  pub ends : HasPlainEnds core

-- the text without the spaces and tabs at its front
abbrev pub trim_start : List ℕ → List ℕ
trim_start bytes = drop (prefix_len is_blank bytes) bytes

-- the text without the spaces and tabs at its end
abbrev pub trim_end : List ℕ → List ℕ
trim_end bytes = take (length bytes - suffix_len is_blank bytes) bytes

-- the one core of a text
unfoldable pub trimmed : List ℕ → List ℕ
trimmed bytes = trim_end (trim_start bytes)
