-- The second rule: lines that continue the line before (RFC 7826 section 20.1, LWS).
use Rattle.std.specs.Prelude.{◌≡◌, ℕ, ◌<◌, ◌≤◌, ◌⊎◌, Bool, true, false, List, [], ◌∷◌, ◌++◌, length, Result, Ok, Err}
use Rattle.std.specs.List.{list_all, flat_map}
use Rattle.rtsp_text.specs.Bytes.{is_blank}
use Rattle.rtsp_text.specs.Trim.{trim_start}
use Rattle.rtsp_grammar.specs.declared.fault.MessageFault.{MessageFault}
use Rattle.rtsp_grammar.specs.declared.fault.MessageFault.TheVariants.{BadHeader, HeadTooLong}

-- the line starts with a space or a tab
abbrev pub begins_blank : List ℕ → Bool
begins_blank [] = false
begins_blank (b ∷ line) = is_blank b

-- what such a line adds: its line end and its blanks are one space
abbrev pub fold_text : List ℕ → List ℕ
fold_text line = 32 ∷ trim_start line

-- one line, the lines that continue it, and the lines after these
pub record BeginsFolds (lines : List (List ℕ)) (unfolded_line : List ℕ) (rest : List (List ℕ)) : Type 0 where
  pub line : List ℕ
  pub folds : List (List ℕ)
  pub parts : lines ≡ line ∷ (folds ++ rest)
  pub begins : begins_blank line ≡ false
  pub continues : list_all begins_blank folds ≡ true
  pub joined : unfolded_line ≡ line ++ flat_map fold_text folds

-- the lines with what continues them
abbrev pub AreJoined : List (List ℕ) → List (List ℕ) → Type 0
AreJoined lines [] = lines ≡ []
AreJoined lines (unfolded_line ∷ unfolded_lines) = (rest : List (List ℕ)) × BeginsFolds lines unfolded_line rest × AreJoined rest unfolded_lines

-- the first of these lines continues none of them
abbrev pub BeginsInFold : List (List ℕ) → Type 0
BeginsInFold [] = ⊥
BeginsInFold (line ∷ lines) = begins_blank line ≡ true

-- the lines are joined to more than 64
pub record HasManyLines (lines : List (List ℕ)) : Type 0 where
  pub unfolded_lines : List (List ℕ)
  pub joined : AreJoined lines unfolded_lines
  pub many : 64 < length unfolded_lines

-- header lines are joined to at most 64 lines, or to more and HeadTooLong, or the first continues none and BadHeader
abbrev pub FoldRule : List (List ℕ) → Result (List (List ℕ)) MessageFault → Type 0
FoldRule lines (Ok unfolded_lines) = AreJoined lines unfolded_lines × (length unfolded_lines ≤ 64)
FoldRule lines (Err fault) = ((fault ≡ HeadTooLong) × HasManyLines lines) ⊎ ((fault ≡ BadHeader) × BeginsInFold lines)
