-- The rules of a head, in their order: first line, folds, headers, length.
use Rattle.std.specs.Prelude.{ℕ, ◌⊎◌, List, [], ◌∷◌, Result, Ok, Err}
use Rattle.rtsp_grammar.specs.Folds.{FoldRule}
use Rattle.rtsp_grammar.specs.Header.{HeaderText}
use Rattle.rtsp_grammar.specs.HeaderLine.{HeadersRule}
use Rattle.rtsp_grammar.specs.Length.{LengthRule}
use Rattle.rtsp_grammar.specs.StartLine.{StartRule}
use Rattle.rtsp_grammar.specs.declared.head.Head.{Head}
use Rattle.rtsp_grammar.specs.declared.start_line.StartLine.{StartLine}
use Rattle.rtsp_grammar.specs.declared.fault.MessageFault.{MessageFault}

-- the lines of a head keep the four rules, and announce a body of this many bytes
pub record SpellsHead (first : List ℕ) (others : List (List ℕ)) (head : Head) (body : ℕ) : Type 0 where
  pub unfolded_lines : List (List ℕ)
  pub start : StartRule first (Ok head.start)
  pub folds : FoldRule others (Ok unfolded_lines)
  pub headers : HeadersRule unfolded_lines (Ok head.headers)
  pub length : LengthRule head.headers (Ok body)

-- they keep the first rule and break the second
pub record BreaksFolds (first : List ℕ) (others : List (List ℕ)) (fault : MessageFault) : Type 0 where
  pub start_line : StartLine
  pub start : StartRule first (Ok start_line)
  pub broken : FoldRule others (Err fault)

-- they keep two rules and break the third
pub record BreaksHeaders (first : List ℕ) (others : List (List ℕ)) (fault : MessageFault) : Type 0 where
  pub start_line : StartLine
  pub unfolded_lines : List (List ℕ)
  pub start : StartRule first (Ok start_line)
  pub folds : FoldRule others (Ok unfolded_lines)
  pub broken : HeadersRule unfolded_lines (Err fault)

-- they keep three rules and break the fourth
pub record BreaksLength (first : List ℕ) (others : List (List ℕ)) (fault : MessageFault) : Type 0 where
  pub start_line : StartLine
  pub unfolded_lines : List (List ℕ)
  pub values : List HeaderText
  pub start : StartRule first (Ok start_line)
  pub folds : FoldRule others (Ok unfolded_lines)
  pub headers : HeadersRule unfolded_lines (Ok values)
  pub broken : LengthRule values (Err fault)

-- the head that the lines spell with the length of its body, or the fault of the first rule that they break
abbrev pub HeadRule : List (List ℕ) → Result (Head × ℕ) MessageFault → Type 0
HeadRule [] read = ⊥
HeadRule (first ∷ others) (Ok found) = SpellsHead first others found.0 found.1
HeadRule (first ∷ others) (Err fault) = (StartRule first (Err fault) ⊎ BreaksFolds first others fault) ⊎ (BreaksHeaders first others fault ⊎ BreaksLength first others fault)
