-- The third rule: header lines (RFC 7826 sections 5.2 and 20.2.3).
use Rattle.std.specs.Prelude.{◌≡◌, ℕ, ◌⊎◌, true, List, [], ◌∷◌, ◌++◌, Result, Ok, Err}
use Rattle.std.specs.List.{list_all}
use Rattle.rtsp_text.specs.Trim.{HasPlainEnds}
use Rattle.rtsp_text.specs.Bytes.{is_blank, is_token}
use Rattle.rtsp_grammar.specs.Bytes.{is_value_byte}
use Rattle.rtsp_grammar.specs.Header.{HeaderText}
use Rattle.rtsp_grammar.specs.declared.fault.MessageFault.{MessageFault}
use Rattle.rtsp_grammar.specs.declared.fault.MessageFault.TheVariants.{BadHeader}

-- a token, and a value without spaces and tabs at its ends
pub record IsHeader (header : HeaderText) : Type 0 where
  pub name : is_token header.name ≡ true
  pub value : list_all is_value_byte header.value ≡ true
  pub ends : HasPlainEnds header.value

-- a header's name, blanks, a colon, blanks, its value, blanks
pub record SpellsHeader (line : List ℕ) (header : HeaderText) : Type 0 where
  pub pad : List ℕ
  pub before : List ℕ
  pub behind : List ℕ
  pub parts : line ≡ header.name ++ pad ++ 58 ∷ before ++ header.value ++ behind
  pub fits : IsHeader header
  pub pad_blank : list_all is_blank pad ≡ true
  pub before_blank : list_all is_blank before ≡ true
  pub behind_blank : list_all is_blank behind ≡ true

-- each line is a header
abbrev pub AreHeaders : List (List ℕ) → List HeaderText → Type 0
AreHeaders [] [] = Unit {0}
AreHeaders [] (header ∷ headers) = ⊥
AreHeaders (line ∷ lines) [] = ⊥
AreHeaders (line ∷ lines) (header ∷ headers) = SpellsHeader line header × AreHeaders lines headers

-- some line is no header
abbrev pub HasNoHeader : List (List ℕ) → Type 0
HasNoHeader [] = ⊥
HasNoHeader (line ∷ lines) = ((header : HeaderText) → ¬ SpellsHeader line header) ⊎ HasNoHeader lines

-- each line is a header, or some line is none and BadHeader
abbrev pub HeadersRule : List (List ℕ) → Result (List HeaderText) MessageFault → Type 0
HeadersRule lines (Ok headers) = AreHeaders lines headers
HeadersRule lines (Err fault) = (fault ≡ BadHeader) × HasNoHeader lines
