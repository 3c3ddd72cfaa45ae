-- Lines of a head, each ended by CR LF (RFC 7826 sections 5 and 20.2.2).
use Rattle.std.specs.Prelude.{◌≡◌, ℕ, zero, suc, ◌+◌, ◌<◌, List, [], ◌∷◌, ◌++◌, length}
use Rattle.std.specs.List.{flat_map, AllByRecursion}
use Rattle.rtsp_text.specs.Line.{IsPlain, IsBroken, IsOpen}

-- a line of a head isn't empty
abbrev pub IsLine : List ℕ → Type 0
IsLine line = IsPlain line × (0 < length line)

-- the line and its end
abbrev pub line_text : List ℕ → List ℕ
line_text line = line ++ 13 ∷ 10 ∷ []

abbrev pub lines_text : List (List ℕ) → List ℕ
lines_text lines = flat_map line_text lines

-- this many empty lines
abbrev pub blank_text : ℕ → List ℕ
blank_text zero = []
blank_text (suc n) = 13 ∷ 10 ∷ blank_text n

-- the text is these lines, and then rest
pub record BeginsLines (text : List ℕ) (lines : List (List ℕ)) (rest : List ℕ) : Type 0 where
  pub parts : text ≡ lines_text lines ++ rest
  pub each : AllByRecursion IsLine lines

-- the text is these lines
pub record AreLines (text : List ℕ) (lines : List (List ℕ)) : Type 0 where
  pub parts : text ≡ lines_text lines
  pub each : AllByRecursion IsLine lines

-- lines, and then one that a CR or an LF alone ends
pub record IsBrokenHead (text : List ℕ) : Type 0 where
  pub lines : List (List ℕ)
  pub rest : List ℕ
  pub begins : BeginsLines text lines rest
  pub broken : IsBroken rest

-- lines, and then one whose end hasn't come
pub record IsOpenHead (text : List ℕ) : Type 0 where
  pub lines : List (List ℕ)
  pub rest : List ℕ
  pub begins : BeginsLines text lines rest
  pub open_end : IsOpen rest

-- n bytes are lines and the empty line that ends them
pub record IsHead (text : List ℕ) (lines : List (List ℕ)) (n : ℕ) : Type 0 where
  pub rest : List ℕ
  pub begins : BeginsLines text lines (13 ∷ 10 ∷ rest)
  pub length : n + length rest ≡ length text
