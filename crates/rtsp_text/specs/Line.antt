-- A line at the front of a text, ended by CR LF (RFC 7826 sections 5 and 20.2.2).
use Rattle.std.specs.Prelude.{◌≡◌, ◌≢◌, ℕ, ◌⊎◌, List, [], ◌∷◌, ◌++◌, IsTrue}
use Rattle.std.specs.List.{list_all}
use Rattle.rtsp_text.specs.Bytes.{is_line_byte}

-- no CR and no LF
abbrev pub IsPlain : List ℕ → Type 0
IsPlain line = IsTrue (list_all is_line_byte line)

-- an LF that no CR stands before, or a CR that no LF follows
abbrev pub BeginsBare : List ℕ → Type 0
BeginsBare [] = ⊥
BeginsBare (b ∷ []) = b ≡ 10
BeginsBare (b ∷ c ∷ more) = (b ≡ 10) ⊎ ((b ≡ 13) × (c ≢ 10))

-- the text's first line end is a CR or an LF alone
pub record IsBroken (text : List ℕ) : Type 0 where
  pub line : List ℕ
  pub rest : List ℕ
  pub parts : text ≡ line ++ rest
  pub plain : IsPlain line
  pub bare : BeginsBare rest

-- the text ends inside its first line, or with that line's CR
pub record IsOpen (text : List ℕ) : Type 0 where
  pub line : List ℕ
  pub rest : List ℕ
  pub parts : text ≡ line ++ rest
  pub plain : IsPlain line
  pub short : (rest ≡ []) ⊎ (rest ≡ 13 ∷ [])

-- the text has a line at its front, and then rest
pub record HasLine (text line rest : List ℕ) : Type 0 where
  pub parts : text ≡ line ++ 13 ∷ 10 ∷ rest
  pub plain : IsPlain line
