-- Versions of the protocol (RFC 7826 sections 4.1 and 20.2.2, RTSP-Version).
use Rattle.std.specs.Prelude.{◌≡◌, ℕ, true, List, ◌∷◌, ◌++◌, codes}
use Rattle.rtsp_text.specs.Bytes.{is_number}
use Rattle.rtsp_grammar.specs.Number.{number_of}
use Rattle.rtsp_grammar.specs.declared.version.Version.{Version}
use Rattle.rtsp_grammar.specs.declared.version.Version.TheVariants.{Rtsp2, Other}

-- `RTSP/`, digits, a dot, digits
pub record IsVersion (text : List ℕ) : Type 0 where
  pub major : List ℕ
  pub minor : List ℕ
  pub parts : text ≡ codes "RTSP/" ++ (major ++ 46 ∷ minor)
  pub major_number : is_number major ≡ true
  pub minor_number : is_number minor ≡ true

-- a version whose numbers are 2 and 0, as numbers
pub record IsVersion20 (text : List ℕ) : Type 0 where
  pub version : IsVersion text
  pub major : number_of version.major ≡ 2
  pub minor : number_of version.minor ≡ 0

-- a version with other numbers
pub record IsOtherVersion (text : List ℕ) : Type 0 where
  pub version : IsVersion text
  pub other : ¬ IsVersion20 text

-- the text is this version: its numbers are 2 and 0, or it is another's text
abbrev pub SpellsVersion : List ℕ → Version → Type 0
SpellsVersion text Rtsp2 = IsVersion20 text
SpellsVersion text (Other other) = IsOtherVersion text × (text ≡ other)

-- how a version is written
abbrev pub version_text : Version → List ℕ
version_text Rtsp2 = codes "RTSP/2.0"
version_text (Other text) = text

-- the text of another version is one
abbrev pub IsCanonicalVersion : Version → Type 0
IsCanonicalVersion Rtsp2 = Unit {0}
IsCanonicalVersion (Other text) = IsOtherVersion text
