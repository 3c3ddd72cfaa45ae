-- The value of a Transport header (RFC 7826 section 18.54).
use Rattle.std.specs.Prelude.{◌≡◌, ◌≢◌, ◌≤◌, ℕ, true, List, [], ◌∷◌, ◌++◌, length, Option, Some, None}
use Rattle.std.specs.List.{list_all}
use Rattle.rtsp_text.specs.Bytes.{is_other}
use Rattle.rtsp_text.specs.Trim.{IsPadded}
use Rattle.rtsp_transport.specs.Split.{IsSplit}
use Rattle.rtsp_transport.specs.Paired.{Paired}
use Rattle.rtsp_transport.specs.declared.spec.Parameter.{Parameter}
use Rattle.rtsp_transport.specs.declared.spec.Spec.{Spec}

-- a name, or a name, an equals sign and a value
abbrev pub parameter_text : List ℕ → Option (List ℕ) → List ℕ
parameter_text name None = name
parameter_text name (Some value) = name ++ 61 ∷ value

-- The part is a parameter with spaces and tabs round it. Its name ends before the first equals sign.
pub record SpellsParameter (part : List ℕ) (parameter : Parameter) : Type 0 where
  pub padded : IsPadded part (parameter_text parameter.name parameter.value)
  pub some : parameter_text parameter.name parameter.value ≢ []
  pub name : list_all (is_other 61) parameter.name ≡ true

-- The part is a protocol with spaces and tabs round it.
pub record SpellsProtocol (part protocol : List ℕ) : Type 0 where
  pub padded : IsPadded part protocol
  pub some : protocol ≢ []

-- The text is a protocol and parameters, with semicolons between them. A semicolon in quotes is none.
pub record SpellsSpec (text : List ℕ) (spec : Spec) : Type 0 where
  pub first : List ℕ
  pub others : List (List ℕ)
  pub split : IsSplit 59 text (first ∷ others)
  pub protocol : SpellsProtocol first spec.protocol
  pub parameters : Paired SpellsParameter others spec.parameters

-- The text is 1 to 16 specifications, with commas between them. A comma in quotes is none.
pub record SpellsTransport (text : List ℕ) (specs : List Spec) : Type 0 where
  pub parts : List (List ℕ)
  pub split : IsSplit 44 text parts
  pub few : length parts ≤ 16
  pub each : Paired SpellsSpec parts specs
