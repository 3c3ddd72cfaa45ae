-- The parameter at the front of a list (RFC 7235 section 2.1).
use Rattle.std.specs.Prelude.{◌≡◌, ◌<◌, ℕ, false, List, [], ◌∷◌, ◌++◌, length, Option, Some, None, IfSome}
use Rattle.rtsp_transport.specs.Split.{split, parts_left}
use Rattle.rtsp_credentials.specs.Parameters.{ParameterTexts, gathered}
use Rattle.rtsp_credentials.specs.Grammar.{SpellsValue, SpellsPart}

-- what stands behind a part: nothing, or a comma and the parts that are left
abbrev pub tail : Option (List ℕ) → List ℕ
tail None = []
tail (Some left) = 44 ∷ left

-- The text begins with what spells a value, and its part ends there.
pub record EndsValue (text value : List ℕ) (left : Option (List ℕ)) : Type 0 where
  pub written : List ℕ
  pub parts : text ≡ written ++ tail left
  pub spelled : SpellsValue written value

-- The first part of the text spells a parameter, and these parts are left.
pub record IsFront (text name value : List ℕ) (left : Option (List ℕ)) : Type 0 where
  pub part : List ℕ
  pub cut : split false 44 text ≡ part ∷ parts_left 44 left
  pub spelled : SpellsPart part (name, value)
  pub shorter : IfSome left (λ rest. length rest < length text)

-- The parameters of a list are those of what is left of it beside these, or it is refused.
abbrev pub Gathers : List ℕ → ParameterTexts → ParameterTexts → Option (Option (List ℕ)) → Type 0
Gathers text old new None = gathered old (split false 44 text) ≡ None
Gathers text old new (Some left) = gathered old (split false 44 text) ≡ gathered new (parts_left 44 left)
