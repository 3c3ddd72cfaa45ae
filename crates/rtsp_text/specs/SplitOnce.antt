-- A text split at the first place of a byte.
use Rattle.std.specs.Prelude.{◌≡◌, ℕ, true, ◌==◌, List, [], ◌∷◌, ◌++◌, Option, Some, None, if◌then◌else◌}
use Rattle.std.specs.List.{list_all}
use Rattle.std.specs.Option.{option_map}
use Rattle.rtsp_text.specs.Bytes.{is_other}

-- the text before the first such byte, and the text after it
abbrev pub split_once : ℕ → List ℕ → Option (List ℕ × List ℕ)
split_once byte [] = None
split_once byte (b ∷ bytes) = if b == byte then Some ([], bytes) else option_map (λ (p : List ℕ × List ℕ). (b ∷ p.0, p.1)) (split_once byte bytes)

-- The two parts are the text round the first such byte; with no parts there is no such byte.
abbrev pub IsSplitAt : ℕ → List ℕ → Option (List ℕ × List ℕ) → Type 0
IsSplitAt byte text None = list_all (is_other byte) text ≡ true
IsSplitAt byte text (Some p) = (text ≡ p.0 ++ byte ∷ p.1) × (list_all (is_other byte) p.0 ≡ true)
