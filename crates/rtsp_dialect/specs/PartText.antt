-- Parts of a text, one after another.
use Rattle.std.specs.Prelude.{ℕ, List, ◌∷◌}
use Rattle.std.specs.List.{flat_map}

-- parts, each with a separator before it
abbrev pub behind : ℕ → List (List ℕ) → List ℕ
behind separator parts = flat_map (λ part. separator ∷ part) parts
