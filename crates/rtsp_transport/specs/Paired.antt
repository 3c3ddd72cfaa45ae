-- Two lists of one length, side by side.
use Rattle.std.specs.Prelude.{List, [], ◌∷◌}

-- each text spells the value at its place
abbrev pub Paired : {X Y : Type 0} → (X → Y → Type 0) → List X → List Y → Type 0
Paired Spells [] [] = Unit {0}
Paired Spells [] (y ∷ ys) = ⊥
Paired Spells (x ∷ xs) [] = ⊥
Paired Spells (x ∷ xs) (y ∷ ys) = Spells x y × Paired Spells xs ys
