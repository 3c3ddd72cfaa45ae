-- What slices hold, without where they are in memory.
use Rattle.std.specs.Prelude.{ℕ, List, map, Option, Some, None}
use Rattle.std.specs.List.{flat_map}
use Rattle.std.specs.Option.{option_map}
use Rattle.std.specs.Borrow.{Bor}

-- the text of a slice that may be missing
abbrev pub held : Option (Bor (List ℕ)) → Option (List ℕ)
held slice = option_map (λ (s : Bor (List ℕ)). s.now) slice

-- the texts of the two halves of a split
abbrev pub halves : Option (Bor (List ℕ) × Bor (List ℕ)) → Option (List ℕ × List ℕ)
halves None = None
halves (Some p) = Some (p.0.now, p.1.now)

-- the texts of several slices
abbrev pub texts : List (Bor (List ℕ)) → List (List ℕ)
texts slices = map (λ s. s.now) slices

-- the texts of several slices, joined to one
abbrev pub joined : List (Bor (List ℕ)) → List ℕ
joined slices = flat_map (λ s. s.now) slices
