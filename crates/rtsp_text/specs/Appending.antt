-- What a function that appends bytes leaves.
use Rattle.std.specs.Prelude.{◌≡◌, ◌+◌, ◌≤◌, ℕ, List, ◌++◌, length, take, vec_capacity, Result, Ok, Err}
use Rattle.std.specs.Global.{Vec}

-- the text is at the end; after an error what was there is still at the front
abbrev pub Appends : {E : Type 0} → Result (Unit {0}) E → List ℕ → List ℕ → List ℕ → Type 0
Appends (Ok u) old new text = new ≡ old ++ text
Appends (Err e) old new text = take (length old) new ≡ old

-- the Vec can take this text at its end without growing
abbrev pub HasRoom : Vec ℕ → List ℕ → Type 0
HasRoom out text = length out.items + length text ≤ vec_capacity out
