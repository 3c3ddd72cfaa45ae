-- Which moments clocks tell.
use Rattle.std.specs.Prelude.{◌≡◌, ◌≤◌, ℕ}

-- from the last moment told: what is told isn't before it, and is the last one from then on
abbrev pub GoesOn : ℕ → ℕ → ℕ → Type 0
GoesOn last moment new = (last ≤ moment) × (new ≡ moment)
