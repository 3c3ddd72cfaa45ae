-- What is free of the uplink for plays that are late.
use Rattle.std.specs.Prelude.{ℕ, ◌+◌, ◌-◌, ◌*◌, ◌^◌, min}

-- what there is where so much was left, and a rate has brought more for so many milliseconds: as much of it as comes in `kept` of them
abbrev pub gathered : ℕ → ℕ → ℕ → ℕ → ℕ
gathered kept left rate passed = min (min (left + rate * min passed kept) (rate * kept)) (2 ^ 64 - 1)
