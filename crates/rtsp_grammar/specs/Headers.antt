-- Headers whose names and values stand in one buffer, one after another.
use Rattle.std.specs.Prelude.{ℕ, ◌-◌, ◌≤◌, List, length, take, drop, map}
use Rattle.std.specs.List.{AllByRecursion}
use Rattle.rtsp_grammar.specs.Header.{HeaderText}
use Rattle.rtsp_grammar.specs.declared.header.Place.{Place}

-- the header whose name and value stand there
abbrev pub header_at : List ℕ → Place → HeaderText
header_at bytes p = record { name = take (p.value - p.name) (drop p.name bytes); value = take (p.end - p.value) (drop p.value bytes) }

abbrev pub headers_at : List ℕ → List Place → List HeaderText
headers_at bytes places = map (header_at bytes) places

abbrev pub IsWithin : List ℕ → Place → Type 0
IsWithin bytes p = (p.name ≤ p.value) × (p.value ≤ p.end) × (p.end ≤ length bytes)

abbrev pub AreWithin : List ℕ → List Place → Type 0
AreWithin bytes places = AllByRecursion (IsWithin bytes) places
