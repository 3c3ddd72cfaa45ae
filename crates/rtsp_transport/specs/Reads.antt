-- What reading gives is the grammar.
use Rattle.std.specs.Prelude.{◌≡◌, ◌⊎◌, Result, Ok, Err}
use Rattle.rtsp_transport.specs.declared.fault.TextFault.{TextFault}
use Rattle.rtsp_transport.specs.declared.fault.TextFault.TheVariants.{Malformed, OutOfMemory}

-- a value that the text spells, or the one fault
abbrev pub IsSpelled : {X : Type 0} → (X → Type 0) → Result X TextFault → Type 0
IsSpelled Spelled (Ok x) = Spelled x
IsSpelled Spelled (Err fault) = fault ≡ Malformed

-- What is read of a text is what it spells, and each value that it spells is read.
pub record Reads {T X : Type 0} (Spells : T → X → Type 0) (read : T → Result X TextFault) : Type 0 where
  pub sound : (text : T) → IsSpelled (Spells text) (read text)
  pub complete : (text : T) (x : X) → Spells text x → read text ≡ Ok x

-- the text spells no value
abbrev pub IsMalformed : {X : Type 0} → (X → Type 0) → TextFault → Type 0
IsMalformed {X} Spelled fault = (fault ≡ Malformed) × ((x : X) → ¬ Spelled x)

-- memory ran out, or the text spells no value
abbrev pub Refuses : {X : Type 0} → (X → Type 0) → TextFault → Type 0
Refuses Spelled fault = (fault ≡ OutOfMemory) ⊎ IsMalformed Spelled fault

-- the value is this one, seen by a view, unless memory ran out
abbrev pub Answers : {X Y : Type 0} → (X → Y) → Result X TextFault → Y → Type 0
Answers view (Ok x) y = view x ≡ y
Answers view (Err fault) y = fault ≡ OutOfMemory
