-- Which ports are bound, each pair or single one under an admission.
use Rattle.std.specs.Prelude.{◌≡◌, ℕ, ◌-◌, ◌/◌, List, Option, Some, None, slice_get, slice_set}
use Rattle.std.specs.Arc.{arc_value}
use Rattle.rtsp_sockets.specs.declared.bound.Bound.{Bound}
use Rattle.rtsp_sockets.specs.declared.slots.Slots.{Slots}

-- the place of an address of so many ports, by its first one
abbrev pub place_of : ℕ → ℕ → ℕ → ℕ
place_of first ports port = (port - first) / ports

module _ {ports : ℕ} where
  -- the first port of an address
  abbrev pub port_in : Bound ports → ℕ
  port_in b = (arc_value b.sockets).port

  -- it is this address, under this admission
  pub record IsOf (b : Bound ports) (admission port : ℕ) : Type 0 where
    pub under : (arc_value b.sockets).admission ≡ admission
    pub first : port_in b ≡ port

  -- what is at an address's place: none outside the range, else perhaps what is bound there
  abbrev pub slot : Slots ports → ℕ → Option (Option (Bound ports))
  slot s port = slice_get s.slots.items (place_of s.first_port ports port)

  -- the slots, with this at an address's place
  abbrev pub with_slot : Slots ports → ℕ → Option (Bound ports) → List (Option (Bound ports))
  with_slot s port bound = slice_set s.slots.items (place_of s.first_port ports port) bound

  -- the address is bound, and under this admission
  pub record IsBoundUnder (s : Slots ports) (admission port : ℕ) (bound : Bound ports) : Type 0 where
    pub there : slot s port ≡ Some (Some bound)
    pub is : IsOf bound admission port

  -- the address isn't bound under this admission
  abbrev pub IsNotUnder : Slots ports → ℕ → ℕ → Type 0
  IsNotUnder s admission port = (bound : Bound ports) → slot s port ≡ Some (Some bound) → IsOf bound admission port → ⊥

  -- a place that was free has the address now
  pub record Puts (old : Slots ports) (bound : Bound ports) (new : Slots ports) : Type 0 where
    pub free : slot old (port_in bound) ≡ Some None
    pub slots : new.slots.items ≡ with_slot old (port_in bound) (Some bound)
    pub first : new.first_port ≡ old.first_port

  -- the address that was bound under the admission was taken out
  pub record Takes (old : Slots ports) (admission port : ℕ) (bound : Bound ports) (new : Slots ports) : Type 0 where
    pub under : IsBoundUnder old admission port bound
    pub slots : new.slots.items ≡ with_slot old port None
    pub first : new.first_port ≡ old.first_port

  -- nothing is changed
  pub record Stays (old new : Slots ports) : Type 0 where
    pub slots : new.slots.items ≡ old.slots.items
    pub first : new.first_port ≡ old.first_port
