-- Which ports were found to be another's.
use Rattle.std.specs.Prelude.{◌≡◌, ℕ, ◌-◌, Option, Some, None, length, slice_get, slice_set}
use Rattle.rtsp_sockets.specs.declared.taken.TakenPorts.{TakenPorts}

-- a port was found so on this address of the host
abbrev pub IsTaken : TakenPorts → ℕ → ℕ → Type 0
IsTaken taken host port = slice_get taken.hosts.items (port - taken.first_port) ≡ Some (Some host)

-- both have a place for each port of the same range
pub record IsOfRange (old new : TakenPorts) : Type 0 where
  pub first : new.first_port ≡ old.first_port
  pub places : length new.hosts.items ≡ length old.hosts.items

-- this is what is noted of a port of the range now, and of the others what was
pub record PutsAt (old : TakenPorts) (port : ℕ) (host : Option ℕ) (new : TakenPorts) : Type 0 where
  pub first : new.first_port ≡ old.first_port
  pub there : (was : Option ℕ) → slice_get old.hosts.items (port - old.first_port) ≡ Some was → new.hosts.items ≡ slice_set old.hosts.items (port - old.first_port) host
  pub none : slice_get old.hosts.items (port - old.first_port) ≡ None → new.hosts.items ≡ old.hosts.items
