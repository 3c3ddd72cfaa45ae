-- Which ports are bound, pairs and single ones, each by its admission.
use Rattle.std.specs.Prelude.{◌≡◌, ◌≢◌, ◌≤◌, ℕ, ◌+◌, ◌-◌, ◌*◌, ◌/◌, ◌%◌, slice_get, replicate, List, Option, Some, None}
use Rattle.rtsp_record.specs.Counters.{raised}
use Rattle.rtsp_record.specs.declared.holdings.Thing.{Thing}
use Rattle.rtsp_record.specs.declared.holdings.Thing.TheVariants.{Pair, Port, Chan, Rate}
use Rattle.rtsp_admit.specs.Binder.{Calls}
use Rattle.rtsp_traits.specs.declared.port_set.PortSet.{PortSet}

-- a pair of the set begins at its first port, or some pairs above it
abbrev pub IsOwnPair : ℕ → ℕ → Type 0
IsOwnPair first pair = (first ≤ pair) × ((pair - first) % 2 ≡ 0)

-- a port of the set isn't below its first port
abbrev pub IsOwnPort : ℕ → ℕ → Type 0
IsOwnPort first port = first ≤ port

-- an address of the set, where it has so many ports
abbrev pub IsOwn : PortSet → Thing → Type 0
IsOwn b (Pair p) = IsOwnPair b.first_port p
IsOwn b (Port p) = IsOwnPort b.first_port p
IsOwn b (Chan c k) = ⊥
IsOwn b (Rate n) = ⊥

-- the place of a pair, by its first port
abbrev pub pair_place : ℕ → ℕ → ℕ
pair_place first pair = (pair - first) / 2

-- the place of a port
abbrev pub port_place : ℕ → ℕ → ℕ
port_place first port = port - first

-- so many pairs from this port on, of which none is bound, nor one of their ports, and no call has failed
pub record NoneBound (first pairs : ℕ) (b : PortSet) : Type 0 where
  pub start : b.first_port ≡ first
  pub pairs_free : b.pairs.items ≡ replicate pairs None
  pub ports_free : b.ports.items ≡ replicate (2 * pairs) None
  pub count : b.failed ≡ 0

-- a pair of the set is free, and so are its ports
abbrev pub IsOpenPair : PortSet → ℕ → Type 0
IsOpenPair b p =
    IsOwnPair b.first_port p
    × (slice_get b.pairs.items (pair_place b.first_port p) ≡ Some None)
    × (slice_get b.ports.items (port_place b.first_port p) ≡ Some None)
    × (slice_get b.ports.items (port_place b.first_port p + 1) ≡ Some None)

-- a port of the set is free, and so is its pair
abbrev pub IsOpenPort : PortSet → ℕ → Type 0
IsOpenPort b p =
    IsOwnPort b.first_port p
    × (slice_get b.ports.items (port_place b.first_port p) ≡ Some None)
    × (slice_get b.pairs.items (pair_place b.first_port p) ≡ Some None)

-- the address can be bound
abbrev pub IsOpen : PortSet → Thing → Type 0
IsOpen b (Pair p) = IsOpenPair b p
IsOpen b (Port p) = IsOpenPort b p
IsOpen b (Chan c k) = ⊥
IsOpen b (Rate n) = ⊥

-- what is at an address's place: none outside the range, else perhaps the admission that has it
abbrev pub slot : PortSet → Thing → Option (Option ℕ)
slot b (Pair p) = slice_get b.pairs.items (pair_place b.first_port p)
slot b (Port p) = slice_get b.ports.items (port_place b.first_port p)
slot b (Chan c k) = None
slot b (Rate n) = None

-- the address is bound under this admission
pub record IsBoundUnder (b : PortSet) (a : ℕ) (x : Thing) : Type 0 where
  pub own : IsOwn b x
  pub under : slot b x ≡ Some (Some a)

-- only this place differs
abbrev pub OnlyAt : ℕ → List (Option ℕ) → List (Option ℕ) → Type 0
OnlyAt place old new = (q : ℕ) → q ≢ place → slice_get new q ≡ slice_get old q

-- all other addresses are as they were
abbrev pub KeepsOthers : PortSet → Thing → PortSet → Type 0
KeepsOthers b (Pair p) c = OnlyAt (pair_place b.first_port p) b.pairs.items c.pairs.items × (c.ports.items ≡ b.ports.items)
KeepsOthers b (Port p) c = OnlyAt (port_place b.first_port p) b.ports.items c.ports.items × (c.pairs.items ≡ b.pairs.items)
KeepsOthers b (Chan d k) c = ⊥
KeepsOthers b (Rate n) c = ⊥

-- an address that was free is this admission's
pub record Binds (b : PortSet) (a : ℕ) (x : Thing) (c : PortSet) : Type 0 where
  pub free : IsOpen b x
  pub bound : slot c x ≡ Some (Some a)
  pub others : KeepsOthers b x c
  pub first : c.first_port ≡ b.first_port

-- the address wasn't free, and only the count of failures is changed
pub record Fails (b : PortSet) (a : ℕ) (x : Thing) (c : PortSet) : Type 0 where
  pub taken : IsOpen b x → ⊥
  pub counted : c ≡ record b { failed = raised b.failed }

-- the address that was bound under this admission is free, and nothing else is changed
pub record Unbinds (b : PortSet) (a : ℕ) (x : Thing) (c : PortSet) : Type 0 where
  pub freed : IsBoundUnder b a x → slot c x ≡ Some None
  pub same : (IsBoundUnder b a x → ⊥) → c ≡ b
  pub others : KeepsOthers b x c
  pub first : c.first_port ≡ b.first_port

-- the calls of such a binder
abbrev pub calls : Calls PortSet
calls = record { binds = Binds; fails = Fails; unbinds = Unbinds; failures = λ b. b.failed }
