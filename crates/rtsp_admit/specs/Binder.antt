-- What the calls of a binder do.
use Rattle.std.specs.Prelude.{◌≡◌, ℕ, List, [], ◌∷◌, ◌++◌, map, filter_map, Option, Some}
use Rattle.rtsp_record.specs.Counters.{raised}
use Rattle.rtsp_record.specs.declared.changes.Record.{Record}
use Rattle.rtsp_record.specs.declared.holdings.Thing.{Thing}
use Rattle.rtsp_record.specs.declared.holdings.Thing.TheVariants.{Pair, Port}
use Rattle.rtsp_sessions.specs.declared.udp_ports.UdpPorts as book
use Rattle.rtsp_sessions.specs.declared.udp_ports.UdpPorts.TheVariants as variants
use Rattle.rtsp_book.specs.Receipts.{freed_as, freed_pairs, freed_ports}
use Rattle.rtsp_admit.specs.declared.udp_ports.UdpPorts.{UdpPorts}
use Rattle.rtsp_admit.specs.declared.udp_ports.UdpPorts.TheVariants as udp
use Rattle.rtsp_admit.specs.Steps.{ports_from}

-- a binder before and after a bind that succeeds, a bind that fails and an unbind, by admission and by the ports; and how many binds have failed
pub record Calls (B : Type 0) : Type 1 where
  pub binds : B → ℕ → Thing → B → Type 0
  pub fails : B → ℕ → Thing → B → Type 0
  pub unbinds : B → ℕ → Thing → B → Type 0
  pub failures : B → ℕ

-- pairs of ports as things, each under its admission
abbrev pub as_pairs : List (ℕ × ℕ) → List (ℕ × Thing)
as_pairs xs = map (λ x. (x.0, Pair x.1)) xs

-- single ports as things, each under its admission
abbrev pub as_ports : List (ℕ × ℕ) → List (ℕ × Thing)
as_ports xs = map (λ x. (x.0, Port x.1)) xs

-- the same ports in the words of the book
abbrev pub booked : UdpPorts → book.UdpPorts
booked udp.Pair = variants.Pair
booked udp.Port = variants.Port

-- what records freed of one kind of ports, each under its admission
abbrev pub freed_of : UdpPorts → List Record → List (ℕ × Thing)
freed_of kind made = map (λ x. (x.0, ports_from kind x.1)) (filter_map (freed_as (booked kind)) made)

-- what records freed of ports, each under its admission: the pairs, and then the single ports
abbrev pub freed_addresses : List Record → List (ℕ × Thing)
freed_addresses made = as_pairs (freed_pairs made) ++ as_ports (freed_ports made)

module _ {B : Type 0} (calls : Calls B) where
  -- the ports x were bound under admission a, and no failure was counted
  pub record Bound (a : ℕ) (x : Thing) (b c : B) : Type 0 where
    pub call : calls.binds b a x c
    pub count : calls.failures c ≡ calls.failures b

  -- they could not be bound, and that was counted
  pub record Failed (a : ℕ) (x : Thing) (b c : B) : Type 0 where
    pub call : calls.fails b a x c
    pub count : calls.failures c ≡ raised (calls.failures b)

  -- they were unbound, and no failure was counted
  pub record Unbound (a : ℕ) (x : Thing) (b c : B) : Type 0 where
    pub call : calls.unbinds b a x c
    pub count : calls.failures c ≡ calls.failures b

  -- these ports were unbound in order, each under its admission
  abbrev pub UnboundAll : List (ℕ × Thing) → B → B → Type 0
  UnboundAll [] b c = c ≡ b
  UnboundAll (x ∷ xs) b c = (d : B) × Unbound x.0 x.1 b d × UnboundAll xs d c

  -- an address was unbound, where there is one and it is ports
  abbrev pub Released : ℕ → Option Thing → B → B → Type 0
  Released a (Some (Pair p)) b c = Unbound a (Pair p) b c
  Released a (Some (Port p)) b c = Unbound a (Port p) b c
  Released a other b c = c ≡ b
