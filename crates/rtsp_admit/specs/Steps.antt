-- The steps of an admission, and what of them is unwound at a refusal.
use Rattle.std.specs.Prelude.{ℕ, ◌+◌, Bool, false, List, [], ◌∷◌, ◌++◌, is_some, slice_get, Option, Some, None}
use Rattle.rtsp_record.specs.declared.changes.Record.{Record}
use Rattle.rtsp_record.specs.declared.changes.Record.TheVariants as change
use Rattle.rtsp_record.specs.declared.holdings.Thing.{Thing}
use Rattle.rtsp_record.specs.declared.holdings.Thing.TheVariants.{Rate, Pair, Port, Chan}
use Rattle.rtsp_record.specs.Choices.{IsWish}
use Rattle.rtsp_book.specs.declared.asks.Admitted.{Admitted}
use Rattle.rtsp_book.specs.declared.asks.Ask.{Ask}
use Rattle.rtsp_book.specs.declared.asks.Opening.{Opening}
use Rattle.rtsp_book.specs.declared.asks.Wanted.{Wanted}
use Rattle.rtsp_book.specs.declared.asks.Wanted.TheVariants as wanted
use Rattle.rtsp_book.specs.declared.refusals.Refusal.{Refusal}
use Rattle.rtsp_book.specs.declared.steps.Chain.{Chain}
use Rattle.rtsp_book.specs.declared.steps.Step.{Step}
use Rattle.rtsp_book.specs.declared.steps.Step.TheVariants as step
use Rattle.rtsp_admit.specs.declared.failure.Failure.{Failure}
use Rattle.rtsp_admit.specs.declared.failure.Failure.TheVariants as failure
use Rattle.rtsp_admit.specs.declared.udp_ports.UdpPorts.{UdpPorts}
use Rattle.rtsp_admit.specs.declared.udp_ports.UdpPorts.TheVariants as udp

-- a wish for channels is even and at most 254
abbrev pub HasWish : Wanted → Type 0
HasWish wanted.Pair = Unit {0}
HasWish wanted.Port = Unit {0}
HasWish (wanted.Channels conn wish) = IsWish wish

-- the session is opened
abbrev pub open_step : Ask → Opening → Step
open_step ask o = step.Open (record { session = ask.session; id = o.id; conn = o.conn; expires = o.expires })

-- bits per second are held
abbrev pub rate_step : Ask → Step
rate_step ask = step.HoldRate ask.session ask.admission ask.rate

-- ports by the first of them
abbrev pub ports_from : UdpPorts → ℕ → Thing
ports_from udp.Pair p = Pair p
ports_from udp.Port p = Port p

-- the number after the last of them
abbrev pub next_above : UdpPorts → ℕ → ℕ
next_above udp.Pair p = p + 2
next_above udp.Port p = p + 1

-- the least free ones not below `from` are held
abbrev pub ports_step : Ask → UdpPorts → ℕ → Step
ports_step ask udp.Pair from = step.HoldPair ask.session ask.admission from
ports_step ask udp.Port from = step.HoldPort ask.session ask.admission from

-- channels of a connection are held
abbrev pub chan_step : Ask → ℕ → Option ℕ → Step
chan_step ask conn wish = step.HoldChan (record { session = ask.session; admission = ask.admission; conn = conn; wish = wish })

-- ports that could not be bound are given back
abbrev pub return_step : Ask → Thing → Step
return_step ask x = step.Return ask.session ask.admission x

-- the stream is set up over what is held
abbrev pub commit_step : Ask → Step
commit_step ask = step.Commit (record { session = ask.session; admission = ask.admission; stream = ask.stream; startup = ask.startup })

-- the address as it is first asked for
abbrev pub address_step : Ask → Wanted → Step
address_step ask wanted.Pair = ports_step ask udp.Pair 0
address_step ask wanted.Port = ports_step ask udp.Port 0
address_step ask (wanted.Channels conn wish) = chan_step ask conn wish

-- the Open of an admission that opens its session
abbrev pub opening_steps : Ask → Option Opening → List Step
opening_steps ask None = []
opening_steps ask (Some o) = open_step ask o ∷ []

-- the steps of an admission in which no bind fails
abbrev pub first_steps : Ask → List Step
first_steps ask = opening_steps ask ask.opening ++ rate_step ask ∷ address_step ask ask.wanted ∷ commit_step ask ∷ []

-- what the first of some records holds
abbrev pub thing_by : Option Record → Option Thing
thing_by (Some (change.Hold h)) = Some h.thing
thing_by o = None

abbrev pub thing_in : List Record → Option Thing
thing_in made = thing_by (slice_get made 0)

-- a thing that is ports, by the first of them
abbrev pub first_port_of : Thing → Option ℕ
first_port_of (Pair p) = Some p
first_port_of (Port p) = Some p
first_port_of (Chan c k) = None
first_port_of (Rate n) = None

-- the first of the ports that the first of some records holds
abbrev pub first_port_by : Option Record → Option ℕ
first_port_by (Some (change.Hold h)) = first_port_of h.thing
first_port_by o = None

abbrev pub first_port_in : List Record → Option ℕ
first_port_in made = first_port_by (slice_get made 0)

-- a chain of the admission
abbrev pub chain_of : Ask → Bool → Option Thing → Option Thing → Chain
chain_of ask opened first second = record { session = ask.session; admission = ask.admission; opened = opened; first = first; second = second }

-- what was accepted before a failure and not returned
abbrev pub chain_left : Ask → Failure → Chain
chain_left ask (failure.Open refusal) = chain_of ask false None None
chain_left ask (failure.Rate refusal) = chain_of ask (is_some ask.opening) None None
chain_left ask (failure.Address e) = chain_of ask (is_some ask.opening) (Some (Rate ask.rate)) e.unreturned
chain_left ask (failure.Commit refusal address) = chain_of ask (is_some ask.opening) (Some (Rate ask.rate)) (Some address)

-- the refusal of the step that failed
abbrev pub refusal_of : Failure → Refusal
refusal_of (failure.Open refusal) = refusal
refusal_of (failure.Rate refusal) = refusal
refusal_of (failure.Address e) = e.refusal
refusal_of (failure.Commit refusal address) = refusal

-- the address that was held and bound before it
abbrev pub bound_address : Failure → Option Thing
bound_address (failure.Open refusal) = None
bound_address (failure.Rate refusal) = None
bound_address (failure.Address e) = None
bound_address (failure.Commit refusal address) = Some address

-- what is granted with an address
abbrev pub admitted : Ask → Thing → Admitted
admitted ask address = record { session = ask.session; admission = ask.admission; address = address; stream = ask.stream }
