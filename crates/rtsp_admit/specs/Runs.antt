-- The run of an admission: the calls of a seat and of a binder, one after another. Between any two of them other seats may act.
use Rattle.std.specs.Prelude.{◌≡◌, ℕ, List, [], ◌∷◌, Option, Some, None, Result, Ok, Err}
use Rattle.rtsp_record.specs.declared.changes.Record.{Record}
use Rattle.rtsp_record.specs.declared.holdings.Thing.{Thing}
use Rattle.rtsp_record.specs.declared.holdings.Thing.TheVariants.{Rate}
use Rattle.rtsp_record.specs.Records.{holds}
use Rattle.rtsp_book.specs.declared.asks.Admitted.{Admitted}
use Rattle.rtsp_book.specs.declared.asks.Ask.{Ask}
use Rattle.rtsp_book.specs.declared.asks.Opening.{Opening}
use Rattle.rtsp_book.specs.declared.asks.Wanted.{Wanted}
use Rattle.rtsp_book.specs.declared.asks.Wanted.TheVariants as wanted
use Rattle.rtsp_book.specs.declared.refusals.Refusal.{Refusal}
use Rattle.rtsp_book.specs.declared.steps.Step.{Step}
use Rattle.rtsp_book.specs.declared.steps.Step.TheVariants as step
use Rattle.rtsp_lock.specs.declared.seat.BookSeat.{BookSeat}
use Rattle.rtsp_lock.specs.declared.view.View.{View}
use Rattle.rtsp_lock.specs.Calls.{seat_view, Acted}
use Rattle.rtsp_admit.specs.declared.failure.Attempt.{Attempt}
use Rattle.rtsp_admit.specs.declared.failure.Attempt.TheVariants as attempt
use Rattle.rtsp_admit.specs.declared.failure.Failure.{Failure}
use Rattle.rtsp_admit.specs.declared.failure.Failure.TheVariants as failure
use Rattle.rtsp_admit.specs.declared.failure.NoAddress.{NoAddress}
use Rattle.rtsp_admit.specs.declared.udp_ports.UdpPorts.{UdpPorts}
use Rattle.rtsp_admit.specs.declared.udp_ports.UdpPorts.TheVariants as udp
use Rattle.rtsp_admit.specs.Binder.{Calls, Bound, Failed, UnboundAll, Released, freed_addresses}
use Rattle.rtsp_admit.specs.Steps.{open_step, rate_step, ports_from, next_above, ports_step, chan_step, return_step, commit_step, chain_left, refusal_of, bound_address, admitted}

-- what a seat knows, and a binder, at one moment
pub record State (B : Type 0) : Type 0 where
  pub view : View
  pub binder : B

-- the seat and the binder that a call is given
abbrev pub state_of : {B : Type 0} → BookSeat → B → State B
state_of seat binder = record { view = seat_view seat; binder = binder }

-- the seat has come to know more
abbrev pub with_view : {B : Type 0} → View → State B → State B
with_view v s = record { view = v; binder = s.binder }

-- The steps before the address.

-- the session lives already, or its Open is accepted
abbrev pub Opened : Ask → Option Opening → View → View → Type 0
Opened ask None v u = u ≡ v
Opened ask (Some o) v u = (made : List Record) × Acted v u (open_step ask o) (Ok made)

-- its Open is refused
abbrev pub NotOpened : Ask → Option Opening → Refusal → View → View → Type 0
NotOpened ask None refusal v u = ⊥
NotOpened ask (Some o) refusal v u = Acted v u (open_step ask o) (Err refusal)

-- a step is accepted, and holds this and nothing else
abbrev pub Held : Ask → Step → Thing → View → View → Type 0
Held ask step x v u = Acted v u step (Ok (holds ask.session ask.admission x ∷ []))

-- the session is open, and the rate is held
pub record Rated (ask : Ask) (v u : View) : Type 0 where
  pub opened : View
  pub opens : Opened ask ask.opening v opened
  pub holds : Held ask (rate_step ask) (Rate ask.rate) opened u

module _ {B : Type 0} (calls : Calls B) (ask : Ask) (kind : UdpPorts) where
  -- One try for ports, of those not below `from`.

  -- they are held and bound
  pub record PortsBound (from p : ℕ) (s t : State B) : Type 0 where
    pub held : Held ask (ports_step ask kind from) (ports_from kind p) s.view t.view
    pub bound : Bound calls ask.admission (ports_from kind p) s.binder t.binder

  -- they are held, can't be bound, and are given back
  pub record PortsReturned (from p : ℕ) (s t : State B) : Type 0 where
    pub between : View
    pub held : Held ask (ports_step ask kind from) (ports_from kind p) s.view between
    pub failed : Failed calls ask.admission (ports_from kind p) s.binder t.binder
    pub made : List Record
    pub returned : Acted between t.view (return_step ask (ports_from kind p)) (Ok made)

  -- they are held, can't be bound, and their Return is refused
  pub record PortsUnreturned (from : ℕ) (refusal : Refusal) (x : Thing) (s t : State B) : Type 0 where
    pub first : ℕ
    pub is : x ≡ ports_from kind first
    pub between : View
    pub held : Held ask (ports_step ask kind from) x s.view between
    pub failed : Failed calls ask.admission x s.binder t.binder
    pub refused : Acted between t.view (return_step ask x) (Err refusal)

  -- none are held, or some are that can't be bound and whose Return is refused
  abbrev pub PortsRefused : ℕ → Refusal → Option Thing → State B → State B → Type 0
  PortsRefused from refusal None s t = Acted s.view t.view (ports_step ask kind from) (Err refusal) × (t.binder ≡ s.binder)
  PortsRefused from refusal (Some x) s t = PortsUnreturned from refusal x s t

  -- what a try comes to
  abbrev pub Attempted : ℕ → Attempt → State B → State B → Type 0
  Attempted from (attempt.Bound p) s t = PortsBound from p s t
  Attempted from (attempt.Returned p) s t = PortsReturned from p s t
  Attempted from (attempt.Refused e) s t = PortsRefused from e.refusal e.unreturned s t

  -- some more are given back after those of an earlier run, and the next try is for those above them
  pub record OneMore (earlier : ℕ → State B → State B → Type 0) (p from : ℕ) (s t : State B) : Type 0 where
    pub start : ℕ
    pub between : State B
    pub before : earlier start s between
    pub returned : PortsReturned start p between t
    pub next : from ≡ next_above kind p

  -- from 0 on these were given back, the last first, and the next try is for those not below `from`
  abbrev pub Tried : List ℕ → ℕ → State B → State B → Type 0
  Tried [] from s t = (from ≡ 0) × (t ≡ s)
  Tried (p ∷ before) from s t = OneMore (Tried before) p from s t

  -- tries until some are bound
  pub record PortsGranted (x : Thing) (s t : State B) : Type 0 where
    pub first : ℕ
    pub is : x ≡ ports_from kind first
    pub tried : List ℕ
    pub from : ℕ
    pub between : State B
    pub tries : Tried tried from s between
    pub last : PortsBound from first between t

  -- tries until one is refused
  pub record NoPortsGranted (e : NoAddress) (s t : State B) : Type 0 where
    pub tried : List ℕ
    pub from : ℕ
    pub between : State B
    pub tries : Tried tried from s between
    pub last : PortsRefused from e.refusal e.unreturned between t

module _ {B : Type 0} (calls : Calls B) (ask : Ask) where
  -- The address.

  -- it is held, and bound where it is ports
  abbrev pub Addressed : Wanted → Thing → State B → State B → Type 0
  Addressed wanted.Pair x s t = PortsGranted calls ask udp.Pair x s t
  Addressed wanted.Port x s t = PortsGranted calls ask udp.Port x s t
  Addressed (wanted.Channels conn wish) x s t = Held ask (chan_step ask conn wish) x s.view t.view × (t.binder ≡ s.binder)

  -- channels are refused
  pub record NoChannels (conn : ℕ) (wish : Option ℕ) (e : NoAddress) (s t : State B) : Type 0 where
    pub refused : Acted s.view t.view (chan_step ask conn wish) (Err e.refusal)
    pub none : e.unreturned ≡ None
    pub binder : t.binder ≡ s.binder

  -- it is refused
  abbrev pub NotAddressed : Wanted → NoAddress → State B → State B → Type 0
  NotAddressed wanted.Pair e s t = NoPortsGranted calls ask udp.Pair e s t
  NotAddressed wanted.Port e s t = NoPortsGranted calls ask udp.Port e s t
  NotAddressed (wanted.Channels conn wish) e s t = NoChannels conn wish e s t

  -- The whole.

  -- all steps are accepted, and the ports that the Commit freed are unbound
  pub record Completes (address : Thing) (s t : State B) : Type 0 where
    pub rated : View
    pub rates : Rated ask s.view rated
    pub held : State B
    pub addresses : Addressed ask.wanted address (with_view rated s) held
    pub made : List Record
    pub commits : Acted held.view t.view (commit_step ask) (Ok made)
    pub unbound : UnboundAll calls (freed_addresses made) held.binder t.binder

  -- HoldRate is refused
  pub record RateFails (refusal : Refusal) (s t : State B) : Type 0 where
    pub opened : View
    pub opens : Opened ask ask.opening s.view opened
    pub refused : Acted opened t.view (rate_step ask) (Err refusal)
    pub binder : t.binder ≡ s.binder

  -- no address is granted
  pub record AddressFails (e : NoAddress) (s t : State B) : Type 0 where
    pub rated : View
    pub rates : Rated ask s.view rated
    pub addresses : NotAddressed ask.wanted e (with_view rated s) t

  -- Commit is refused
  pub record CommitFails (refusal : Refusal) (address : Thing) (s t : State B) : Type 0 where
    pub rated : View
    pub rates : Rated ask s.view rated
    pub held : View
    pub addresses : Addressed ask.wanted address (with_view rated s) (with_view held t)
    pub refused : Acted held t.view (commit_step ask) (Err refusal)

  -- a step is refused
  abbrev pub Fails : Failure → State B → State B → Type 0
  Fails (failure.Open refusal) s t = NotOpened ask ask.opening refusal s.view t.view × (t.binder ≡ s.binder)
  Fails (failure.Rate refusal) s t = RateFails refusal s t
  Fails (failure.Address e) s t = AddressFails e s t
  Fails (failure.Commit refusal address) s t = CommitFails refusal address s t

  -- at the first refusal what was accepted and not returned is unwound, and the ports that were bound are unbound
  pub record Rejects (refusal : Refusal) (s t : State B) : Type 0 where
    pub cause : Failure
    pub broken : State B
    pub fails : Fails cause s broken
    pub first : refusal ≡ refusal_of cause
    pub answer : Result (List Record) Refusal
    pub unwinds : Acted broken.view t.view (step.Unwind (chain_left ask cause)) answer
    pub releases : Released calls ask.admission (bound_address cause) broken.binder t.binder

  -- an admission
  abbrev pub Admits : Result Admitted Refusal → State B → State B → Type 0
  Admits (Ok granted) s t = Completes granted.address s t × (granted ≡ admitted ask granted.address)
  Admits (Err refusal) s t = Rejects refusal s t
