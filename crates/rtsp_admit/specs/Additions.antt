-- The records that the replies of an admission made, in order, read from its run.
use Rattle.std.specs.Prelude.{ℕ, List, [], ◌∷◌, ◌++◌, Option, Some, None, Result, Ok, Err}
use Rattle.rtsp_record.specs.declared.changes.Record.{Record}
use Rattle.rtsp_record.specs.declared.holdings.Thing.{Thing}
use Rattle.rtsp_record.specs.declared.holdings.Thing.TheVariants.{Rate}
use Rattle.rtsp_record.specs.Records.{holds}
use Rattle.rtsp_book.specs.declared.asks.Admitted.{Admitted}
use Rattle.rtsp_book.specs.declared.asks.Ask.{Ask}
use Rattle.rtsp_book.specs.declared.asks.Opening.{Opening}
use Rattle.rtsp_book.specs.declared.asks.Wanted.{Wanted}
use Rattle.rtsp_book.specs.declared.asks.Wanted.TheVariants as wanted
use Rattle.rtsp_book.specs.declared.refusals.Refusal.{Refusal}
use Rattle.rtsp_book.specs.Answers.{written}
use Rattle.rtsp_lock.specs.declared.view.View.{View}
use Rattle.rtsp_lock.specs.Laws.{Grown}
use Rattle.rtsp_admit.specs.declared.failure.Failure.{Failure}
use Rattle.rtsp_admit.specs.declared.failure.Failure.TheVariants as failure
use Rattle.rtsp_admit.specs.declared.failure.NoAddress.{NoAddress}
use Rattle.rtsp_admit.specs.declared.udp_ports.UdpPorts.{UdpPorts}
use Rattle.rtsp_admit.specs.declared.udp_ports.UdpPorts.TheVariants as udp
use Rattle.rtsp_admit.specs.Binder.{Calls}
use Rattle.rtsp_admit.specs.Steps.{ports_from}
use Rattle.rtsp_admit.specs.Runs.{State, with_view, Opened, Rated, PortsReturned, Tried, PortsGranted, NoPortsGranted, Addressed, NotAddressed, Fails, Admits}

module _ (ask : Ask) where
  -- a thing is held under the admission
  abbrev pub hold_records : Thing → List Record
  hold_records x = holds ask.session ask.admission x ∷ []

  -- of the Open, where there is one
  abbrev pub opened_records : (o : Option Opening) (v u : View) → Opened ask o v u → List Record
  opened_records None v u run = []
  opened_records (Some o) v u run = run.0

  -- of the steps before the address
  abbrev pub rated_records : (v u : View) → Rated ask v u → List Record
  rated_records v u run = opened_records ask.opening v run.opened run.opens ++ hold_records (Rate ask.rate)

  -- of a step whose ports were not given back
  abbrev pub unreturned_records : Option Thing → List Record
  unreturned_records None = []
  unreturned_records (Some x) = hold_records x

module _ {B : Type 0} (calls : Calls B) (ask : Ask) (kind : UdpPorts) where
  -- of a try whose ports were given back
  abbrev pub returned_records : (from p : ℕ) (s t : State B) → PortsReturned calls ask kind from p s t → List Record
  returned_records from p s t run = hold_records ask (ports_from kind p) ++ run.made

  -- of all such tries
  abbrev pub tried_records : (before : List ℕ) (from : ℕ) (s t : State B) → Tried calls ask kind before from s t → List Record
  tried_records [] from s t run = []
  tried_records (p ∷ before) from s t run =
      tried_records before run.start s run.between run.before ++ returned_records run.start p run.between t run.returned

  -- of ports that are granted
  abbrev pub granted_records : (x : Thing) (s t : State B) → PortsGranted calls ask kind x s t → List Record
  granted_records x s t run = tried_records run.tried run.from s run.between run.tries ++ hold_records ask x

  -- of tries in vain
  abbrev pub ungranted_records : (e : NoAddress) (s t : State B) → NoPortsGranted calls ask kind e s t → List Record
  ungranted_records e s t run = tried_records run.tried run.from s run.between run.tries ++ unreturned_records ask e.unreturned

module _ {B : Type 0} (calls : Calls B) (ask : Ask) where
  -- of the address
  abbrev pub addressed_records : (want : Wanted) (x : Thing) (s t : State B) → Addressed calls ask want x s t → List Record
  addressed_records wanted.Pair x s t run = granted_records calls ask udp.Pair x s t run
  addressed_records wanted.Port x s t run = granted_records calls ask udp.Port x s t run
  addressed_records (wanted.Channels conn wish) x s t run = hold_records ask x

  -- of an address that is refused
  abbrev pub unaddressed_records : (want : Wanted) (e : NoAddress) (s t : State B) → NotAddressed calls ask want e s t → List Record
  unaddressed_records wanted.Pair e s t run = ungranted_records calls ask udp.Pair e s t run
  unaddressed_records wanted.Port e s t run = ungranted_records calls ask udp.Port e s t run
  unaddressed_records (wanted.Channels conn wish) e s t run = []

  -- of the steps up to the first refusal
  abbrev pub failed_records : (cause : Failure) (s t : State B) → Fails calls ask cause s t → List Record
  failed_records (failure.Open refusal) s t run = []
  failed_records (failure.Rate refusal) s t run = opened_records ask ask.opening s.view run.opened run.opens
  failed_records (failure.Address e) s t run =
      rated_records ask s.view run.rated run.rates ++ unaddressed_records ask.wanted e (with_view run.rated s) t run.addresses
  failed_records (failure.Commit refusal x) s t run =
      rated_records ask s.view run.rated run.rates ++ addressed_records ask.wanted x (with_view run.rated s) (with_view run.held t) run.addresses

  -- of the whole admission: its Commit's at the end, or its Unwind's
  abbrev pub admission_records : (result : Result Admitted Refusal) (s t : State B) → Admits calls ask result s t → List Record
  admission_records (Ok granted) s t run =
      let h = run.0 in
      rated_records ask s.view h.rated h.rates ++ addressed_records ask.wanted granted.address (with_view h.rated s) h.held h.addresses ++ h.made
  admission_records (Err refusal) s t run = failed_records run.cause s run.broken run.fails ++ written run.answer

  -- over an admission what is seen comes after what was seen, and the seat's entries grow by the records of its replies and nothing else
  abbrev pub AdmissionsGrow : Type 0
  AdmissionsGrow = (result : Result Admitted Refusal) (s t : State B) (run : Admits calls ask result s t) → Grown s.view t.view (admission_records result s t run)
