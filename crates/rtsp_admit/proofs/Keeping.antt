-- What each step of an admission keeps of its seat, the admission keeps.
use Rattle.std.proofs.Common.{◌≡◌, ℕ, List, [], ◌∷◌, refl, sym, ◌∙◌, subst, Result, Ok, Err}
use Rattle.std.specs.Prelude.{Option, Some, None}
use Rattle.std.proofs.lemmas.Option.{none-some, same_Some}
use Rattle.rtsp_record.specs.declared.holdings.Thing.{Thing}
use Rattle.rtsp_record.specs.declared.holdings.Thing.TheVariants.{Rate}
use Rattle.rtsp_record.specs.declared.changes.Record.{Record}
use Rattle.rtsp_record.specs.Records.{holds}
use Rattle.rtsp_book.specs.declared.asks.Admitted.{Admitted}
use Rattle.rtsp_book.specs.declared.asks.Ask.{Ask}
use Rattle.rtsp_book.specs.declared.asks.Opening.{Opening}
use Rattle.rtsp_book.specs.declared.asks.Wanted.{Wanted}
use Rattle.rtsp_book.specs.declared.asks.Wanted.TheVariants as wanted
use Rattle.rtsp_book.specs.declared.refusals.Refusal.{Refusal}
use Rattle.rtsp_book.specs.declared.steps.Step.{Step}
use Rattle.rtsp_book.specs.declared.steps.Step.TheVariants.{Unwind}
use Rattle.rtsp_lock.specs.declared.view.View.{View}
use Rattle.rtsp_lock.specs.Calls.{Acted}
use Rattle.rtsp_admit.specs.declared.failure.Failure.{Failure}
use Rattle.rtsp_admit.specs.declared.failure.Failure.TheVariants as failure
use Rattle.rtsp_admit.specs.declared.failure.NoAddress.{NoAddress}
use Rattle.rtsp_admit.specs.declared.udp_ports.UdpPorts.{UdpPorts}
use Rattle.rtsp_admit.specs.declared.udp_ports.UdpPorts.TheVariants as udp
use Rattle.rtsp_admit.specs.Binder.{Calls}
use Rattle.rtsp_admit.specs.Steps.{chain_left, open_step, rate_step, ports_from, ports_step, chan_step, return_step, commit_step}
use Rattle.rtsp_admit.specs.Runs.{State, with_view, Opened, NotOpened, Held, Rated, PortsReturned, PortsRefused, Tried, PortsGranted, NoPortsGranted, Addressed, NotAddressed, Fails, Admits}
use Rattle.rtsp_lock.specs.Numbers.{admission_of}

-- each step that names the admission, or none, keeps this of its seat
abbrev pub EachKeeps : Ask → (View → Type 0) → Type 0
EachKeeps ask P =
    (v u : View) (step : Step) (answer : Result (List Record) Refusal)
    → ((x : ℕ) → admission_of step ≡ Some x → x ≡ ask.admission) → Acted v u step answer → P v → P u

-- a step for ports names the admission
pub names_ports : (ask : Ask) (kind : UdpPorts) (from : ℕ) → admission_of (ports_step ask kind from) ≡ Some ask.admission
names_ports ask udp.Pair from = refl
names_ports ask udp.Port from = refl

module _ (ask : Ask) (P : View → Type 0) (acts : EachKeeps ask P) where
  keeps_own : (v u : View) (step : Step) (answer : Result (List Record) Refusal) → admission_of step ≡ Some ask.admission → Acted v u step answer → P v → P u
  keeps_own v u step answer is acted own = acts v u step answer (λ x there. same_Some x ask.admission (sym there ∙ is)) acted own

  keeps_none : (v u : View) (step : Step) (answer : Result (List Record) Refusal) → admission_of step ≡ None → Acted v u step answer → P v → P u
  keeps_none v u step answer is acted own = acts v u step answer (λ x there. absurd (none-some x (sym is ∙ there))) acted own

  keeps_held : (v u : View) (step : Step) (x : Thing) → admission_of step ≡ Some ask.admission → Held ask step x v u → P v → P u
  keeps_held v u step x is held own = keeps_own v u step (Ok (holds ask.session ask.admission x ∷ [])) is held own

  keeps_opened : (o : Option Opening) (v u : View) → Opened ask o v u → P v → P u
  keeps_opened None v u h own = subst P (sym h) own
  keeps_opened (Some o) v u h own = keeps_none v u (open_step ask o) (Ok h.0) refl h.1 own

  keeps_not_opened : (o : Option Opening) (refusal : Refusal) (v u : View) → NotOpened ask o refusal v u → P v → P u
  keeps_not_opened None refusal v u h own = absurd h
  keeps_not_opened (Some o) refusal v u h own = keeps_none v u (open_step ask o) (Err refusal) refl h own

  keeps_rated : (v u : View) → Rated ask v u → P v → P u
  keeps_rated v u h own = keeps_held h.opened u (rate_step ask) (Rate ask.rate) refl h.holds (keeps_opened ask.opening v h.opened h.opens own)

module _ {B : Type 0} (calls : Calls B) (ask : Ask) (kind : UdpPorts) (P : View → Type 0) (acts : EachKeeps ask P) where
  keeps_ports : (from : ℕ) (x : Thing) (v u : View) → Held ask (ports_step ask kind from) x v u → P v → P u
  keeps_ports from x v u held own = keeps_held ask P acts v u (ports_step ask kind from) x (names_ports ask kind from) held own

  keeps_returned : (from p : ℕ) (s t : State B) → PortsReturned calls ask kind from p s t → P s.view → P t.view
  keeps_returned from p s t h own =
      keeps_none ask P acts h.between t.view (return_step ask (ports_from kind p)) (Ok h.made) refl h.returned (keeps_ports from (ports_from kind p) s.view h.between h.held own)

  keeps_tried : (before : List ℕ) (from : ℕ) (s t : State B) → Tried calls ask kind before from s t → P s.view → P t.view
  keeps_tried [] from s t h own = subst (λ (x : State B). P x.view) (sym h.1) own
  keeps_tried (p ∷ before) from s t h own = keeps_returned h.start p h.between t h.returned (keeps_tried before h.start s h.between h.before own)

  keeps_ports_refused : (from : ℕ) (refusal : Refusal) (unreturned : Option Thing) (s t : State B) → PortsRefused calls ask kind from refusal unreturned s t → P s.view → P t.view
  keeps_ports_refused from refusal None s t h own = keeps_own ask P acts s.view t.view (ports_step ask kind from) (Err refusal) (names_ports ask kind from) h.0 own
  keeps_ports_refused from refusal (Some x) s t h own =
      keeps_none ask P acts h.between t.view (return_step ask x) (Err refusal) refl h.refused (keeps_ports from x s.view h.between h.held own)

  keeps_granted : (x : Thing) (s t : State B) → PortsGranted calls ask kind x s t → P s.view → P t.view
  keeps_granted x s t h own = keeps_ports h.from (ports_from kind h.first) h.between.view t.view h.last.held (keeps_tried h.tried h.from s h.between h.tries own)

  keeps_not_granted : (e : NoAddress) (s t : State B) → NoPortsGranted calls ask kind e s t → P s.view → P t.view
  keeps_not_granted e s t h own = keeps_ports_refused h.from e.refusal e.unreturned h.between t h.last (keeps_tried h.tried h.from s h.between h.tries own)

module _ {B : Type 0} (calls : Calls B) (ask : Ask) (P : View → Type 0) (acts : EachKeeps ask P) where
  keeps_addressed : (want : Wanted) (x : Thing) (s t : State B) → Addressed calls ask want x s t → P s.view → P t.view
  keeps_addressed wanted.Pair x s t h own = keeps_granted calls ask udp.Pair P acts x s t h own
  keeps_addressed wanted.Port x s t h own = keeps_granted calls ask udp.Port P acts x s t h own
  keeps_addressed (wanted.Channels conn wish) x s t h own = keeps_held ask P acts s.view t.view (chan_step ask conn wish) x refl h.0 own

  keeps_not_addressed : (want : Wanted) (e : NoAddress) (s t : State B) → NotAddressed calls ask want e s t → P s.view → P t.view
  keeps_not_addressed wanted.Pair e s t h own = keeps_not_granted calls ask udp.Pair P acts e s t h own
  keeps_not_addressed wanted.Port e s t h own = keeps_not_granted calls ask udp.Port P acts e s t h own
  keeps_not_addressed (wanted.Channels conn wish) e s t h own = keeps_own ask P acts s.view t.view (chan_step ask conn wish) (Err e.refusal) refl h.refused own

  keeps_fails : (cause : Failure) (s t : State B) → Fails calls ask cause s t → P s.view → P t.view
  keeps_fails (failure.Open refusal) s t h own = keeps_not_opened ask P acts ask.opening refusal s.view t.view h.0 own
  keeps_fails (failure.Rate refusal) s t h own = keeps_own ask P acts h.opened t.view (rate_step ask) (Err refusal) refl h.refused (keeps_opened ask P acts ask.opening s.view h.opened h.opens own)
  keeps_fails (failure.Address e) s t h own = keeps_not_addressed ask.wanted e (with_view h.rated s) t h.addresses (keeps_rated ask P acts s.view h.rated h.rates own)
  keeps_fails (failure.Commit refusal x) s t h own =
      keeps_own ask P acts h.held t.view (commit_step ask) (Err refusal) refl h.refused (keeps_addressed ask.wanted x (with_view h.rated s) (with_view h.held t) h.addresses (keeps_rated ask P acts s.view h.rated h.rates own))

  pub admissions_keep : (result : Result Admitted Refusal) (s t : State B) → Admits calls ask result s t → P s.view → P t.view
  admissions_keep (Ok granted) s t run own =
      let h = run.0 in
      (keeps_own ask P acts h.held.view t.view (commit_step ask) (Ok h.made) refl h.commits (keeps_addressed ask.wanted granted.address (with_view h.rated s) h.held h.addresses (keeps_rated ask P acts s.view h.rated h.rates own)))
  admissions_keep (Err refusal) s t run own =
      (keeps_none ask P acts run.broken.view t.view (Unwind (chain_left ask run.cause)) run.answer refl run.unwinds (keeps_fails run.cause s run.broken run.fails own))
