-- How far an admission came before it was refused.
use Rattle.std.proofs.Common.{◌≡◌, ℕ, ◌≤◌, Bool, true, false, cond, List, [], ◌∷◌, length, refl, sym, ap, subst, arith, le_refl, Ok, Err}
use Rattle.std.specs.Prelude.{Option, Some, None, is_some}
use Rattle.rtsp_record.specs.declared.holdings.Thing.{Thing}
use Rattle.rtsp_record.specs.declared.holdings.Thing.TheVariants.{Chan, Rate}
use Rattle.rtsp_record.specs.declared.changes.Entry.{Entry}
use Rattle.rtsp_record.specs.declared.changes.Record.{Record}
use Rattle.rtsp_record.specs.Records.{opens, holds, frees}
use Rattle.rtsp_record.specs.Books.{book_of}
use Rattle.rtsp_record.specs.Sums.{one_if}
use Rattle.rtsp_record.specs.Rules.{IsAddress}
use Rattle.rtsp_book.specs.declared.asks.Ask.{Ask}
use Rattle.rtsp_book.specs.declared.asks.Opening.{Opening}
use Rattle.rtsp_book.specs.declared.asks.Wanted.{Wanted}
use Rattle.rtsp_book.specs.declared.asks.Wanted.TheVariants as wanted
use Rattle.rtsp_book.specs.declared.refusals.Refusal.{Refusal}
use Rattle.rtsp_book.specs.declared.steps.Step.{Step}
use Rattle.rtsp_record.specs.Choices.{chosen_chan}
use Rattle.rtsp_book.specs.Made.{hold_chosen, as_chan}
use Rattle.rtsp_lock.specs.declared.view.View.{View}
use Rattle.rtsp_lock.specs.Calls.{Acted}
use Rattle.rtsp_admit.specs.declared.failure.Failure.{Failure}
use Rattle.rtsp_admit.specs.declared.failure.Failure.TheVariants as failure
use Rattle.rtsp_admit.specs.declared.failure.NoAddress.{NoAddress}
use Rattle.rtsp_admit.specs.declared.udp_ports.UdpPorts.{UdpPorts}
use Rattle.rtsp_admit.specs.declared.udp_ports.UdpPorts.TheVariants as udp
use Rattle.rtsp_admit.specs.Binder.{Calls}
use Rattle.rtsp_admit.specs.Steps.{thing_in, chain_left, open_step, rate_step, ports_from, ports_step, chan_step, return_step}
use Rattle.rtsp_admit.specs.Runs.{State, with_view, Opened, NotOpened, Held, Rated, PortsReturned, PortsRefused, Tried, PortsGranted, NoPortsGranted, Addressed, NotAddressed, Fails}
use Rattle.rtsp_admit.proofs.Rows.{quiet_row, holds_rate, holds_address, frees_address, IsSecond}
use Rattle.rtsp_admit.proofs.Going.{Goes, made_is, goes_none, goes_refused, goes_one, goes_then}

chan_held : (s a c : ℕ) (o : Option ℕ) (t : Thing) → hold_chosen s a (as_chan c o) ≡ holds s a t ∷ [] → (k : ℕ) × (t ≡ Chan c k)
chan_held s a c None t h = absurd cc
chan_held s a c (Some k) t h = let same : ◌≡◌ {A = Option Thing} (Some (Chan c k)) (Some t) = ap thing_in h in (k, cc)

-- ports are an address
pub is_ports : (kind : UdpPorts) (p : ℕ) → IsAddress (ports_from kind p)
is_ports udp.Pair p = tt
is_ports udp.Port p = tt

one_most : (t : Bool) (e : Entry) → length (cond t (e ∷ []) []) ≤ 1
one_most true e = le_refl 1
one_most false e = omega arith

module _ (ask : Ask) where
  -- calls of the seat with at most so many Opens, with what could stand under the admission before them and after
  abbrev pub Keeps : ℕ → Option Thing → Option Thing → Option Thing → Option Thing → View → View → Type 0
  Keeps n x y x' y' v u = Goes ask.session ask.admission n x y x' y' v u

  keeps_then : (n : ℕ) (x y x' y' x2 y2 : Option Thing) (v w u : View) → Keeps n x y x' y' v w → Keeps 0 x' y' x2 y2 w u → Keeps n x y x2 y2 v u
  keeps_then n x y x' y' x2 y2 v w u one two = goes_then ask.session ask.admission n x y x' y' x2 y2 v w u one two

  keeps_refused : (x y : Option Thing) (v u : View) (step : Step) (refusal : Refusal) → Acted v u step (Err refusal) → Keeps 0 x y x y v u
  keeps_refused x y v u step refusal acted = goes_refused ask.session ask.admission x y v u step refusal acted

  open_one : (v u : View) (o : Opening) (rs : List Record) → Acted v u (open_step ask o) (Ok rs) → Acted v u (open_step ask o) (Ok (opens ask.session o.id o.conn o.expires ∷ []))
  open_one v u o rs acted = subst (λ rs. Acted v u (open_step ask o) (Ok rs)) (sym (made_is v u (open_step ask o) rs acted)) acted

  keeps_opened : (o : Option Opening) (v u : View) → Opened ask o v u → Keeps (one_if (is_some o)) None None None None v u
  keeps_opened None v u h = goes_none ask.session ask.admission None None v u h
  keeps_opened (Some o) v u h =
      let r = opens ask.session o.id o.conn o.expires in
      goes_one ask.session ask.admission None None None None 1 v u (open_step ask o) r (open_one v u o h.0 h.1) refl refl (one_most _ _) (λ f. quiet_row ask.admission None None r f refl)

  keeps_not_opened : (o : Option Opening) (refusal : Refusal) (v u : View) → NotOpened ask o refusal v u → Keeps 0 None None None None v u
  keeps_not_opened None refusal v u h = absurd h
  keeps_not_opened (Some o) refusal v u h = keeps_refused None None v u (open_step ask o) refusal h

  keeps_rate : (v u : View) → Held ask (rate_step ask) (Rate ask.rate) v u → Keeps 0 None None (Some (Rate ask.rate)) None v u
  keeps_rate v u acted =
      goes_one ask.session ask.admission None None (Some (Rate ask.rate)) None 0 v u (rate_step ask) (holds ask.session ask.admission (Rate ask.rate)) acted refl refl (le_refl 0) (holds_rate ask.session ask.admission ask.rate None None)

  keeps_rated : (v u : View) → Rated ask v u → Keeps (one_if (is_some ask.opening)) None None (Some (Rate ask.rate)) None v u
  keeps_rated v u h =
      keeps_then (one_if (is_some ask.opening)) None None None None (Some (Rate ask.rate)) None v h.opened u (keeps_opened ask.opening v h.opened h.opens) (keeps_rate h.opened u h.holds)

  keeps_address : (x : Option Thing) (v u : View) (step : Step) (t : Thing) → IsAddress t → Held ask step t v u → Keeps 0 x None x (Some t) v u
  keeps_address x v u step t is acted =
      goes_one ask.session ask.admission x None x (Some t) 0 v u step (holds ask.session ask.admission t) acted refl refl (le_refl 0) (λ o. holds_address ask.session ask.admission t x None o is)

  return_one : (v u : View) (t : Thing) (rs : List Record) → Acted v u (return_step ask t) (Ok rs) → Acted v u (return_step ask t) (Ok (frees ask.session ask.admission t ∷ []))
  return_one v u t rs acted = subst (λ rs. Acted v u (return_step ask t) (Ok rs)) (sym (made_is v u (return_step ask t) rs acted)) acted

  keeps_returned : (x : Option Thing) (v u : View) (t : Thing) (rs : List Record) → IsAddress t → Acted v u (return_step ask t) (Ok rs) → Keeps 0 x (Some t) x None v u
  keeps_returned x v u t rs is acted =
      goes_one ask.session ask.admission x (Some t) x None 0 v u (return_step ask t) (frees ask.session ask.admission t) (return_one v u t rs acted) refl refl (le_refl 0) (λ o. frees_address ask.session ask.admission t x (Some t) o is)

  pub is_chan : (conn : ℕ) (wish : Option ℕ) (t : Thing) (v u : View) → Held ask (chan_step ask conn wish) t v u → (k : ℕ) × (t ≡ Chan conn k)
  is_chan conn wish t v u h =
      chan_held ask.session ask.admission conn (chosen_chan (book_of h.journal) conn wish) t (made_is v u (chan_step ask conn wish) (holds ask.session ask.admission t ∷ []) h)

  chan_address : (conn : ℕ) (wish : Option ℕ) (t : Thing) (v u : View) → Held ask (chan_step ask conn wish) t v u → IsAddress t
  chan_address conn wish t v u h = subst IsAddress (sym (is_chan conn wish t v u h).1) tt

module _ {B : Type 0} (calls : Calls B) (ask : Ask) (kind : UdpPorts) where
  granted_address : (x : Thing) (s t : State B) → PortsGranted calls ask kind x s t → IsAddress x
  granted_address x s t h = subst IsAddress (sym h.is) (is_ports kind h.first)

  keeps_ports_returned : (x : Option Thing) (from p : ℕ) (s t : State B) → PortsReturned calls ask kind from p s t → Keeps ask 0 x None x None s.view t.view
  keeps_ports_returned x from p s t h =
      let held = ports_from kind p in
      keeps_then ask 0 x None x (Some held) x None s.view h.between t.view (keeps_address ask x s.view h.between (ports_step ask kind from) held (is_ports kind p) h.held) (keeps_returned ask x h.between t.view held h.made (is_ports kind p) h.returned)

  keeps_tried : (x : Option Thing) (before : List ℕ) (from : ℕ) (s t : State B) → Tried calls ask kind before from s t → Keeps ask 0 x None x None s.view t.view
  keeps_tried x [] from s t h = goes_none ask.session ask.admission x None s.view t.view (ap (λ (w : State B). w.view) h.1)
  keeps_tried x (p ∷ before) from s t h =
      keeps_then ask 0 x None x None x None s.view h.between.view t.view (keeps_tried x before h.start s h.between h.before) (keeps_ports_returned x h.start p h.between t h.returned)

  unreturned_address : (from : ℕ) (refusal : Refusal) (unreturned : Option Thing) (s t : State B) → PortsRefused calls ask kind from refusal unreturned s t → IsSecond unreturned
  unreturned_address from refusal None s t h = tt
  unreturned_address from refusal (Some y) s t h = subst IsAddress (sym h.is) (is_ports kind h.first)

  keeps_ports_refused : (x : Option Thing) (from : ℕ) (refusal : Refusal) (unreturned : Option Thing) (s t : State B) → PortsRefused calls ask kind from refusal unreturned s t → Keeps ask 0 x None x unreturned s.view t.view
  keeps_ports_refused x from refusal None s t h = keeps_refused ask x None s.view t.view (ports_step ask kind from) refusal h.0
  keeps_ports_refused x from refusal (Some y) s t h =
      keeps_then ask 0 x None x (Some y) x (Some y) s.view h.between t.view (keeps_address ask x s.view h.between (ports_step ask kind from) y (unreturned_address from refusal (Some y) s t h) h.held) (keeps_refused ask x (Some y) h.between t.view (return_step ask y) refusal h.refused)

  keeps_granted : (y : Thing) (x : Option Thing) (s t : State B) → PortsGranted calls ask kind y s t → Keeps ask 0 x None x (Some y) s.view t.view
  keeps_granted y x s t h =
      let held = subst (λ z. Held ask (ports_step ask kind h.from) z h.between.view t.view) (sym h.is) h.last.held in
      keeps_then ask 0 x None x None x (Some y) s.view h.between.view t.view (keeps_tried x h.tried h.from s h.between h.tries) (keeps_address ask x h.between.view t.view (ports_step ask kind h.from) y (granted_address y s t h) held)

  keeps_not_granted : (e : NoAddress) (x : Option Thing) (s t : State B) → NoPortsGranted calls ask kind e s t → Keeps ask 0 x None x e.unreturned s.view t.view
  keeps_not_granted e x s t h =
      keeps_then ask 0 x None x None x e.unreturned s.view h.between.view t.view (keeps_tried x h.tried h.from s h.between h.tries) (keeps_ports_refused x h.from e.refusal e.unreturned h.between t h.last)

module _ {B : Type 0} (calls : Calls B) (ask : Ask) where
  is_address : (want : Wanted) (x : Thing) (s t : State B) → Addressed calls ask want x s t → IsAddress x
  is_address wanted.Pair x s t h = granted_address calls ask udp.Pair x s t h
  is_address wanted.Port x s t h = granted_address calls ask udp.Port x s t h
  is_address (wanted.Channels conn wish) x s t h = chan_address ask conn wish x s.view t.view h.0

  keeps_addressed : (want : Wanted) (y : Thing) (x : Option Thing) (s t : State B) → Addressed calls ask want y s t → Keeps ask 0 x None x (Some y) s.view t.view
  keeps_addressed wanted.Pair y x s t h = keeps_granted calls ask udp.Pair y x s t h
  keeps_addressed wanted.Port y x s t h = keeps_granted calls ask udp.Port y x s t h
  keeps_addressed (wanted.Channels conn wish) y x s t h = keeps_address ask x s.view t.view (chan_step ask conn wish) y (chan_address ask conn wish y s.view t.view h.0) h.0

  keeps_not_addressed : (want : Wanted) (e : NoAddress) (x : Option Thing) (s t : State B) → NotAddressed calls ask want e s t → Keeps ask 0 x None x e.unreturned s.view t.view
  keeps_not_addressed wanted.Pair e x s t h = keeps_not_granted calls ask udp.Pair e x s t h
  keeps_not_addressed wanted.Port e x s t h = keeps_not_granted calls ask udp.Port e x s t h
  keeps_not_addressed (wanted.Channels conn wish) e x s t h =
      subst (λ o. Keeps ask 0 x None x o s.view t.view) (sym h.none) (keeps_refused ask x None s.view t.view (chan_step ask conn wish) e.refusal h.refused)

  pub keeps_fails : (cause : Failure) (s t : State B) → Fails calls ask cause s t → Keeps ask (one_if (chain_left ask cause).opened) None None (chain_left ask cause).first (chain_left ask cause).second s.view t.view
  keeps_fails (failure.Open refusal) s t h = keeps_not_opened ask ask.opening refusal s.view t.view h.0
  keeps_fails (failure.Rate refusal) s t h =
      keeps_then ask (one_if (is_some ask.opening)) None None None None None None s.view h.opened t.view (keeps_opened ask ask.opening s.view h.opened h.opens) (keeps_refused ask None None h.opened t.view (rate_step ask) refusal h.refused)
  keeps_fails (failure.Address e) s t h =
      keeps_then ask (one_if (is_some ask.opening)) None None (Some (Rate ask.rate)) None (Some (Rate ask.rate)) e.unreturned s.view h.rated t.view (keeps_rated ask s.view h.rated h.rates) (keeps_not_addressed ask.wanted e (Some (Rate ask.rate)) (with_view h.rated s) t h.addresses)
  keeps_fails (failure.Commit refusal x) s t h =
      let rate = Some (Rate ask.rate) in
      keeps_then ask (one_if (is_some ask.opening)) None None rate None rate (Some x) s.view h.rated t.view (keeps_rated ask s.view h.rated h.rates)
      (keeps_then ask 0 rate None rate (Some x) rate (Some x) h.rated h.held t.view (keeps_addressed ask.wanted x rate (with_view h.rated s) (with_view h.held t) h.addresses) (keeps_refused ask rate (Some x) h.held t.view _ refusal h.refused))

  -- the chain has at most a rate and an address
  second_left : (want : Wanted) (e : NoAddress) (s t : State B) → NotAddressed calls ask want e s t → IsSecond e.unreturned
  second_left wanted.Pair e s t h = unreturned_address calls ask udp.Pair h.from e.refusal e.unreturned h.between t h.last
  second_left wanted.Port e s t h = unreturned_address calls ask udp.Port h.from e.refusal e.unreturned h.between t h.last
  second_left (wanted.Channels conn wish) e s t h = subst IsSecond (sym h.none) tt

  pub second_is : (cause : Failure) (s t : State B) → Fails calls ask cause s t → IsSecond (chain_left ask cause).second
  second_is (failure.Address e) s t h = second_left ask.wanted e (with_view h.rated s) t h.addresses
  second_is (failure.Commit refusal x) s t h = is_address ask.wanted x (with_view h.rated s) (with_view h.held t) h.addresses
  second_is cause s t h = tt
