-- Where no failure was counted no bind failed.
use Rattle.std.proofs.Common.{◌≡◌, ℕ, ◌+◌, ◌-◌, ◌<◌, ◌≤◌, ◌^◌, List, [], ◌∷◌, ◌++◌, refl, sym, ◌∙◌, ap, subst, arith, append_assoc, Ok, Err}
use Rattle.std.specs.Prelude.{Option, Some, None}
use Rattle.std.proofs.Math.Nat.{le-min, min-le_right}
use Rattle.rtsp_record.specs.declared.changes.Record.{Record}
use Rattle.rtsp_record.specs.declared.holdings.Thing.{Thing}
use Rattle.rtsp_record.specs.declared.holdings.Thing.TheVariants.{Pair, Port, Rate}
use Rattle.rtsp_record.specs.Counters.{raised}
use Rattle.rtsp_record.specs.Records.{holds}
use Rattle.rtsp_book.specs.declared.asks.Ask.{Ask}
use Rattle.rtsp_book.specs.declared.asks.Opening.{Opening}
use Rattle.rtsp_book.specs.declared.asks.Wanted.{Wanted}
use Rattle.rtsp_book.specs.declared.asks.Wanted.TheVariants as wanted
use Rattle.rtsp_book.specs.declared.refusals.Refusal.{Refusal}
use Rattle.rtsp_book.specs.declared.steps.Step.{Step}
use Rattle.rtsp_lock.specs.declared.view.View.{View}
use Rattle.rtsp_lock.specs.Calls.{Acted}
use Rattle.rtsp_admit.specs.declared.failure.Failure.{Failure}
use Rattle.rtsp_admit.specs.declared.failure.Failure.TheVariants as failure
use Rattle.rtsp_admit.specs.declared.failure.NoAddress.{NoAddress}
use Rattle.rtsp_admit.specs.declared.udp_ports.UdpPorts.{UdpPorts}
use Rattle.rtsp_admit.specs.declared.udp_ports.UdpPorts.TheVariants as udp
use Rattle.rtsp_admit.specs.Binder.{Calls, Released, UnboundAll}
use Rattle.rtsp_admit.specs.Steps.{bound_address, open_step, rate_step, ports_from, ports_step, address_step, commit_step, opening_steps, refusal_of}
use Rattle.rtsp_admit.specs.Runs.{State, with_view, Held, Opened, NotOpened, Rated, PortsRefused, Tried, PortsGranted, NoPortsGranted, Addressed, NotAddressed, Fails}
use Rattle.rtsp_admit.specs.Faults.{Accepts, earlier_steps, BreaksFirst, AdmissionsCountFaults}

-- the greatest count
abbrev most : ℕ
most = 2 ^ 64 - 1

-- a fault that is counted raises each lower count before it
raised_over : (n k : ℕ) → n < most → n ≤ k → n < raised k
raised_over n k below up = let le : n + 1 ≤ raised k = le-min (omega (arith, up)) (omega (arith, below)) in omega (arith, le)

-- the second count is no lower, and within the greatest
pub record Rises (n k : ℕ) : Type 0 where
  pub up : n ≤ k
  pub within : k ≤ most

rises_same : (n k : ℕ) → n ≤ most → k ≡ n → Rises n k
rises_same n k within e = record { up = omega (arith, e); within = omega (arith, e, within) }

-- steps that were accepted, and then others
accepts_then : (xs ys : List Step) (v w u : View) → Accepts xs v w → Accepts ys w u → Accepts (xs ++ ys) v u
accepts_then [] ys v w u first second = subst (λ z. Accepts ys z u) first second
accepts_then (x ∷ xs) ys v w u first second = (first.0, first.1, accepts_then xs ys first.0 w u first.2 second)

accepts_one : (step : Step) (made : List Record) (v u : View) → Acted v u step (Ok made) → Accepts (step ∷ []) v u
accepts_one step made v u h = (u, (made, h), refl)

module _ (ask : Ask) where
  opens : (o : Option Opening) (v u : View) → Opened ask o v u → Accepts (opening_steps ask o) v u
  opens None v u h = h
  opens (Some o) v u h = (u, h, refl)

  accepts_held : (step : Step) (x : Thing) (v u : View) → Held ask step x v u → Accepts (step ∷ []) v u
  accepts_held step x v u h = accepts_one step (holds ask.session ask.admission x ∷ []) v u h

  rates : (v u : View) → Rated ask v u → Accepts (earlier_steps ask) v u
  rates v u h = accepts_then (opening_steps ask ask.opening) (rate_step ask ∷ []) v h.opened u (opens ask.opening v h.opened h.opens) (accepts_held (rate_step ask) (Rate ask.rate) h.opened u h.holds)

  -- the steps behind the Open
  abbrev rest : List Step
  rest = rate_step ask ∷ address_step ask ask.wanted ∷ commit_step ask ∷ []

  breaks_open : (o : Option Opening) (refusal : Refusal) (v u : View) → NotOpened ask o refusal v u
      → (step : Step) × (later : List Step) × (opening_steps ask o ++ rest ≡ step ∷ later) × Acted v u step (Err refusal)
  breaks_open None refusal v u h = absurd h
  breaks_open (Some o) refusal v u h = (open_step ask o, rest, refl, h)

  break : (earlier : List Step) (step : Step) (later : List Step) (refusal : Refusal) (v w u : View) → opening_steps ask ask.opening ++ rest ≡ earlier ++ step ∷ later → Accepts earlier v w → Acted w u step (Err refusal) → BreaksFirst ask refusal v u
  break earlier step later refusal v w u asked accepted refused =
      record { earlier = earlier; step = step; later = later; asked = asked; before = w; accepted = accepted; refused = refused }

module _ {B : Type 0} (calls : Calls B) (ask : Ask) (kind : UdpPorts) where
  rises_tried : (before : List ℕ) (from : ℕ) (s t : State B) → Tried calls ask kind before from s t → calls.failures s.binder ≤ most → Rises (calls.failures s.binder) (calls.failures t.binder)
  rises_tried [] from s t h within = rises_same (calls.failures s.binder) (calls.failures t.binder) within (ap (λ (x : State B). calls.failures x.binder) h.1)
  rises_tried (p ∷ before) from s t h within =
      let r = rises_tried before h.start s h.between h.before within in
      let up = r.up in
      let more : calls.failures h.between.binder ≤ raised (calls.failures h.between.binder) = le-min (omega arith) r.within in
      let last = min-le_right (calls.failures h.between.binder + 1) most in
      let counted = h.returned.failed.count in
      record { up = omega (arith, up, more, counted); within = omega (arith, last, counted) }

  -- where no failure was counted the next try is the first
  first_try : (before : List ℕ) (from : ℕ) (s t : State B) → Tried calls ask kind before from s t → calls.failures s.binder < most → calls.failures t.binder ≡ calls.failures s.binder → (from ≡ 0) × (t ≡ s)
  first_try [] from s t h below same = h
  first_try (p ∷ before) from s t h below same =
      let up = (rises_tried before h.start s h.between h.before (omega (arith, below))).up in
      let over = raised_over (calls.failures s.binder) (calls.failures h.between.binder) below up in
      let counted = h.returned.failed.count in
      absurd (omega (arith, over, counted, same))

  first_granted : (x : Thing) (s t : State B) → PortsGranted calls ask kind x s t → calls.failures s.binder < most → calls.failures t.binder ≡ calls.failures s.binder → Held ask (ports_step ask kind 0) x s.view t.view
  first_granted x s t h below same =
      let first = first_try h.tried h.from s h.between h.tries below (sym h.last.bound.count ∙ same) in
      let from : Held ask (ports_step ask kind 0) (ports_from kind h.first) h.between.view t.view = subst (λ n. Held ask (ports_step ask kind n) (ports_from kind h.first) h.between.view t.view) first.0 h.last.held in
      let here : Held ask (ports_step ask kind 0) (ports_from kind h.first) s.view t.view = subst (λ (z : State B). Held ask (ports_step ask kind 0) (ports_from kind h.first) z.view t.view) first.1 from in
      subst (λ z. Held ask (ports_step ask kind 0) z s.view t.view) (sym h.is) here

  -- the refusal of a first try for ports
  first_ports : (from : ℕ) (refusal : Refusal) (unreturned : Option Thing) (before : List ℕ) (s w t : State B) → Tried calls ask kind before from s w → PortsRefused calls ask kind from refusal unreturned w t → calls.failures s.binder < most → calls.failures t.binder ≡ calls.failures s.binder → Acted s.view t.view (ports_step ask kind 0) (Err refusal)
  first_ports from refusal None before s w t tries h below same =
      let first = first_try before from s w tries below (sym (ap calls.failures h.1) ∙ same) in
      let start : Acted w.view t.view (ports_step ask kind 0) (Err refusal) = subst (λ n. Acted w.view t.view (ports_step ask kind n) (Err refusal)) first.0 h.0 in
      subst (λ (z : State B). Acted z.view t.view (ports_step ask kind 0) (Err refusal)) first.1 start
  first_ports from refusal (Some x) before s w t tries h below same =
      let up = (rises_tried before from s w tries (omega (arith, below))).up in
      let over = raised_over (calls.failures s.binder) (calls.failures w.binder) below up in
      let counted = h.failed.count in
      absurd (omega (arith, over, counted, same))

  first_not_granted : (e : NoAddress) (s t : State B) → NoPortsGranted calls ask kind e s t → calls.failures s.binder < most → calls.failures t.binder ≡ calls.failures s.binder → Acted s.view t.view (ports_step ask kind 0) (Err e.refusal)
  first_not_granted e s t h below same = first_ports h.from e.refusal e.unreturned h.tried s h.between t h.tries h.last below same

module _ {B : Type 0} (calls : Calls B) (ask : Ask) where
  first_offer : (want : Wanted) (x : Thing) (s t : State B) → Addressed calls ask want x s t → calls.failures s.binder < most → calls.failures t.binder ≡ calls.failures s.binder → Held ask (address_step ask want) x s.view t.view
  first_offer wanted.Pair x s t h below same = first_granted calls ask udp.Pair x s t h below same
  first_offer wanted.Port x s t h below same = first_granted calls ask udp.Port x s t h below same
  first_offer (wanted.Channels conn wish) x s t h below same = h.0

  first_address : (want : Wanted) (e : NoAddress) (s t : State B) → NotAddressed calls ask want e s t → calls.failures s.binder < most → calls.failures t.binder ≡ calls.failures s.binder → Acted s.view t.view (address_step ask want) (Err e.refusal)
  first_address wanted.Pair e s t h below same = first_not_granted calls ask udp.Pair e s t h below same
  first_address wanted.Port e s t h below same = first_not_granted calls ask udp.Port e s t h below same
  first_address (wanted.Channels conn wish) e s t h below same = h.refused

  breaks_first : (cause : Failure) (s t : State B) → Fails calls ask cause s t → calls.failures s.binder < most → calls.failures t.binder ≡ calls.failures s.binder → BreaksFirst ask (refusal_of cause) s.view t.view
  breaks_first (failure.Open refusal) s t h below same =
      let first = breaks_open ask ask.opening refusal s.view t.view h.0 in
      break ask [] first.0 first.1 refusal s.view s.view t.view first.2 refl first.3
  breaks_first (failure.Rate refusal) s t h below same =
      break ask (opening_steps ask ask.opening) (rate_step ask) (address_step ask ask.wanted ∷ commit_step ask ∷ []) refusal s.view h.opened t.view refl (opens ask ask.opening s.view h.opened h.opens) h.refused
  breaks_first (failure.Address e) s t h below same =
      break ask (earlier_steps ask) (address_step ask ask.wanted) (commit_step ask ∷ []) e.refusal s.view h.rated t.view (sym append_assoc_here) (rates ask s.view h.rated h.rates)
      (first_address ask.wanted e (with_view h.rated s) t h.addresses below same)
    where
      append_assoc_here : earlier_steps ask ++ (address_step ask ask.wanted ∷ commit_step ask ∷ []) ≡ opening_steps ask ask.opening ++ rest ask
      append_assoc_here = append_assoc (opening_steps ask ask.opening) (rate_step ask ∷ []) (address_step ask ask.wanted ∷ commit_step ask ∷ [])
  breaks_first (failure.Commit refusal x) s t h below same =
      let held = first_offer ask.wanted x (with_view h.rated s) (with_view h.held t) h.addresses below same in
      break ask (earlier_steps ask ++ address_step ask ask.wanted ∷ []) (commit_step ask) [] refusal s.view h.held t.view (sym append_assoc_here)
      (accepts_then (earlier_steps ask) (address_step ask ask.wanted ∷ []) s.view h.rated h.held (rates ask s.view h.rated h.rates) (accepts_held ask (address_step ask ask.wanted) x h.rated h.held held)) h.refused
    where
      append_assoc_here : (earlier_steps ask ++ address_step ask ask.wanted ∷ []) ++ (commit_step ask ∷ []) ≡ opening_steps ask ask.opening ++ rest ask
      append_assoc_here = append_assoc (earlier_steps ask) (address_step ask ask.wanted ∷ []) (commit_step ask ∷ []) ∙ append_assoc (opening_steps ask ask.opening) (rate_step ask ∷ []) (address_step ask ask.wanted ∷ commit_step ask ∷ [])

  -- an unbind counts nothing
  same_unbound : (xs : List (ℕ × Thing)) (b c : B) → UnboundAll calls xs b c → calls.failures c ≡ calls.failures b
  same_unbound [] b c h = ap calls.failures h
  same_unbound (x ∷ xs) b c h = same_unbound xs h.0 c h.2 ∙ h.1.count

  same_released : (o : Option Thing) (b c : B) → Released calls ask.admission o b c → calls.failures c ≡ calls.failures b
  same_released (Some (Pair p)) b c h = h.count
  same_released (Some (Port p)) b c h = h.count
  same_released o b c h = ap calls.failures h

  pub admissions_count_faults : AdmissionsCountFaults calls ask
  admissions_count_faults (Ok granted) s t run below same =
      let h = run.0 in
      record {
        before = h.rated;
        after = h.held.view;
        earlier = rates ask s.view h.rated h.rates;
        held = first_offer ask.wanted granted.address (with_view h.rated s) h.held h.addresses below (sym (same_unbound _ h.held.binder t.binder h.unbound) ∙ same);
        commit = accepts_one (commit_step ask) h.made h.held.view t.view h.commits;
      }
  admissions_count_faults (Err refusal) s t run below same =
      let broken = breaks_first run.cause s run.broken run.fails below (sym (same_released (bound_address run.cause) run.broken.binder t.binder run.releases) ∙ same) in
      record {
        broken = run.broken.view;
        breaks = subst (λ r. BreaksFirst ask r s.view run.broken.view) (sym run.first) broken;
        cause = run.cause;
        of_cause = run.first;
        answer = run.answer;
        unwinds = run.unwinds;
      }
