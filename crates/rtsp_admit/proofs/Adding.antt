-- A seat's entries grow by the records of the replies of an admission.
use Rattle.std.proofs.Common.{◌≡◌, ℕ, List, [], ◌∷◌, ◌++◌, refl, sym, ◌∙◌, ap, subst, arith, append_assoc, append-nil, Result, Ok, Err}
use Rattle.std.specs.Prelude.{Option, Some, None}
use Rattle.rtsp_record.specs.declared.changes.Entry.{Entry}
use Rattle.rtsp_record.specs.declared.changes.Record.{Record}
use Rattle.rtsp_record.specs.declared.holdings.Thing.{Thing}
use Rattle.rtsp_record.specs.declared.holdings.Thing.TheVariants.{Rate}
use Rattle.rtsp_book.specs.declared.asks.Ask.{Ask}
use Rattle.rtsp_book.specs.declared.asks.Opening.{Opening}
use Rattle.rtsp_book.specs.declared.asks.Wanted.{Wanted}
use Rattle.rtsp_book.specs.declared.asks.Wanted.TheVariants as wanted
use Rattle.rtsp_book.specs.declared.refusals.Refusal.{Refusal}
use Rattle.rtsp_book.specs.declared.steps.Step.{Step}
use Rattle.rtsp_book.specs.declared.steps.Step.TheVariants.{Unwind}
use Rattle.rtsp_book.specs.Answers.{written}
use Rattle.rtsp_book.specs.Kept.{entries_by}
use Rattle.rtsp_lock.specs.declared.view.View.{View}
use Rattle.rtsp_lock.specs.Entries.{Later}
use Rattle.rtsp_lock.specs.Calls.{Acted, Looked}
use Rattle.rtsp_lock.specs.Laws.{Grown}
use Rattle.rtsp_lock.proofs.Entries.{prefix_self, prefix_then, later_self, later_more, later_then}
use Rattle.rtsp_lock.proofs.Runs.{entries_by-append}
use Rattle.rtsp_admit.specs.declared.failure.Failure.{Failure}
use Rattle.rtsp_admit.specs.declared.failure.Failure.TheVariants as failure
use Rattle.rtsp_admit.specs.declared.failure.NoAddress.{NoAddress}
use Rattle.rtsp_admit.specs.declared.udp_ports.UdpPorts.{UdpPorts}
use Rattle.rtsp_admit.specs.declared.udp_ports.UdpPorts.TheVariants as udp
use Rattle.rtsp_admit.specs.Binder.{Calls}
use Rattle.rtsp_admit.specs.Steps.{chain_left, open_step, rate_step, ports_from, ports_step, chan_step, return_step, commit_step}
use Rattle.rtsp_admit.specs.Runs.{State, with_view, Opened, NotOpened, Held, Rated, PortsReturned, PortsRefused, Tried, PortsGranted, NoPortsGranted, Addressed, NotAddressed, Fails}
use Rattle.rtsp_admit.specs.Additions.{hold_records, opened_records, rated_records, unreturned_records, returned_records, tried_records, granted_records, ungranted_records, addressed_records, unaddressed_records, failed_records, AdmissionsGrow}

pub grown_self : (v : View) → Grown v v []
grown_self v = record { whole = refl; actor = refl; next = omega arith; later = later_self v.seen_rounds v.seen; mine = sym (append-nil v.mine); begins = prefix_self v.history; own = λ own. own }

pub grown_none : (v u : View) → u ≡ v → Grown v u []
grown_none v u same = subst (λ (x : View). Grown v x []) (sym same) (grown_self v)

pub grown_acted : (v u : View) (step : Step) (answer : Result (List Record) Refusal) → Acted v u step answer → Grown v u (written answer)
grown_acted v u step answer acted = record {
  whole = acted.stays.whole;
  actor = acted.stays.actor;
  next = acted.stays.next;
  later = subst (λ (j : List Entry). Later v.seen_rounds v.seen u.seen_rounds j) (sym acted.seen) (later_more v.seen_rounds v.seen u.seen_rounds acted.journal (entries_by v.actor (written answer)) acted.found.later);
  mine = acted.mine;
  begins = prefix_then v.history acted.history u.history acted.follows.begins (entries_by v.actor (written answer), sym acted.goes_on);
  own = λ _. acted.stays.follows.mine;
}

pub grown_looked : (v u : View) → Looked v u → Grown v u []
grown_looked v u looked = record {
  whole = looked.stays.whole;
  actor = looked.stays.actor;
  next = looked.stays.next;
  later = subst (λ (j : List Entry). Later v.seen_rounds v.seen u.seen_rounds j) (sym looked.seen) looked.found.later;
  mine = looked.mine ∙ sym (append-nil v.mine);
  begins = looked.follows.begins;
  own = λ _. looked.stays.follows.mine;
}

pub grown_then : (v u w : View) (rs ss : List Record) → Grown v u rs → Grown u w ss → Grown v w (rs ++ ss)
grown_then v u w rs ss g h =
    let first = g.next in
    let second = h.next in
    record {
      whole = h.whole ∙ g.whole;
      actor = h.actor ∙ g.actor;
      next = omega (arith, first, second);
      later = later_then v.seen_rounds v.seen u.seen_rounds u.seen w.seen_rounds w.seen g.later h.later;
      mine = h.mine
          ∙ (ap (λ (n : ℕ). u.mine ++ entries_by n ss) g.actor
          ∙ (ap (λ (l : List Entry). l ++ entries_by v.actor ss) g.mine
          ∙ (append_assoc v.mine (entries_by v.actor rs) (entries_by v.actor ss)
          ∙ ap (λ (l : List Entry). v.mine ++ l) (sym (entries_by-append v.actor rs ss)))));
      begins = prefix_then v.history u.history w.history g.begins h.begins;
      own = λ own. h.own (g.own own);
    }

module _ (ask : Ask) where
  grown_held : (v u : View) (step : Step) (x : Thing) → Held ask step x v u → Grown v u (hold_records ask x)
  grown_held v u step x held = grown_acted v u step (Ok (hold_records ask x)) held

  grown_opened : (o : Option Opening) (v u : View) (run : Opened ask o v u) → Grown v u (opened_records ask o v u run)
  grown_opened None v u run = grown_none v u run
  grown_opened (Some o) v u run = grown_acted v u (open_step ask o) (Ok run.0) run.1

  grown_not_opened : (o : Option Opening) (refusal : Refusal) (v u : View) → NotOpened ask o refusal v u → Grown v u []
  grown_not_opened None refusal v u run = absurd run
  grown_not_opened (Some o) refusal v u run = grown_acted v u (open_step ask o) (Err refusal) run

  grown_rated : (v u : View) (run : Rated ask v u) → Grown v u (rated_records ask v u run)
  grown_rated v u run =
      grown_then v run.opened u (opened_records ask ask.opening v run.opened run.opens) (hold_records ask (Rate ask.rate)) (grown_opened ask.opening v run.opened run.opens) (grown_held run.opened u (rate_step ask) (Rate ask.rate) run.holds)

module _ {B : Type 0} (calls : Calls B) (ask : Ask) (kind : UdpPorts) where
  grown_returned : (from p : ℕ) (s t : State B) (run : PortsReturned calls ask kind from p s t) → Grown s.view t.view (returned_records calls ask kind from p s t run)
  grown_returned from p s t run =
      let ports = ports_from kind p in
      grown_then s.view run.between t.view (hold_records ask ports) run.made (grown_held ask s.view run.between (ports_step ask kind from) ports run.held) (grown_acted run.between t.view (return_step ask ports) (Ok run.made) run.returned)

  grown_tried : (before : List ℕ) (from : ℕ) (s t : State B) (run : Tried calls ask kind before from s t) → Grown s.view t.view (tried_records calls ask kind before from s t run)
  grown_tried [] from s t run = grown_none s.view t.view (ap (λ (x : State B). x.view) run.1)
  grown_tried (p ∷ before) from s t run =
      grown_then s.view run.between.view t.view (tried_records calls ask kind before run.start s run.between run.before) (returned_records calls ask kind run.start p run.between t run.returned) (grown_tried before run.start s run.between run.before) (grown_returned run.start p run.between t run.returned)

  grown_unreturned : (from : ℕ) (refusal : Refusal) (unreturned : Option Thing) (s t : State B) → PortsRefused calls ask kind from refusal unreturned s t → Grown s.view t.view (unreturned_records ask unreturned)
  grown_unreturned from refusal None s t run = grown_acted s.view t.view (ports_step ask kind from) (Err refusal) run.0
  grown_unreturned from refusal (Some x) s t run =
      subst (λ (rs : List Record). Grown s.view t.view rs) (append-nil (hold_records ask x))
      (grown_then s.view run.between t.view (hold_records ask x) [] (grown_held ask s.view run.between (ports_step ask kind from) x run.held) (grown_acted run.between t.view (return_step ask x) (Err refusal) run.refused))

  grown_granted : (x : Thing) (s t : State B) (run : PortsGranted calls ask kind x s t) → Grown s.view t.view (granted_records calls ask kind x s t run)
  grown_granted x s t run =
      let step = ports_step ask kind run.from in
      let held = subst (λ z. Held ask step z run.between.view t.view) (sym run.is) run.last.held in
      grown_then s.view run.between.view t.view (tried_records calls ask kind run.tried run.from s run.between run.tries) (hold_records ask x) (grown_tried run.tried run.from s run.between run.tries) (grown_held ask run.between.view t.view step x held)

  grown_ungranted : (e : NoAddress) (s t : State B) (run : NoPortsGranted calls ask kind e s t) → Grown s.view t.view (ungranted_records calls ask kind e s t run)
  grown_ungranted e s t run =
      grown_then s.view run.between.view t.view (tried_records calls ask kind run.tried run.from s run.between run.tries) (unreturned_records ask e.unreturned) (grown_tried run.tried run.from s run.between run.tries) (grown_unreturned run.from e.refusal e.unreturned run.between t run.last)

module _ {B : Type 0} (calls : Calls B) (ask : Ask) where
  grown_addressed : (want : Wanted) (x : Thing) (s t : State B) (run : Addressed calls ask want x s t) → Grown s.view t.view (addressed_records calls ask want x s t run)
  grown_addressed wanted.Pair x s t run = grown_granted calls ask udp.Pair x s t run
  grown_addressed wanted.Port x s t run = grown_granted calls ask udp.Port x s t run
  grown_addressed (wanted.Channels conn wish) x s t run = grown_held ask s.view t.view (chan_step ask conn wish) x run.0

  grown_unaddressed : (want : Wanted) (e : NoAddress) (s t : State B) (run : NotAddressed calls ask want e s t) → Grown s.view t.view (unaddressed_records calls ask want e s t run)
  grown_unaddressed wanted.Pair e s t run = grown_ungranted calls ask udp.Pair e s t run
  grown_unaddressed wanted.Port e s t run = grown_ungranted calls ask udp.Port e s t run
  grown_unaddressed (wanted.Channels conn wish) e s t run = grown_acted s.view t.view (chan_step ask conn wish) (Err e.refusal) run.refused

  grown_failed : (cause : Failure) (s t : State B) (run : Fails calls ask cause s t) → Grown s.view t.view (failed_records calls ask cause s t run)
  grown_failed (failure.Open refusal) s t run = grown_not_opened ask ask.opening refusal s.view t.view run.0
  grown_failed (failure.Rate refusal) s t run =
      let opened = opened_records ask ask.opening s.view run.opened run.opens in
      subst (λ (rs : List Record). Grown s.view t.view rs) (append-nil opened)
      (grown_then s.view run.opened t.view opened [] (grown_opened ask ask.opening s.view run.opened run.opens) (grown_acted run.opened t.view (rate_step ask) (Err refusal) run.refused))
  grown_failed (failure.Address e) s t run =
      grown_then s.view run.rated t.view (rated_records ask s.view run.rated run.rates) (unaddressed_records calls ask ask.wanted e (with_view run.rated s) t run.addresses) (grown_rated ask s.view run.rated run.rates) (grown_unaddressed ask.wanted e (with_view run.rated s) t run.addresses)
  grown_failed (failure.Commit refusal x) s t run =
      let rated = rated_records ask s.view run.rated run.rates in
      let addressed = addressed_records calls ask ask.wanted x (with_view run.rated s) (with_view run.held t) run.addresses in
      let first = grown_then s.view run.rated run.held rated addressed (grown_rated ask s.view run.rated run.rates) (grown_addressed ask.wanted x (with_view run.rated s) (with_view run.held t) run.addresses) in
      subst (λ (rs : List Record). Grown s.view t.view rs) (append-nil (rated ++ addressed)) (grown_then s.view run.held t.view (rated ++ addressed) [] first (grown_acted run.held t.view (commit_step ask) (Err refusal) run.refused))

  pub admissions_grow : AdmissionsGrow calls ask
  admissions_grow (Ok granted) s t run =
      let h = run.0 in
      let rated = rated_records ask s.view h.rated h.rates in
      let addressed = addressed_records calls ask ask.wanted granted.address (with_view h.rated s) h.held h.addresses in
      let first = grown_then s.view h.rated h.held.view rated addressed (grown_rated ask s.view h.rated h.rates) (grown_addressed ask.wanted granted.address (with_view h.rated s) h.held h.addresses) in
      grown_then s.view h.held.view t.view (rated ++ addressed) h.made first (grown_acted h.held.view t.view (commit_step ask) (Ok h.made) h.commits)
  admissions_grow (Err refusal) s t run =
      grown_then s.view run.broken.view t.view (failed_records calls ask run.cause s run.broken run.fails) (written run.answer) (grown_failed run.cause s run.broken run.fails) (grown_acted run.broken.view t.view (Unwind (chain_left ask run.cause)) run.answer run.unwinds)
