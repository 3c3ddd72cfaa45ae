-- Which ports a binder has before and after an admission.
use Rattle.std.proofs.Common.{◌≡◌, ◌==◌, ℕ, Bool, true, false, ◌&&◌, ◌||◌, not, List, [], ◌∷◌, ◌++◌, refl, sym, ◌∙◌, ap, subst}
use Rattle.std.specs.Prelude.{Option, Some, None}
use Rattle.std.proofs.lemmas.Bool.{and_parts}
use Rattle.std.proofs.lemmas.Bool.Decides.{Decides-eqb}
use Rattle.rtsp_record.specs.declared.holdings.Thing.{Thing}
use Rattle.rtsp_record.specs.Rules.{is_same_thing}
use Rattle.rtsp_record.proofs.SameWords.{same_thing}
use Rattle.rtsp_book.specs.declared.asks.Ask.{Ask}
use Rattle.rtsp_book.specs.declared.asks.Wanted.{Wanted}
use Rattle.rtsp_book.specs.declared.asks.Wanted.TheVariants as wanted
use Rattle.rtsp_book.specs.declared.refusals.Refusal.{Refusal}
use Rattle.rtsp_admit.specs.declared.failure.Failure.{Failure}
use Rattle.rtsp_admit.specs.declared.failure.Failure.TheVariants as failure
use Rattle.rtsp_admit.specs.declared.failure.NoAddress.{NoAddress}
use Rattle.rtsp_admit.specs.declared.udp_ports.UdpPorts.{UdpPorts}
use Rattle.rtsp_admit.specs.declared.udp_ports.UdpPorts.TheVariants as udp
use Rattle.rtsp_admit.specs.Binder.{Calls, Unbound, UnboundAll, Released, freed_addresses}
use Rattle.rtsp_admit.specs.Steps.{ports_from, bound_address}
use Rattle.rtsp_admit.specs.Runs.{State, with_view, PortsRefused, Tried, PortsGranted, NoPortsGranted, Addressed, NotAddressed, Fails}
use Rattle.rtsp_admit.specs.Addresses.{is_address, is_among, is_granted, ShowsAddresses, RefusalsKeepAddresses, AdmissionsGainAddress}
use Rattle.rtsp_admit.proofs.Breaking.{is_chan}
use Rattle.rtsp_admit.proofs.Freeing.{commit_keeps}

-- what was not there is added and taken away
add_take : (v it : Bool) → (it ≡ true → v ≡ false) → ((v || it) && not it) ≡ v
add_take true true h = sym (h refl)
add_take false true h = refl
add_take v it h = refl

less_none : (v : Bool) → v ≡ (v && true)
less_none true = refl
less_none false = refl

more_none : (v : Bool) → v ≡ (v || false)
more_none true = refl
more_none false = refl

less_both : (v it rest : Bool) → ((v && not it) && not rest) ≡ (v && not (it || rest))
less_both true true rest = refl
less_both v it rest = refl

-- granted ports are those that were bound
granted_ports : (kind : UdpPorts) (p a n : ℕ) (y : Thing) → is_granted a (ports_from kind p) n y ≡ is_address a (ports_from kind p) n y
granted_ports udp.Pair p a n y = refl
granted_ports udp.Port p a n y = refl

pub released_ports : {B : Type 0} (calls : Calls B) (kind : UdpPorts) (p a : ℕ) (b c : B) → Released calls a (Some (ports_from kind p)) b c → Unbound calls a (ports_from kind p) b c
released_ports calls udp.Pair p a b c h = h
released_ports calls udp.Port p a b c h = h

-- some are unbound after others
pub unbound_then : {B : Type 0} (calls : Calls B) (xs ys : List (ℕ × Thing)) (b c d : B) → UnboundAll calls xs b c → UnboundAll calls ys c d → UnboundAll calls (xs ++ ys) b d
unbound_then calls [] ys b c d first second = subst (λ e. UnboundAll calls ys e d) first second
unbound_then calls (x ∷ xs) ys b c d first second = (first.0, first.1, unbound_then calls xs ys first.0 c d first.2 second)

module _ {B : Type 0} (calls : Calls B) (ask : Ask) (has : B → ℕ → Thing → Bool) (shows : ShowsAddresses calls has) where
  -- both binders have the same
  abbrev SameAddresses : B → B → Type 0
  SameAddresses b c = (n : ℕ) (y : Thing) → has c n y ≡ has b n y

  same_binder : (b c : B) → c ≡ b → SameAddresses b c
  same_binder b c e n y = ap (λ (x : B). has x n y) e

  same_tried : (kind : UdpPorts) (before : List ℕ) (from : ℕ) (s t : State B) → Tried calls ask kind before from s t → SameAddresses s.binder t.binder
  same_tried kind [] from s t h n y = ap (λ (x : State B). has x.binder n y) h.1
  same_tried kind (p ∷ before) from s t h n y =
      shows.failed h.between.binder t.binder ask.admission (ports_from kind p) h.returned.failed.call n y ∙ same_tried kind before h.start s h.between h.before n y

  same_ports_refused : (kind : UdpPorts) (from : ℕ) (refusal : Refusal) (unreturned : Option Thing) (s t : State B) → PortsRefused calls ask kind from refusal unreturned s t → SameAddresses s.binder t.binder
  same_ports_refused kind from refusal None s t h n y = same_binder s.binder t.binder h.1 n y
  same_ports_refused kind from refusal (Some x) s t h n y = shows.failed s.binder t.binder ask.admission x h.failed.call n y

  same_not_granted : (kind : UdpPorts) (e : NoAddress) (s t : State B) → NoPortsGranted calls ask kind e s t → SameAddresses s.binder t.binder
  same_not_granted kind e s t h n y =
      same_ports_refused kind h.from e.refusal e.unreturned h.between t h.last n y ∙ same_tried kind h.tried h.from s h.between h.tries n y

  same_not_addressed : (want : Wanted) (e : NoAddress) (s t : State B) → NotAddressed calls ask want e s t → SameAddresses s.binder t.binder
  same_not_addressed wanted.Pair e s t h n y = same_not_granted udp.Pair e s t h n y
  same_not_addressed wanted.Port e s t h n y = same_not_granted udp.Port e s t h n y
  same_not_addressed (wanted.Channels conn wish) e s t h n y = same_binder s.binder t.binder h.binder n y

  more_granted : (kind : UdpPorts) (x : Thing) (s t : State B) → PortsGranted calls ask kind x s t → (n : ℕ) (y : Thing) → has t.binder n y ≡ (has s.binder n y || is_granted ask.admission x n y)
  more_granted kind x s t h n y =
      let ports = ports_from kind h.first in
      let more : has t.binder n y ≡ (has s.binder n y || is_address ask.admission ports n y) =
      shows.bound h.between.binder t.binder ask.admission ports h.last.bound.call n y
      ∙ ap (λ v. v || is_address ask.admission ports n y) (same_tried kind h.tried h.from s h.between h.tries n y) in
      more
      ∙ ap (λ v. has s.binder n y || v) (sym (granted_ports kind h.first ask.admission n y))
      ∙ ap (λ z. has s.binder n y || is_granted ask.admission z n y) (sym h.is)

  -- with the address, what was bound for it
  more_addressed : (want : Wanted) (x : Thing) (s t : State B) → Addressed calls ask want x s t → (n : ℕ) (y : Thing) → has t.binder n y ≡ (has s.binder n y || is_granted ask.admission x n y)
  more_addressed wanted.Pair x s t h n y = more_granted udp.Pair x s t h n y
  more_addressed wanted.Port x s t h n y = more_granted udp.Port x s t h n y
  more_addressed (wanted.Channels conn wish) x s t h n y =
      same_binder s.binder t.binder h.1 n y ∙ more_none (has s.binder n y) ∙ ap (λ x. has s.binder n y || is_granted ask.admission x n y) (sym (is_chan ask conn wish x s.view t.view h.0).1)

  -- ports that are unbound again were not there before
  same_unbound : (kind : UdpPorts) (x : Thing) (s d : State B) (c : B) → PortsGranted calls ask kind x s d → Released calls ask.admission (Some x) d.binder c → SameAddresses s.binder c
  same_unbound kind x s d c h release n y =
      let b = h.between.binder in
      let a = ask.admission in
      let ports = ports_from kind h.first in
      let unbound = released_ports calls kind h.first a d.binder c (subst (λ z. Released calls a (Some z) d.binder c) h.is release) in
      let same : SameAddresses s.binder b = same_tried kind h.tried h.from s h.between h.tries in
      let none : has b a ports ≡ false = shows.fresh b d.binder a ports h.last.bound.call in
      shows.unbound d.binder c a ports unbound.call n y
      ∙ ap (λ v. v && not (is_address a ports n y)) (shows.bound b d.binder a ports h.last.bound.call n y)
      ∙ add_take (has b n y) (is_address a ports n y) (λ is.
      let parts = and_parts (n == a) (is_same_thing y ports) is in ap (λ n. has b n y) ((Decides-eqb n a).0 parts.0) ∙ ap (λ y. has b a y) (same_thing y ports parts.1) ∙ none)
      ∙ same n y

  -- released again, it has what it had
  same_released : (want : Wanted) (x : Thing) (s d : State B) (c : B) → Addressed calls ask want x s d → Released calls ask.admission (Some x) d.binder c → SameAddresses s.binder c
  same_released wanted.Pair x s d c h release n y = same_unbound udp.Pair x s d c h release n y
  same_released wanted.Port x s d c h release n y = same_unbound udp.Port x s d c h release n y
  same_released (wanted.Channels conn wish) x s d c h release n y =
      let none : c ≡ d.binder = subst (λ x. Released calls ask.admission (Some x) d.binder c) (is_chan ask conn wish x s.view d.view h.0).1 release in
      same_binder d.binder c none n y ∙ same_binder s.binder d.binder h.1 n y

  same_failed : (cause : Failure) (s d : State B) (c : B) → Fails calls ask cause s d → Released calls ask.admission (bound_address cause) d.binder c → SameAddresses s.binder c
  same_failed (failure.Open refusal) s d c h release n y = same_binder d.binder c release n y ∙ same_binder s.binder d.binder h.1 n y
  same_failed (failure.Rate refusal) s d c h release n y = same_binder d.binder c release n y ∙ same_binder s.binder d.binder h.binder n y
  same_failed (failure.Address e) s d c h release n y = same_binder d.binder c release n y ∙ same_not_addressed ask.wanted e (with_view h.rated s) d h.addresses n y
  same_failed (failure.Commit refusal x) s d c h release n y = same_released ask.wanted x (with_view h.rated s) (with_view h.held d) c h.addresses release n y

  less_freed : (xs : List (ℕ × Thing)) (b c : B) → UnboundAll calls xs b c → (n : ℕ) (y : Thing) → has c n y ≡ (has b n y && not (is_among xs n y))
  less_freed [] b c h n y = same_binder b c h n y ∙ less_none (has b n y)
  less_freed (x ∷ xs) b c h n y =
      less_freed xs h.0 c h.2 n y
      ∙ ap (λ v. v && not (is_among xs n y)) (shows.unbound b h.0 x.0 x.1 h.1.call n y)
      ∙ less_both (has b n y) (is_address x.0 x.1 n y) (is_among xs n y)

module _ {B : Type 0} (calls : Calls B) (ask : Ask) where
  pub refusals_keep_addresses : RefusalsKeepAddresses calls ask
  refusals_keep_addresses refusal s t run has shows = same_failed calls ask has shows run.cause s run.broken t.binder run.fails run.releases

  pub admissions_gain_address : AdmissionsGainAddress calls ask
  admissions_gain_address granted s t run =
      let h = run.0 in
      record {
        commit = record { before = h.held.view; made = h.made; acted = h.commits };
        others = commit_keeps ask h.held.view t.view h.made h.commits;
        addresses = λ has shows n y.
            less_freed calls ask has shows (freed_addresses h.made) h.held.binder t.binder h.unbound n y
            ∙ ap (λ v. v && not (is_among (freed_addresses h.made) n y)) (more_addressed calls ask has shows ask.wanted granted.address (with_view h.rated s) h.held h.addresses n y);
      }
