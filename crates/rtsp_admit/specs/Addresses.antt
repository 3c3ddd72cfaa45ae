-- Which ports a binder has before and after an admission.
use Rattle.std.specs.Prelude.{◌≡◌, ◌==◌, ℕ, Bool, false, ◌&&◌, ◌||◌, not, List, [], ◌∷◌, Ok, Err}
use Rattle.rtsp_record.specs.declared.changes.Record.{Record}
use Rattle.rtsp_record.specs.declared.holdings.Thing.{Thing}
use Rattle.rtsp_record.specs.declared.holdings.Thing.TheVariants.{Rate, Pair, Port, Chan}
use Rattle.rtsp_record.specs.Rules.{is_same_thing}
use Rattle.rtsp_book.specs.declared.asks.Admitted.{Admitted}
use Rattle.rtsp_book.specs.declared.asks.Ask.{Ask}
use Rattle.rtsp_book.specs.declared.refusals.Refusal.{Refusal}
use Rattle.rtsp_lock.specs.declared.view.View.{View}
use Rattle.rtsp_lock.specs.Calls.{Acted}
use Rattle.rtsp_admit.specs.Binder.{Calls, freed_addresses}
use Rattle.rtsp_admit.specs.Steps.{commit_step}
use Rattle.rtsp_admit.specs.Runs.{State, Admits}

-- the ports x under admission a
abbrev pub is_address : ℕ → Thing → ℕ → Thing → Bool
is_address a x n y = n == a && is_same_thing y x

-- some of these ports, each under its admission
abbrev pub is_among : List (ℕ × Thing) → ℕ → Thing → Bool
is_among [] n y = false
is_among (x ∷ xs) n y = is_address x.0 x.1 n y || is_among xs n y

-- the ports that were granted, where ports were
abbrev pub is_granted : ℕ → Thing → ℕ → Thing → Bool
is_granted a (Pair p) n y = is_address a (Pair p) n y
is_granted a (Port p) n y = is_address a (Port p) n y
is_granted a (Chan c k) n y = false
is_granted a (Rate m) n y = false

module _ {B : Type 0} (calls : Calls B) where
  -- a test of what a binder has under each admission: a bind adds its ports, which it had not; a failed one changes nothing; an unbind takes its ports away
  pub record ShowsAddresses (has : B → ℕ → Thing → Bool) : Type 0 where
    pub fresh : (b c : B) (a : ℕ) (x : Thing) → calls.binds b a x c → has b a x ≡ false
    pub bound : (b c : B) (a : ℕ) (x : Thing) → calls.binds b a x c → (n : ℕ) (y : Thing) → has c n y ≡ (has b n y || is_address a x n y)
    pub failed : (b c : B) (a : ℕ) (x : Thing) → calls.fails b a x c → (n : ℕ) (y : Thing) → has c n y ≡ has b n y
    pub unbound : (b c : B) (a : ℕ) (x : Thing) → calls.unbinds b a x c → (n : ℕ) (y : Thing) → has c n y ≡ (has b n y && not (is_address a x n y))

  -- the binder has what it had
  abbrev pub KeepsAddresses : B → B → Type 0
  KeepsAddresses b c = (has : B → ℕ → Thing → Bool) → ShowsAddresses has → (n : ℕ) (y : Thing) → has c n y ≡ has b n y

  -- the Commit of an admission, and what it freed
  pub record Committed (ask : Ask) (u : View) : Type 0 where
    pub before : View
    pub made : List Record
    pub acted : Acted before u (commit_step ask) (Ok made)

  -- it has what it had and the granted ports, less those that the Commit freed
  abbrev pub has_after : (B → ℕ → Thing → Bool) → B → ℕ → Thing → List Record → ℕ → Thing → Bool
  has_after has b a address made n y = (has b n y || is_granted a address n y) && not (is_among (freed_addresses made) n y)

  -- what an accepted admission does to what a binder has; none of the freed ports are its own
  pub record GainsAddress (ask : Ask) (granted : Admitted) (s t : State B) : Type 0 where
    pub commit : Committed ask t.view
    pub others : (y : Thing) → is_among (freed_addresses commit.made) ask.admission y ≡ false
    pub addresses : (has : B → ℕ → Thing → Bool) → ShowsAddresses has → (n : ℕ) (y : Thing)
        → has t.binder n y ≡ has_after has s.binder ask.admission granted.address commit.made n y

  -- after a refusal the binder has what it had
  abbrev pub RefusalsKeepAddresses : Ask → Type 0
  RefusalsKeepAddresses ask = (refusal : Refusal) (s t : State B) → Admits calls ask (Err refusal) s t → KeepsAddresses s.binder t.binder

  -- after an admission it has the granted ports too, less what the Commit freed
  abbrev pub AdmissionsGainAddress : Ask → Type 0
  AdmissionsGainAddress ask = (granted : Admitted) (s t : State B) → Admits calls ask (Ok granted) s t → GainsAddress ask granted s t
