-- What a port set has under each admission, before and after an admission.
use Rattle.std.specs.Prelude.{◌≡◌, ◌==◌, ℕ, ◌-◌, ◌%◌, Bool, false, ◌&&◌, leb, Option, Some, Ok, Err}
use Rattle.rtsp_record.specs.declared.holdings.Thing.{Thing}
use Rattle.rtsp_record.specs.declared.holdings.Thing.TheVariants.{Pair, Port, Chan, Rate}
use Rattle.rtsp_book.specs.declared.asks.Admitted.{Admitted}
use Rattle.rtsp_book.specs.declared.asks.Ask.{Ask}
use Rattle.rtsp_book.specs.declared.refusals.Refusal.{Refusal}
use Rattle.rtsp_admit.specs.Runs.{State, Admits}
use Rattle.rtsp_admit.specs.Addresses.{is_among, Committed, has_after}
use Rattle.rtsp_admit.specs.Binder.{freed_addresses}
use Rattle.rtsp_traits.specs.declared.port_set.PortSet.{PortSet}
use Rattle.rtsp_traits.specs.PortSet.{calls, slot}

-- the address is one of the set's, where it has so many ports
abbrev pub is_own : ℕ → Thing → Bool
is_own first (Pair p) = leb first p && ((p - first) % 2 == 0)
is_own first (Port p) = leb first p
is_own first (Chan c k) = false
is_own first (Rate n) = false

-- what is at a place is of this admission
abbrev pub is_of : Option (Option ℕ) → ℕ → Bool
is_of (Some (Some a)) n = a == n
is_of other n = false

-- the address is bound under the admission
abbrev pub has : PortSet → ℕ → Thing → Bool
has b n y = is_own b.first_port y && is_of (slot b y) n

-- both have the same addresses, each under the same admission
abbrev pub HasSame : PortSet → PortSet → Type 0
HasSame b c = (n : ℕ) (y : Thing) → has c n y ≡ has b n y

-- the set has what it had and the granted ports, less those that the Commit freed, which are not its own
pub record Gains (ask : Ask) (granted : Admitted) (s t : State PortSet) : Type 0 where
  pub commit : Committed calls ask t.view
  pub others : (y : Thing) → is_among (freed_addresses commit.made) ask.admission y ≡ false
  pub addresses : (n : ℕ) (y : Thing) → has t.binder n y ≡ has_after calls has s.binder ask.admission granted.address commit.made n y

-- after a refused admission it has what it had
abbrev pub RefusalsKeepPorts : Ask → Type 0
RefusalsKeepPorts ask = (refusal : Refusal) (s t : State PortSet) → Admits calls ask (Err refusal) s t → HasSame s.binder t.binder

-- after an admission it has the granted ports too
abbrev pub AdmissionsGainPorts : Ask → Type 0
AdmissionsGainPorts ask = (granted : Admitted) (s t : State PortSet) → Admits calls ask (Ok granted) s t → Gains ask granted s t
