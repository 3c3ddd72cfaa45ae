-- Sums and counts over all that stands in a book.
use Rattle.std.specs.Prelude.{◌==◌, ℕ, ◌+◌, Bool, false, ◌&&◌, ◌||◌, not, cond, is_some, Option, Some, None}
use Rattle.rtsp_record.specs.declared.holdings.Thing.{Thing}
use Rattle.rtsp_record.specs.declared.holdings.Thing.TheVariants.{Pair, Port, Chan, Rate}
use Rattle.rtsp_record.specs.declared.phases.Phase.{Phase}
use Rattle.rtsp_record.specs.declared.phases.Phase.TheVariants.{Ready, Playing, Ended}
use Rattle.rtsp_record.specs.declared.streams.Stream.{Stream}
use Rattle.rtsp_record.specs.declared.changes.Record.{Record}
use Rattle.rtsp_record.specs.declared.changes.Record.TheVariants.{Open, Hold, Add, Move, Bind}
use Rattle.rtsp_record.specs.Tables.{Table, set, total}
use Rattle.rtsp_record.specs.declared.holdings.Admission.{Admission}
use Rattle.rtsp_record.specs.Books.{Session, Book}

-- how much each part of a session counts
pub record Measure : Type 0 where
  pub life : ℕ → ℕ
  pub phase : Phase → ℕ
  pub binding : ℕ × ℕ → ℕ
  pub thing : Thing → ℕ
  pub stream : Stream → ℕ

-- what a part counts where it is there
abbrev pub if_there : {X : Type 0} → (X → ℕ) → Option X → ℕ
if_there w None = 0
if_there w (Some x) = w x

-- the sum over an admission
abbrev pub of_admission : Measure → Admission → ℕ
of_admission m d = if_there (λ n. m.thing (Rate n)) d.rate + if_there m.thing d.address + if_there m.stream d.stream

-- the sum over a session
abbrev pub of_session : Measure → Session → ℕ
of_session m f = m.life f.id + m.phase f.phase + if_there m.binding f.binding + total (λ e. of_admission m e.1) f.admissions

-- the sum over a book
abbrev pub amount : Measure → Book → ℕ
amount m b = total (λ e. of_session m e.1) b

-- 1 where it is so, else 0
abbrev pub one_if : Bool → ℕ
one_if t = cond t 1 0

-- nothing counts
abbrev pub nothing : Measure
nothing = record { life = λ _. 0; phase = λ _. 0; binding = λ _. 0; thing = λ _. 0; stream = λ _. 0 }

-- living sessions
abbrev pub sessions : Measure
sessions = record nothing { life = λ _. 1 }

-- living sessions with this id
abbrev pub with_id : ℕ → Measure
with_id id = record nothing { life = λ i. one_if (i == id) }

-- bindings of this startup number on this connection
abbrev pub bindings : ℕ → ℕ → Measure
bindings c i = record nothing { binding = λ k. one_if (k.0 == c && k.1 == i) }

-- the bits of a thing
abbrev pub rate_of : Thing → ℕ
rate_of (Rate n) = n
rate_of (Pair p) = 0
rate_of (Port p) = 0
rate_of (Chan c k) = 0

-- held bits
abbrev pub rates : Measure
rates = record nothing { thing = rate_of }

-- what can be held by one only: a UDP port, or a channel of a connection
pub data Spot : Type 0 where
  UdpPort : (p : ℕ) → Spot
  Channel : (c k : ℕ) → Spot

-- a pair covers two ports, a port covers itself, and channels cover two of their connection
abbrev pub covers : Spot → Thing → Bool
covers (UdpPort q) (Pair p) = q == p || q == p + 1
covers (UdpPort q) (Port p) = q == p
covers (UdpPort q) (Chan c k) = false
covers (UdpPort q) (Rate n) = false
covers (Channel d l) (Pair p) = false
covers (Channel d l) (Port p) = false
covers (Channel d l) (Chan c k) = d == c && (l == k || l == k + 1)
covers (Channel d l) (Rate n) = false

-- held things that cover this
abbrev pub covering : Spot → Measure
covering q = record nothing { thing = λ x. one_if (covers q x) }

-- streams
abbrev pub streams : Measure
streams = record nothing { stream = λ _. 1 }

-- of the same track, or of another presentation
abbrev pub clash : Stream → Stream → Bool
clash v w = v.track == w.track || not (v.presentation == w.presentation)

-- streams beside which this one can't stand
abbrev pub clashing : Stream → Measure
clashing v = record nothing { stream = λ w. one_if (clash v w) }

-- streams of a presentation other than this one's
abbrev pub elsewhere : Stream → Measure
elsewhere v = record nothing { stream = λ w. one_if (not (v.presentation == w.presentation)) }

-- streams of other tracks
abbrev pub other_tracks : ℕ → Measure
other_tracks t = record nothing { stream = λ w. one_if (not (w.track == t)) }

-- the opening phase
abbrev pub is_opening : Phase → Bool
is_opening (Ready at sent) = at == 0 && sent == 0
is_opening (Playing from stop sent since) = false
is_opening (Ended at sent) = false

-- returns that are owed: the records that would end all sessions
abbrev pub returns : Measure
returns = record { life = λ _. 1; phase = λ p. one_if (not (is_opening p)); binding = λ _. 1; thing = λ _. 1; stream = λ _. 1 }

-- the return that a record brings: an Open, a Hold, an Add, a Bind, or a Move that doesn't lead to the opening phase
abbrev pub newly_owed : Record → ℕ
newly_owed (Open k) = 1
newly_owed (Hold k) = 1
newly_owed (Add k) = 1
newly_owed (Move k) = one_if (not (is_opening k.to))
newly_owed (Bind k) = 1
newly_owed r = 0

-- how many sessions live
abbrev pub living : Book → ℕ
living b = amount sessions b

-- all bits held
abbrev pub held_rate : Book → ℕ
held_rate b = amount rates b

-- how many returns are owed
abbrev pub owed : Book → ℕ
owed b = amount returns b

-- something is held
abbrev pub is_holding : Admission → Bool
is_holding d = is_some d.rate || is_some d.address

-- how many admissions hold something
abbrev pub holding_rows : Table Admission → ℕ
holding_rows t = total (λ e. one_if (is_holding e.1)) t

-- how many admissions of the session hold something
abbrev pub admissions_holding : Session → ℕ
admissions_holding f = holding_rows f.admissions

-- how many hold something with this one left out
abbrev pub others_holding : Session → ℕ → ℕ
others_holding f a = holding_rows (set f.admissions a None)
