-- What each step records where it isn't refused.
use Rattle.std.specs.Prelude.{ℕ, ◌-◌, Bool, false, ◌&&◌, not, nat_lt, if◌then◌else◌, List, [], ◌∷◌, ◌++◌, option_map, Option, Some, None}
use Rattle.std.specs.FinMap.{get, entries}
use Rattle.rtsp_record.specs.declared.holdings.Thing.{Thing}
use Rattle.rtsp_record.specs.declared.holdings.Thing.TheVariants.{Pair, Port, Chan, Rate}
use Rattle.rtsp_record.specs.declared.phases.Phase.{Phase}
use Rattle.rtsp_record.specs.declared.phases.Phase.TheVariants.{Ready, Playing, Ended}
use Rattle.rtsp_record.specs.declared.streams.Stream.{Stream}
use Rattle.rtsp_record.specs.declared.holdings.Whole.{Whole}
use Rattle.rtsp_record.specs.declared.changes.Record.{Record}
use Rattle.rtsp_record.specs.declared.changes.Record.TheVariants as change
use Rattle.rtsp_record.specs.Records.{holds, frees, adds, moves, touches, binds}
use Rattle.rtsp_sessions.specs.declared.startups.Startup.{Startup}
use Rattle.rtsp_book.specs.declared.steps.Chain.{Chain}
use Rattle.rtsp_book.specs.declared.steps.Step.{Step}
use Rattle.rtsp_book.specs.declared.steps.Step.TheVariants as step
use Rattle.rtsp_book.specs.declared.steps.Commit.{Commit}
use Rattle.rtsp_book.specs.declared.steps.Play.{Play}
use Rattle.rtsp_record.specs.declared.holdings.Admission.{Admission}
use Rattle.rtsp_record.specs.Books.{Session, Book}
use Rattle.rtsp_record.specs.Sums.{of_session, other_tracks}
use Rattle.rtsp_record.specs.Rules.{is_ready, is_held}
use Rattle.rtsp_record.specs.Choices.{least_pair, least_port, chosen_chan}
use Rattle.rtsp_record.specs.Moments.{due, point, sent_with_due}
use Rattle.rtsp_sessions.specs.Searches.{first_with, is_of_track, is_expired, is_channelled, is_on}
use Rattle.rtsp_book.specs.Sessions.{has_stream_under}
use Rattle.rtsp_book.specs.Returns.{dropping, ending, freeing, freeing_rate, giving_back, unbinding}

-- Hold of what was chosen
abbrev pub hold_chosen : ℕ → ℕ → Option Thing → List Record
hold_chosen s a None = []
hold_chosen s a (Some x) = holds s a x ∷ []

-- a pair as a thing
abbrev pub as_pair : Option ℕ → Option Thing
as_pair o = option_map Pair o

-- a port as a thing
abbrev pub as_port : Option ℕ → Option Thing
as_port o = option_map Port o

-- channels as a thing
abbrev pub as_chan : ℕ → Option ℕ → Option Thing
as_chan c o = option_map (Chan c) o

-- Add, in place of the stream of the same track where there is one
abbrev pub adding : ℕ → ℕ → Stream → Option (ℕ × Admission) → List Record
adding s a v None = adds s a v ∷ []
adding s a v (Some e) = dropping s e.0 e.1.stream ++ (adds s a v ∷ (freeing s e.0 e.1.address ++ freeing_rate s e.0 e.1.rate))

-- Bind where a startup number is given
abbrev pub binding_to : ℕ → Option Startup → List Record
binding_to s None = []
binding_to s (Some u) = binds s u.conn u.number ∷ []

-- what a commit records
abbrev pub committing : Commit → Session → List Record
committing c f =
    adding c.session c.admission c.stream (first_with (is_of_track c.stream.track) (entries f.admissions))
    ++ binding_to c.session c.startup

-- Free of a Hold of a chain, where it is held and has no stream
abbrev pub taking_back : ℕ → ℕ → Session → Option Thing → List Record
taking_back s a f None = []
taking_back s a f (Some x) = if is_held f a x && not (has_stream_under f a) then frees s a x ∷ [] else []

-- with an Open in the chain the end of the session, else its Holds, last first
abbrev pub unwinding : Chain → Session → List Record
unwinding ch f = if ch.opened then ending ch.session f else taking_back ch.session ch.admission f ch.second ++ taking_back ch.session ch.admission f ch.first

-- the unit where a play begins
abbrev pub start_of : Option ℕ → Phase → ℕ → ℕ → ℕ
start_of None p unit_ms now = point p unit_ms now
start_of (Some from) p unit_ms now = from

-- the phase that a play begins
abbrev pub begun : Play → Phase → Phase
begun d p = Playing (start_of d.from p d.unit_ms d.now) d.stop (sent_with_due p d.unit_ms d.now) d.now

-- Move to Playing
abbrev pub playing : Play → Phase → List Record
playing d p = moves d.session p (begun d p) ∷ []

-- none in Ready, else Move to Ready at the point
abbrev pub pausing : ℕ → ℕ → ℕ → Phase → List Record
pausing s unit_ms now p = if is_ready p then [] else moves s p (Ready (point p unit_ms now) (sent_with_due p unit_ms now)) ∷ []

-- Move to Ended
abbrev pub finishing : ℕ → ℕ → ℕ → Phase → List Record
finishing s unit_ms now (Ready at sent) = []
finishing s unit_ms now (Playing from stop sent since) = moves s (Playing from stop sent since) (Ended stop (sent_with_due (Playing from stop sent since) unit_ms now)) ∷ []
finishing s unit_ms now (Ended at sent) = []

-- the play isn't at its end
abbrev pub is_unfinished : Phase → ℕ → ℕ → Bool
is_unfinished (Ready at sent) unit_ms now = false
is_unfinished (Playing from stop sent since) unit_ms now = nat_lt (due (Playing from stop sent since) unit_ms now) (stop - from)
is_unfinished (Ended at sent) unit_ms now = false

-- Touch where it is later
abbrev pub touching : ℕ → ℕ → ℕ → List Record
touching s expires until = if nat_lt expires until then touches s expires until ∷ [] else []

-- what stands under the admission found
abbrev pub giving_back_found : ℕ → Option (ℕ × Admission) → List Record
giving_back_found s None = []
giving_back_found s (Some e) = giving_back s e

-- for the only stream the end of the session, else the stream with what is held under it
abbrev pub dropping_track : ℕ → ℕ → Session → List Record
dropping_track s t f = if nat_lt 0 (of_session (other_tracks t) f) then giving_back_found s (first_with (is_of_track t) (entries f.admissions)) else ending s f

-- the end of the session found
abbrev pub ending_found : Option (ℕ × Session) → List Record
ending_found None = []
ending_found (Some e) = ending e.0 e.1

-- the end of a session that holds channels of the connection, else Unbind
abbrev pub hanging_up : ℕ → Option (ℕ × Session) → List Record
hanging_up c None = []
hanging_up c (Some e) = if is_channelled c e.1 then ending e.0 e.1 else unbinding e.0 e.1.binding

-- of a living session, or nothing
abbrev pub of_living : Option Session → (Session → List Record) → List Record
of_living None g = []
of_living (Some f) g = g f

-- the records of a step that isn't refused
abbrev pub made : Whole → Book → Step → List Record
made w b (step.Open l) = change.Open l ∷ []
made w b (step.HoldRate s a n) = holds s a (Rate n) ∷ []
made w b (step.HoldPair s a from) = hold_chosen s a (as_pair (least_pair w b from))
made w b (step.HoldPort s a from) = hold_chosen s a (as_port (least_port w b from))
made w b (step.HoldChan h) = hold_chosen h.session h.admission (as_chan h.conn (chosen_chan b h.conn h.wish))
made w b (step.Return s a x) = frees s a x ∷ []
made w b (step.Commit c) = of_living (get b c.session) (committing c)
made w b (step.Unwind ch) = of_living (get b ch.session) (unwinding ch)
made w b (step.Play d) = of_living (get b d.session) (λ f. playing d f.phase)
made w b (step.Pause s unit_ms now) = of_living (get b s) (λ f. pausing s unit_ms now f.phase)
made w b (step.Finish s unit_ms now) = of_living (get b s) (λ f. finishing s unit_ms now f.phase)
made w b (step.Touch s until) = of_living (get b s) (λ f. touching s f.expires until)
made w b (step.DropTrack s t) = of_living (get b s) (dropping_track s t)
made w b (step.End s) = of_living (get b s) (ending s)
made w b (step.Expire now) = ending_found (first_with (is_expired now) (entries b))
made w b (step.Hangup c) = hanging_up c (first_with (is_on c) (entries b))
