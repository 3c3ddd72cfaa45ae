-- What is sent of a play that the session has left: what was counted as sent when it did.
use Rattle.std.specs.Prelude.{◌≡◌, ℕ, ◌<◌, ◌≤◌, ◌^◌, min}
use Rattle.rtsp_record.specs.declared.phases.Phase.{Phase}
use Rattle.rtsp_record.specs.declared.phases.Phase.TheVariants.{Ready, Playing, Ended}
use Rattle.rtsp_record.specs.Counters.{raised}
use Rattle.rtsp_record.specs.Moments.{point, sent_with_due}
use Rattle.rtsp_rtp.specs.declared.turn.LastTurn.{LastTurn}
use Rattle.rtsp_rtp.specs.declared.turn.LastTurn.TheVariants.{Done, More, NotLeft, SinkFailed}
use Rattle.rtsp_rtp.specs.Sinks.{Calls}
use Rattle.rtsp_rtp.specs.Pacing.{Pacing}
use Rattle.rtsp_rtp.specs.Turns.{unsent_at, SendsAll, SendsSome}

-- a play in the phase p that is left at the moment m leads to such a phase: that of a pause at m, or of a play that began then or, after such a pause, later
abbrev pub IsLeftFor : Phase → ℕ → ℕ → Phase → Type 0
IsLeftFor p unit_ms m (Ready at sent) = (at ≡ point p unit_ms m) × (sent ≡ sent_with_due p unit_ms m)
IsLeftFor p unit_ms m (Playing from stop sent since) = (m ≤ since) × (sent ≡ sent_with_due p unit_ms m)
IsLeftFor p unit_ms m (Ended at sent) = ⊥

-- the session may have left the play of the pacer at the moment
pub record IsLeftAt (p : Pacing) (session : ℕ) (phase : Phase) (m : ℕ) : Type 0 where
  pub own : session ≡ p.session
  pub moment : m < 2 ^ 64
  pub left : IsLeftFor p.phase p.unit_ms m phase

-- there is no such moment
abbrev pub IsNeverLeft : Pacing → ℕ → Phase → Type 0
IsNeverLeft p session phase = (m : ℕ) → ¬ (IsLeftAt p session phase m)

-- the session hasn't left the play for this phase, and nothing was done
pub record StaysAway {S : Type 0} (p q : Pacing) (session : ℕ) (phase : Phase) (s u : S) : Type 0 where
  pub never : IsNeverLeft p session phase
  pub pacer : q ≡ p
  pub sink : u ≡ s

module _ {S : Type 0} (calls : Calls S) (p q : Pacing) (session : ℕ) (phase : Phase) (moment : ℕ) where
  -- whenever the session left the play, all that was due then and unsent was sent
  pub record Completed (s u : S) : Type 0 where
    pub when : ℕ
    pub left : IsLeftAt p session phase when
    pub past : when ≤ moment
    pub sends : (m : ℕ) → IsLeftAt p session phase m → SendsAll calls p.phase p.unit_ms (unsent_at p m) p.done q.done p.states q.states s u
    pub pacer : q ≡ record p { states = q.states; done = q.done }

  -- of this, what is due at the given moment was sent; the session may have left at a later moment, so more
  -- may come due
  pub record Continued (s u : S) : Type 0 where
    pub when : ℕ
    pub left : IsLeftAt p session phase when
    pub later : moment < when
    pub sends : (m : ℕ) → IsLeftAt p session phase m → SendsAll calls p.phase p.unit_ms (unsent_at p (min m moment)) p.done q.done p.states q.states s u
    pub pacer : q ≡ record p { states = q.states; done = q.done }

  -- some of this was sent, and then the sink failed
  pub record Interrupted (s u : S) : Type 0 where
    pub when : ℕ
    pub left : IsLeftAt p session phase when
    pub sends : (m : ℕ) → IsLeftAt p session phase m → SendsSome calls p.phase p.unit_ms (unsent_at p (min m moment)) p.done q.done p.states q.states s u
    pub pacer : q ≡ record p { states = q.states; done = q.done }

  -- a last turn of the pacer p at a moment, by its answer
  abbrev pub LastTurned : LastTurn → S → S → Type 0
  LastTurned Done s u = Completed s u
  LastTurned More s u = Continued s u
  LastTurned NotLeft s u = StaysAway p q session phase s u
  LastTurned SinkFailed s u = Interrupted s u

-- a failure of the sink was counted where the answer tells of one, and only there
abbrev pub CountsLastFault : {S : Type 0} → Calls S → LastTurn → S → S → Type 0
CountsLastFault calls SinkFailed s u = calls.failures u ≡ raised (calls.failures s)
CountsLastFault calls Done s u = calls.failures u ≡ calls.failures s
CountsLastFault calls More s u = calls.failures u ≡ calls.failures s
CountsLastFault calls NotLeft s u = calls.failures u ≡ calls.failures s
