-- The plays of a connection that are noted, and those that were begun.
use Rattle.std.specs.Prelude.{◌≡◌, ◌++◌, [], ℕ, List, Option, Some, None, option_map, option_to_list}
use Rattle.rtsp_record.specs.declared.phases.Phase.{Phase}
use Rattle.rtsp_traits.specs.Devices.{PlayCalls}
use Rattle.rtsp_state.specs.Notify.{media_uri}
use Rattle.rtsp_pacing.specs.declared.noted.BegunPlay.{BegunPlay}
use Rattle.rtsp_pacing.specs.declared.noted.NotedPlay.{NotedPlay}
use Rattle.rtsp_pacing.specs.declared.noted.NotedPlays.{NotedPlays}

-- a play of this session, for the PLAY of this number and URI, is noted
pub record Notes (b : NotedPlays) (session cseq : ℕ) (uri : List ℕ) (c : NotedPlays) : Type 0 where
  pub play : NotedPlay
  pub noted : c.noted ≡ Some play
  pub of_session : play.session ≡ session
  pub of_cseq : play.cseq ≡ cseq
  pub of_uri : media_uri uri ≡ Some play.uri
  pub begun : c.begun.items ≡ b.begun.items

-- nothing is changed
pub record Lacks (b c : NotedPlays) : Type 0 where
  pub noted : c.noted ≡ b.noted
  pub begun : c.begun.items ≡ b.begun.items

-- the play that was noted is begun, in the phase that its PLAY made, or it is forgotten
abbrev pub begun_by : Option Phase → Option NotedPlay → List BegunPlay
begun_by None noted = []
begun_by (Some phase) noted = option_to_list (option_map (λ play. record { noted = play; phase = phase }) noted)

pub record Settles (b : NotedPlays) (phase : Option Phase) (c : NotedPlays) : Type 0 where
  pub noted : c.noted ≡ None
  pub begun : c.begun.items ≡ b.begun.items ++ begun_by phase b.noted

abbrev pub calls : PlayCalls NotedPlays
calls = record { notes = Notes; lacks = Lacks; settles = Settles }
