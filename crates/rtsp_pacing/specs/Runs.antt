-- Frames of a channel that are put in one call.
use Rattle.std.specs.Prelude.{ℕ, ◌++◌, List}
use Rattle.rtsp_record.specs.Counters.{raised}

-- the track of the frames, how many there are, and their bytes, one frame behind another
pub record Run : Type 0 where
  pub track : ℕ
  pub frames : ℕ
  pub bytes : List ℕ

-- with a frame of this track behind them
abbrev pub added : Run → ℕ → List ℕ → Run
added r track frame = record { track = track; frames = raised r.frames; bytes = r.bytes ++ frame }
