-- What comes of a frame of a channel, and how much may wait there. `P before frame put after` says what an outlet does with a frame,
-- `F before after` what it does where what waits is offered to the system.
use Rattle.std.specs.Prelude.{◌≡◌, ◌≢◌, ◌+◌, ◌*◌, ◌/◌, ◌++◌, ◌⊎◌, ℕ, List, [], min, max}
use Rattle.rtsp_sockets.specs.Rooms.{frame_room, most_frames}
use Rattle.rtsp_sockets.specs.declared.put.Put.{Put}
use Rattle.rtsp_sockets.specs.declared.put.Put.TheVariants as puts

-- the bytes of so many bits a second that are due within two seconds of a play that is late by so many milliseconds, within both bounds
abbrev pub room_when_late : ℕ → ℕ → ℕ
room_when_late rate late = max frame_room (min most_frames (rate * (2000 + late) / 8000))

-- what an outlet takes of a frame: all of it, or nothing
abbrev pub taken_of : List ℕ → Put → List ℕ
taken_of frame puts.Sent = frame
taken_of frame puts.Kept = frame
taken_of frame puts.Dropped = []
taken_of frame puts.Closed = []

module _ {O : Type 0} (P : O → List ℕ → Put → O → Type 0) (F : O → O → Type 0) where
  -- a frame that had no room is put once more, behind an offer of what waits
  pub record PutsAgain (before : O) (frame : List ℕ) (put : Put) (after : O) : Type 0 where
    pub full : O
    pub offered : O
    pub dropped : P before frame puts.Dropped full
    pub offers : F full offered
    pub puts : P offered frame put after

  -- a frame is put, and put again only where it was dropped
  abbrev pub Puts : O → List ℕ → Put → O → Type 0
  Puts before frame put after = (P before frame put after × (put ≢ puts.Dropped)) ⊎ PutsAgain before frame put after

  -- the bytes that an outlet has taken and isn't rid of, in their order: a frame comes behind them once, whole, or not at all, and an
  -- offer leaves them as they are
  pub record Keeps (bytes : O → List ℕ) : Type 0 where
    pub put : (before : O) → (frame : List ℕ) → (put : Put) → (after : O) → P before frame put after → put ≢ puts.Closed → bytes after ≡ bytes before ++ taken_of frame put
    pub offer : (before after : O) → F before after → bytes after ≡ bytes before
