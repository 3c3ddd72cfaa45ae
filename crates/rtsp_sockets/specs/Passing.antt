-- What is put into an outlet reaches the stream whole and in order, or waits. `T before bytes answer after` says what a stream does
-- that is asked once to take these bytes: it takes so many from the front, or it is broken.
use Rattle.std.specs.Prelude.{◌≡◌, ◌≢◌, ◌<◌, ◌≤◌, ◌+◌, ◌++◌, ◌⊎◌, ℕ, Bool, true, false, List, [], ◌∷◌, length, take, max, Option, Some, None}
use Rattle.std.specs.Io.KnownBytes.{Appends, Keeps}
use Rattle.rtsp_sockets.specs.Rooms.{all_room, frame_room, room_of}
use Rattle.rtsp_sockets.specs.declared.message.Message.{Message}
use Rattle.rtsp_sockets.specs.declared.message.Message.TheVariants as message
use Rattle.rtsp_sockets.specs.declared.pending.Condition.{Condition}
use Rattle.rtsp_sockets.specs.declared.pending.Condition.TheVariants as condition
use Rattle.rtsp_sockets.specs.declared.put.Put.{Put}
use Rattle.rtsp_sockets.specs.declared.put.Put.TheVariants as put

-- what waits to be written, how many bytes more its memory holds, what the connection takes, when there was progress last, and up
-- to which moment what was taken pays, at a byte a millisecond;
-- how many bytes may wait once a frame waits too, and how many of those that wait are lent
pub record Waiting : Type 0 where
  pub bytes : List ℕ
  pub spare : ℕ
  pub condition : Condition
  pub since : ℕ
  pub paid : ℕ
  pub room : ℕ
  pub lent : ℕ

abbrev pub IsClosed : Waiting → Type 0
IsClosed w = w.condition ≡ condition.Closed

-- closed, and nothing waits any longer
abbrev pub IsShut : Waiting → Type 0
IsShut w = IsClosed w × (w.bytes ≡ [])

-- what the connection takes is the same
abbrev pub IsAlike : Waiting → Waiting → Type 0
IsAlike old new = new.condition ≡ old.condition

-- whether a connection takes such a message
abbrev pub takes : Condition → Message → Bool
takes condition.Open kind = true
takes condition.Draining message.Response = true
takes condition.Draining message.Frame = false
takes condition.Closed kind = false

-- so many bytes are more than may wait beside those that are lent, or than the memory at hand holds
abbrev pub LacksRoom : ℕ → Waiting → ℕ → Type 0
LacksRoom most w count = (most + w.lent < count) ⊎ (length w.bytes + w.spare < count)

-- the room for frames of what waits, where frames of another room come to it: the greater one, or the new one where nothing waits
abbrev pub wider : List ℕ → ℕ → ℕ → ℕ
wider [] room other = other
wider (byte ∷ waits) room other = max room other

-- a message is offered to the stream where it is taken and nothing waits before it
abbrev pub offered_when : Bool → List ℕ → List ℕ → Option (List ℕ)
offered_when false waits bytes = None
offered_when true [] bytes = Some bytes
offered_when true (byte ∷ waits) bytes = None

abbrev pub offered : Waiting → Message → List ℕ → Option (List ℕ)
offered w kind bytes = offered_when (takes w.condition kind) w.bytes bytes

-- what waits is offered to the stream, if anything does
abbrev pub flushed : List ℕ → Option (List ℕ)
flushed [] = None
flushed (byte ∷ waits) = Some (byte ∷ waits)

-- the first bytes of what was offered
abbrev pub first_of : Option (List ℕ) → ℕ → List ℕ
first_of None n = []
first_of (Some bytes) n = take n bytes

-- what a stream of std does: the bytes that it takes are behind those that it holds
abbrev pub Tries : Option (List ℕ) → Option (List ℕ) → List ℕ → Option ℕ → Type 0
Tries before after bytes None = Keeps before after
Tries before after bytes (Some n) = (n ≤ length bytes) × Appends before after (take n bytes)

module _ {W : Type 0} (T : W → List ℕ → Option ℕ → W → Type 0) where
  -- a stream takes so many bytes of an offer, in one call; where nothing is offered it isn't called
  abbrev pub Asks : W → W → Option (List ℕ) → ℕ → Type 0
  Asks before after None n = (after ≡ before) × (n ≡ 0)
  Asks before after (Some bytes) n = T before bytes (Some n) after

  -- a stream is broken when it is called
  abbrev pub Breaks : W → W → Option (List ℕ) → Type 0
  Breaks before after None = ⊥
  Breaks before after (Some bytes) = T before bytes None after

  -- the first of the bytes were taken, of what waited and what came to it, and the others wait in their order
  pub record Passes (before after : W) (offer : Option (List ℕ)) (all waits : List ℕ) : Type 0 where
    pub taken : ℕ
    pub asks : Asks before after offer taken
    pub rest : first_of offer taken ++ waits ≡ all

  -- a message that was begun, or that isn't a frame, has to wait, and has no room
  pub record Overflows (before after : W) (old : Waiting) (kind : Message) (bytes : List ℕ) : Type 0 where
    pub lost : List ℕ
    pub passes : Passes before after (offered old kind bytes) (old.bytes ++ bytes) lost
    pub whole : (kind ≡ message.Response) ⊎ (0 < passes.taken)
    pub lacks : LacksRoom all_room old (length lost)

  -- why nothing waits any longer: the connection was closed; or its stream is broken; or a message has to wait and has no room
  abbrev pub Closes : W → W → Waiting → Message → List ℕ → Type 0
  Closes before after old kind bytes = (IsClosed old × (after ≡ before)) ⊎ Breaks before after (offered old kind bytes) ⊎ Overflows before after old kind bytes

  -- why a frame is dropped: the connection takes no frames; or it would have to wait, and has no room
  abbrev pub Drops : Waiting → Message → List ℕ → Type 0
  Drops old kind bytes = (kind ≡ message.Frame) × ((takes old.condition kind ≡ false) ⊎ LacksRoom frame_room old (length (old.bytes ++ bytes)))

  -- a message waits in its room, or is a frame of which the stream took a part
  abbrev pub HasRoom : Message → ℕ → Waiting → Type 0
  HasRoom kind taken new = (length new.bytes ≤ room_of kind + new.lent) ⊎ (0 < taken)

  -- what came of a message: it is taken or waits, whole; or nothing of it; or nothing waits any longer
  abbrev pub Puts : W → W → Waiting → Message → List ℕ → Waiting → Put → Type 0
  Puts before after old kind bytes new put.Sent = Passes before after (offered old kind bytes) (old.bytes ++ bytes) new.bytes × (new.bytes ≡ []) × IsAlike old new
  Puts before after old kind bytes new put.Kept = (p : Passes before after (offered old kind bytes) (old.bytes ++ bytes) new.bytes) × HasRoom kind p.taken new × IsAlike old new
  Puts before after old kind bytes new put.Dropped = Passes before after (offered old kind bytes) old.bytes new.bytes × Drops old kind bytes × IsAlike old new
  Puts before after old kind bytes new put.Closed = IsShut new × Closes before after old kind bytes

  -- what waited was taken as far as it went: so many bytes are left, and the moment is noted where any were taken
  pub record Flushed (before after : W) (old new : Waiting) (now left : ℕ) : Type 0 where
    pub passes : Passes before after (flushed old.bytes) old.bytes new.bytes
    pub count : left ≡ length new.bytes
    pub alike : IsAlike old new
    pub progress : 0 < passes.taken → new.since ≡ now
    pub none : passes.taken ≡ 0 → new.since ≡ old.since

  -- why nothing waits any longer: the connection was closed, or its stream is broken
  abbrev pub Ends : W → W → Waiting → Type 0
  Ends before after old = (IsClosed old × (after ≡ before)) ⊎ Breaks before after (flushed old.bytes)

-- what came of a message of which nothing is written: it waits, or only what waited before, or nothing any longer
abbrev pub Holds : Waiting → Message → List ℕ → Waiting → Put → Type 0
Holds old kind bytes new put.Sent = ⊥
Holds old kind bytes new put.Kept = (new.bytes ≡ old.bytes ++ bytes) × (length new.bytes ≤ room_of kind + new.lent) × IsAlike old new
Holds old kind bytes new put.Dropped = (kind ≡ message.Frame) × (new.bytes ≡ old.bytes) × LacksRoom frame_room old (length (old.bytes ++ bytes)) × IsAlike old new
Holds old kind bytes new put.Closed = (kind ≡ message.Response) × IsShut new × LacksRoom all_room old (length (old.bytes ++ bytes))

-- what is lent is what it was; or a frame waits, in the room for frames, and what waits beyond that of each connection is lent
abbrev pub Borrows : Waiting → Message → Waiting → Type 0
Borrows old kind new = (new.lent ≡ old.lent) ⊎ ((kind ≡ message.Frame) × (frame_room + new.lent ≡ length new.bytes) × (length new.bytes ≤ new.room))

-- what is lent after a message: a closed connection has nothing
abbrev pub Lends : Waiting → Message → Waiting → Put → Type 0
Lends old kind new put.Sent = new.lent ≡ old.lent
Lends old kind new put.Kept = Borrows old kind new
Lends old kind new put.Dropped = new.lent ≡ old.lent
Lends old kind new put.Closed = new.lent ≡ 0

-- bytes wait, and for more than 10 s none was written, or for more than 30 s it isn't paid
pub record IsStalled (w : Waiting) (now : ℕ) : Type 0 where
  pub open_still : w.condition ≢ condition.Closed
  pub waits : w.bytes ≢ []
  pub limit : (w.since + 10000 < now) ⊎ (w.paid + 30000 < now)
