-- What a connection has written, from what it has read. `R old item answer new` says how one item is answered: with which
-- bytes, and who then takes the answerer's place. `L old item new` says what may have been done where memory ran out, and the
-- item has no answer. Readers and writers are spoken of by what they are known to give and to hold.
use Rattle.std.specs.Prelude.{◌≡◌, ◌⊎◌, ℕ, List, [], ◌∷◌, ◌++◌, Option, Some, None, Result, Ok, Err}
use Rattle.std.specs.Io.KnownBytes.{Appends, Consumes}
use Rattle.rtsp_grammar.specs.Answer.{Decides, IsUndecided, HasFault}
use Rattle.rtsp_grammar.specs.Item.{Spells}
use Rattle.rtsp_grammar.specs.declared.fault.MessageFault.{MessageFault}
use Rattle.rtsp_grammar.specs.declared.fault.MessageFault.TheVariants as faults
use Rattle.rtsp_grammar.specs.declared.message.Item.{Item}
use Rattle.rtsp_state.specs.Room.{RoomText}
use Rattle.rtsp_engine.specs.FaultResponses.{fault_response}
use Rattle.rtsp_engine.specs.Streams.{WritesPart}
use Rattle.rtsp_engine.specs.declared.serving.ServeEnd.{ServeEnd}
use Rattle.rtsp_engine.specs.declared.serving.ServeEnd.TheVariants.{Closed, ReadFault, WriteFault, Fault, TurnsSpent}

-- such bytes are put behind what is there
pub record Puts (Is : List ℕ → Type 0) (old new : List ℕ) : Type 0 where
  pub bytes : List ℕ
  pub is : Is bytes
  pub text : new ≡ old ++ bytes

-- what is known of where answers are written, and who answers
pub record Output (S : Type 0) : Type 0 where
  pub text : Option (List ℕ)
  pub answerer : S

-- what is known of what a reader will give, and the other side
pub record Line (S : Type 0) : Type 0 where
  pub unread : Option (List ℕ)
  pub output : Output S

-- who reads, who is written to, and who answers
pub record Parts (I O S : Type 0) : Type 0 where
  pub reader : I
  pub writer : O
  pub answerer : S

-- answers are gathered in a room
abbrev pub at : {S : Type 0} → RoomText → S → Output S
at room answerer = record { text = Some room.text; answerer = answerer }

abbrev pub parts : {I O S : Type 0} → I → O → S → Parts I O S
parts reader writer answerer = record { reader = reader; writer = writer; answerer = answerer }

-- what is known of the parts, from what a reader will give and what a writer holds
abbrev pub line : {I O S : Type 0} → (I → Option (List ℕ)) → (O → Option (List ℕ)) → Parts I O S → Line S
line remaining contents p = record { unread = remaining p.reader; output = record { text = contents p.writer; answerer = p.answerer } }

-- the same answerer, where other text is known
abbrev pub with_text : {S : Type 0} → Option (List ℕ) → Output S → Output S
with_text text s = record { text = text; answerer = s.answerer }

-- the same text, and another answerer
abbrev pub answered_by : {S : Type 0} → S → Output S → Output S
answered_by answerer s = record { text = s.text; answerer = answerer }

-- a line whose other side is this
abbrev pub with_output : {S : Type 0} → Output S → Line S → Line S
with_output output s = record { unread = s.unread; output = output }

-- answers were written, and then what is said of a fault
pub record TellsFault (fault : MessageFault) (text : List ℕ) (wrote writes : Option (List ℕ)) : Type 0 where
  pub between : Option (List ℕ)
  pub answers : Appends wrote between text
  pub told : Appends between writes (fault_response fault)

-- the same, where what is said could be written in part only
pub record TellsPart (fault : MessageFault) (text : List ℕ) (wrote writes : Option (List ℕ)) : Type 0 where
  pub between : Option (List ℕ)
  pub answers : Appends wrote between text
  pub part : WritesPart between writes (fault_response fault)

-- what is written after a piece was pushed, and how the connection ends then, if it does
abbrev pub Written : Option ServeEnd → Result (Unit {0}) MessageFault → List ℕ → Option (List ℕ) → Option (List ℕ) → Type 0
Written None (Ok done) text wrote writes = Appends wrote writes text
Written None (Err fault) text wrote writes = ⊥
Written (Some (Fault told)) (Err fault) text wrote writes = (told ≡ fault) × TellsFault fault text wrote writes
Written (Some WriteFault) (Err fault) text wrote writes = WritesPart wrote writes text ⊎ TellsPart fault text wrote writes
Written (Some WriteFault) (Ok done) text wrote writes = WritesPart wrote writes text
Written (Some end) pushed text wrote writes = ⊥

module _ {S : Type 0} (R : S → Item → List ℕ → S → Type 0) (L : S → Item → S → Type 0) where
  -- one more item is answered, after earlier ones
  pub record ServedNext (earlier : List ℕ → S → List ℕ → S → Type 0) (item : Item) (bytes : List ℕ) (old : S) (output : List ℕ) (new : S) : Type 0 where
    pub front : List ℕ
    pub back : List ℕ
    pub first : List ℕ
    pub last : List ℕ
    pub mid : S
    pub before : earlier front old first mid
    pub spelled : Spells back item
    pub answer : R mid item last new
    pub parts : bytes ≡ front ++ back
    pub answers : output ≡ first ++ last

  -- these items, the newest first, are what the bytes spell, and each was answered in its turn
  abbrev pub Served : List Item → List ℕ → S → List ℕ → S → Type 0
  Served [] bytes old output new = (bytes ≡ []) × (output ≡ []) × (new ≡ old)
  Served (item ∷ before) bytes old output new = ServedNext (Served before) item bytes old output new

  -- bytes were items and a rest, and the items were answered
  pub record Answered (bytes rest : List ℕ) (s t : Output S) : Type 0 where
    pub items : List Item
    pub done : List ℕ
    pub output : List ℕ
    pub parts : bytes ≡ done ++ rest
    pub written : Appends s.text t.text output
    pub served : Served items done s.answerer output t.answerer

  -- from a held start on, bytes were read; they were items, which have been answered, and a rest
  pub record Progress (start rest : List ℕ) (s t : Line S) : Type 0 where
    pub bytes : List ℕ
    pub read : Consumes s.unread t.unread bytes
    pub answered : Answered (start ++ bytes) rest s.output t.output

  -- memory ran out over the item at the front, which has no answer
  pub record IsGivenUp (rest : List ℕ) (old new : S) : Type 0 where
    pub item : Item
    pub size : ℕ
    pub stands : Decides rest (Ok (item, size))
    pub left : L old item new

  -- what is at the front has the fault; or memory ran out, over the item at the front or before it was read
  abbrev pub Faulted : List ℕ → MessageFault → S → S → Type 0
  Faulted rest fault old new = (HasFault rest fault × (new ≡ old)) ⊎ ((fault ≡ faults.OutOfMemory) × ((new ≡ old) ⊎ IsGivenUp rest old new))

  -- items were answered, and then there was a fault
  pub record FaultedAfter (bytes : List ℕ) (fault : MessageFault) (s t : Output S) : Type 0 where
    pub rest : List ℕ
    pub mid : S
    pub answered : Answered bytes rest s (answered_by mid t)
    pub faulted : Faulted rest fault mid t.answerer

  -- the answers to the items are gathered in one text, perhaps with a fault after them
  abbrev pub Gathered : List ℕ → List ℕ → S → S → Type 0
  Gathered bytes text old new =
      let empty : Output S = record { text = Some []; answerer = old } in
      let full : Output S = record { text = Some text; answerer = new } in
      ((rest : List ℕ) × Answered bytes rest empty full) ⊎ ((fault : MessageFault) × FaultedAfter bytes fault empty full)

  -- that text could be written in part only
  pub record AnswersCut (bytes : List ℕ) (s t : Output S) : Type 0 where
    pub text : List ℕ
    pub gathered : Gathered bytes text s.answerer t.answerer
    pub part : WritesPart s.text t.text text

  -- the answers were written, and what is said of a fault could be in part only
  pub record FaultCut (bytes : List ℕ) (s t : Output S) : Type 0 where
    pub between : Option (List ℕ)
    pub fault : MessageFault
    pub faulted : FaultedAfter bytes fault s (with_text between t)
    pub part : WritesPart between t.text (fault_response fault)

  abbrev pub BreaksOff : List ℕ → Output S → Output S → Type 0
  BreaksOff bytes s t = AnswersCut bytes s t ⊎ FaultCut bytes s t

  -- the answers to the items that a last read made whole could be written in part only
  pub record LastBreaksOff (start : List ℕ) (s t : Line S) : Type 0 where
    pub held : List ℕ
    pub between : Line S
    pub before : Progress start held s between
    pub piece : List ℕ
    pub read : Consumes between.unread t.unread piece
    pub breaks : BreaksOff (held ++ piece) between.output t.output

  -- there was a fault, and the client was told
  pub record Tells (start : List ℕ) (fault : MessageFault) (s t : Line S) : Type 0 where
    pub rest : List ℕ
    pub between : Output S
    pub progress : Progress start rest s (with_output between t)
    pub faulted : Faulted rest fault between.answerer t.output.answerer
    pub told : Appends between.text t.output.text (fault_response fault)

  -- an end between two items, or inside one
  pub record Rests (start : List ℕ) (s t : Line S) : Type 0 where
    pub rest : List ℕ
    pub progress : Progress start rest s t
    pub undecided : IsUndecided rest

  -- how a connection has ended, from a held start on
  abbrev pub EndsFrom : List ℕ → ServeEnd → Line S → Line S → Type 0
  EndsFrom start Closed s t = Rests start s t
  EndsFrom start ReadFault s t = Rests start s t
  EndsFrom start TurnsSpent s t = Rests start s t
  EndsFrom start WriteFault s t = LastBreaksOff start s t
  EndsFrom start (Fault fault) s t = Tells start fault s t

  -- how one has ended from which nothing had come
  abbrev pub Ends : {I O : Type 0} → (I → Option (List ℕ)) → (O → Option (List ℕ)) → ServeEnd → Parts I O S → Parts I O S → Type 0
  Ends remaining contents end s t = EndsFrom [] end (line remaining contents s) (line remaining contents t)

  -- a fault after these bytes, of which the client was told
  pub record TellsHere (bytes : List ℕ) (fault : MessageFault) (s t : Output S) : Type 0 where
    pub between : Option (List ℕ)
    pub faulted : FaultedAfter bytes fault s (with_text between t)
    pub told : Appends between t.text (fault_response fault)

  -- an end without a further read
  abbrev pub EndsHere : List ℕ → ServeEnd → Output S → Output S → Type 0
  EndsHere bytes WriteFault s t = BreaksOff bytes s t
  EndsHere bytes (Fault fault) s t = TellsHere bytes fault s t
  EndsHere bytes end s t = ⊥
