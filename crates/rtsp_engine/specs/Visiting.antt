-- What one visit to a connection has read, answered and written, where neither reading nor writing waits.
use Rattle.std.specs.Prelude.{◌≡◌, ◌<◌, ◌≤◌, ◌*◌, ◌⊎◌, ℕ, List, [], length, take, Option, Some, None, Result, Ok, Err}
use Rattle.std.specs.Io.KnownBytes.{Appends, Consumes, Keeps, IsAtEnd}
use Rattle.rtsp_record.specs.Counters.{raised}
use Rattle.rtsp_grammar.specs.Answer.{IsUndecided}
use Rattle.rtsp_grammar.specs.declared.message.Item.{Item}
use Rattle.rtsp_engine.specs.Causes.{WriteFails}
use Rattle.rtsp_engine.specs.Served.{Line, Parts, Progress, LastBreaksOff, Tells}
use Rattle.rtsp_engine.specs.Streams.{WritesPart}
use Rattle.rtsp_engine.specs.declared.serving.ServeEnd.{ServeEnd}
use Rattle.rtsp_engine.specs.declared.serving.ServeEnd.TheVariants as serve
use Rattle.rtsp_engine.specs.declared.visiting.Reading.{Reading}
use Rattle.rtsp_engine.specs.declared.visiting.Reading.TheVariants as reading
use Rattle.rtsp_engine.specs.declared.visiting.VisitEnd.{VisitEnd}
use Rattle.rtsp_engine.specs.declared.visiting.VisitEnd.TheVariants.{More, Waits, Closed, ReadFault, WriteFault, Fault}

-- what a read takes from what a reader will give, into the front of a buffer
abbrev pub Reads : Option (List ℕ) → Option (List ℕ) → Reading → List ℕ → Type 0
Reads old new (reading.Bytes n) buffer = (0 < n) × (n ≤ length buffer) × Consumes old new (take n buffer)
Reads old new reading.Nothing buffer = Keeps old new
Reads old new reading.End buffer = Keeps old new × (0 < length buffer → IsAtEnd new)
Reads old new reading.Broken buffer = Keeps old new

-- a broken reader is counted, and nothing else is
abbrev pub ReadsCounted : ℕ → ℕ → Reading → Type 0
ReadsCounted old new (reading.Bytes n) = new ≡ old
ReadsCounted old new reading.Nothing = new ≡ old
ReadsCounted old new reading.End = new ≡ old
ReadsCounted old new reading.Broken = new ≡ raised old

-- a piece came, into the front of a buffer
pub record Came (old new : Option (List ℕ)) (n : ℕ) (buffer : List ℕ) : Type 0 where
  pub some : 0 < n
  pub within : n ≤ length buffer
  pub read : Consumes old new (take n buffer)

-- the ends of a visit to which no further piece came
abbrev pub FindsNone : VisitEnd → Type 0
FindsNone Waits = Unit {0}
FindsNone Closed = Unit {0}
FindsNone ReadFault = Unit {0}
FindsNone end = ⊥

-- what is known of the parts: what the reader will give, what the writer holds, and what is served
abbrev pub sides : {I O A S : Type 0} → (I → Option (List ℕ)) → (O → Option (List ℕ)) → (A → S) → Parts I O A → Line S
sides remaining contents serving p = record { unread = remaining p.reader; output = record { text = contents p.writer; answerer = serving p.answerer } }

-- answers that were gathered are written, or they wait on
abbrev pub Moves : Option (List ℕ) → List ℕ → Option (List ℕ) → List ℕ → Type 0
Moves wrote text writes left = ((writes ≡ wrote) × (left ≡ text)) ⊎ (Appends wrote writes text × (left ≡ []))

-- answers are delivered, or wait on; or the visit ends with them, where no more is to be read, or only a part of them can be written
abbrev pub Delivers : Option VisitEnd → Option (List ℕ) → List ℕ → Option (List ℕ) → List ℕ → Type 0
Delivers None wrote text writes left = Moves wrote text writes left
Delivers (Some More) wrote text writes left = Appends wrote writes text
Delivers (Some WriteFault) wrote text writes left = WritesPart wrote writes text
Delivers (Some end) wrote text writes left = ⊥

-- how a visit ends, where the last answers were to be written before that end
abbrev pub ended : {E : Type 0} → Result (Unit {0}) E → VisitEnd → VisitEnd
ended (Ok done) end = end
ended (Err fault) end = WriteFault

-- the same end of a connection whose reading and writing wait
abbrev pub serve_end : VisitEnd → ServeEnd
serve_end More = serve.TurnsSpent
serve_end Waits = serve.TurnsSpent
serve_end Closed = serve.Closed
serve_end ReadFault = serve.ReadFault
serve_end WriteFault = serve.WriteFault
serve_end (Fault fault) = serve.Fault fault

-- the writer's count at an end
abbrev pub CountsWrite : VisitEnd → ℕ → ℕ → Type 0
CountsWrite end old new = WriteFails (serve_end end) old new

-- that after answers were delivered
abbrev pub CountsDelivery : Option VisitEnd → ℕ → ℕ → Type 0
CountsDelivery None old new = new ≡ old
CountsDelivery (Some end) old new = CountsWrite end old new

-- the reader's count at an end; where writing failed, it may have been broken too
abbrev pub CountsRead : VisitEnd → ℕ → ℕ → Type 0
CountsRead ReadFault old new = new ≡ raised old
CountsRead More old new = new ≡ old
CountsRead Waits old new = new ≡ old
CountsRead Closed old new = new ≡ old
CountsRead WriteFault old new = Unit {0}
CountsRead (Fault fault) old new = new ≡ old

-- where the input has ended, the reader has no byte left for a buffer of this length
abbrev pub ClosesAtEnd : VisitEnd → ℕ → Option (List ℕ) → Type 0
ClosesAtEnd Closed room left = 0 < room → IsAtEnd left
ClosesAtEnd More room left = Unit {0}
ClosesAtEnd Waits room left = Unit {0}
ClosesAtEnd ReadFault room left = Unit {0}
ClosesAtEnd WriteFault room left = Unit {0}
ClosesAtEnd (Fault fault) room left = Unit {0}

-- where there may be more to read some bytes were read, unless no piece was allowed
abbrev pub ReadsSome : VisitEnd → ℕ → List ℕ → Type 0
ReadsSome More pieces bytes = 0 < pieces → 0 < length bytes
ReadsSome Waits pieces bytes = Unit {0}
ReadsSome Closed pieces bytes = Unit {0}
ReadsSome ReadFault pieces bytes = Unit {0}
ReadsSome WriteFault pieces bytes = Unit {0}
ReadsSome (Fault fault) pieces bytes = Unit {0}

-- no more bytes were read than so many pieces of this length hold
pub record ReadsPieces (end : VisitEnd) (pieces room : ℕ) (unread left : Option (List ℕ)) : Type 0 where
  pub bytes : List ℕ
  pub read : Consumes unread left bytes
  pub most : length bytes ≤ pieces * room
  pub some : ReadsSome end pieces bytes

module _ {S : Type 0} (R : S → Item → List ℕ → S → Type 0) (L : S → Item → S → Type 0) where
  -- from a held start on, bytes were read; the items that they made whole were answered, and the answers are written; a rest is held,
  -- which is undecided, as the start was
  pub record Goes (start rest : List ℕ) (s t : Line S) : Type 0 where
    pub progress : Progress R L start rest s t
    pub undecided : IsUndecided start → IsUndecided rest

  -- what a visit did, from a held start on
  abbrev pub Visits : List ℕ → List ℕ → VisitEnd → Line S → Line S → Type 0
  Visits start rest More s t = Goes start rest s t
  Visits start rest Waits s t = Goes start rest s t
  Visits start rest Closed s t = Goes start rest s t
  Visits start rest ReadFault s t = Goes start rest s t
  Visits start rest WriteFault s t = LastBreaksOff R L start s t
  Visits start rest (Fault fault) s t = Tells R L start fault s t

  -- a visit after which the connection went on, and whatever the next one did, are together one visit
  abbrev pub VisitsChain : Type 0
  VisitsChain = (start held rest : List ℕ) (end : VisitEnd) (s t u : Line S) → Goes start held s t → Visits held rest end t u → Visits start rest end s u
