-- A fault of a reader or of a writer is told where it was counted, and nowhere else; the end of the input is told where the reader
-- is at its end, and spent turns where each of them has read something.
use Rattle.std.specs.Prelude.{◌≡◌, ◌≤◌, ◌<◌, ℕ, List, length, Option, Some, None}
use Rattle.std.specs.Io.KnownBytes.{IsAtEnd, Consumes}
use Rattle.rtsp_record.specs.Counters.{raised}
use Rattle.rtsp_engine.specs.declared.serving.ServeEnd.{ServeEnd}
use Rattle.rtsp_engine.specs.declared.serving.ServeEnd.TheVariants.{Closed, ReadFault, WriteFault, Fault, TurnsSpent}

-- the reader's count at an end
abbrev pub ReadFails : ServeEnd → ℕ → ℕ → Type 0
ReadFails ReadFault old new = new ≡ raised old
ReadFails Closed old new = new ≡ old
ReadFails WriteFault old new = new ≡ old
ReadFails (Fault fault) old new = new ≡ old
ReadFails TurnsSpent old new = new ≡ old

-- the writer's count at an end
abbrev pub WriteFails : ServeEnd → ℕ → ℕ → Type 0
WriteFails WriteFault old new = new ≡ raised old
WriteFails Closed old new = new ≡ old
WriteFails ReadFault old new = new ≡ old
WriteFails (Fault fault) old new = new ≡ old
WriteFails TurnsSpent old new = new ≡ old

-- the writer's count after a turn
abbrev pub TurnWriteFails : Option ServeEnd → ℕ → ℕ → Type 0
TurnWriteFails None old new = new ≡ old
TurnWriteFails (Some end) old new = WriteFails end old new

-- the reader's count after a turn
abbrev pub TurnReadFails : Option ServeEnd → ℕ → ℕ → Type 0
TurnReadFails None old new = new ≡ old
TurnReadFails (Some end) old new = ReadFails end old new

-- where a connection closed, its reader has no byte left
abbrev pub ClosesAtEnd : ServeEnd → Option (List ℕ) → Type 0
ClosesAtEnd Closed left = IsAtEnd left
ClosesAtEnd ReadFault left = Unit {0}
ClosesAtEnd WriteFault left = Unit {0}
ClosesAtEnd (Fault fault) left = Unit {0}
ClosesAtEnd TurnsSpent left = Unit {0}

-- the same of a turn
abbrev pub TurnClosesAtEnd : Option ServeEnd → Option (List ℕ) → Type 0
TurnClosesAtEnd None left = Unit {0}
TurnClosesAtEnd (Some end) left = ClosesAtEnd end left

-- where the turns are spent, there were so many reads, each of a byte at least
abbrev pub SpendsTurns : ServeEnd → ℕ → Option (List ℕ) → Option (List ℕ) → Type 0
SpendsTurns TurnsSpent turns unread left = (bytes : List ℕ) × Consumes unread left bytes × (turns ≤ length bytes)
SpendsTurns Closed turns unread left = Unit {0}
SpendsTurns ReadFault turns unread left = Unit {0}
SpendsTurns WriteFault turns unread left = Unit {0}
SpendsTurns (Fault fault) turns unread left = Unit {0}

-- an end that a turn may tell
abbrev pub IsTold : ServeEnd → Type 0
IsTold TurnsSpent = ⊥
IsTold Closed = Unit {0}
IsTold ReadFault = Unit {0}
IsTold WriteFault = Unit {0}
IsTold (Fault fault) = Unit {0}

-- a turn after which serving goes on has read something
abbrev pub TurnReads : Option ServeEnd → Option (List ℕ) → Option (List ℕ) → Type 0
TurnReads None unread left = (bytes : List ℕ) × Consumes unread left bytes × (0 < length bytes)
TurnReads (Some end) unread left = IsTold end
