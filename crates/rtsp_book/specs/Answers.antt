-- How one call answers a step after a journal, for all that act on a book.
use Rattle.std.specs.Prelude.{◌≡◌, ◌⊎◌, ℕ, List, [], ◌∷◌, IsTrue, Result, Ok, Err}
use Rattle.rtsp_record.specs.declared.holdings.Whole.{Whole}
use Rattle.rtsp_record.specs.declared.changes.Entry.{Entry}
use Rattle.rtsp_record.specs.declared.changes.Record.{Record}
use Rattle.rtsp_book.specs.declared.steps.Step.{Step}
use Rattle.rtsp_book.specs.declared.refusals.Refusal.{Refusal}
use Rattle.rtsp_book.specs.declared.refusals.Refusal.TheVariants.{OutOfMemory}
use Rattle.rtsp_book.specs.Replies.{reply, is_growing}
use Rattle.rtsp_book.specs.Kept.{History, extended}

-- the answer is one record at least
abbrev pub MakesRecords : Result (List Record) Refusal → Type 0
MakesRecords (Ok []) = ⊥
MakesRecords (Ok (r ∷ rs)) = Unit {0}
MakesRecords (Err f) = ⊥

-- the answer is the reply; only a growing step that would be recorded may find no memory
abbrev pub Answers : Whole → List Entry → Step → Result (List Record) Refusal → Type 0
Answers w j step (Ok made) = reply w j step ≡ Ok made
Answers w j step (Err refusal) = (reply w j step ≡ Err refusal) ⊎ ((refusal ≡ OutOfMemory) × IsTrue (is_growing step) × MakesRecords (reply w j step))

-- what an answer records: nothing at a refusal
abbrev pub written : Result (List Record) Refusal → List Record
written (Ok made) = made
written (Err refusal) = []

-- the history after an answer to an actor: with its records at the end, or as it was at a refusal
abbrev pub noted_by : ℕ → History → Result (List Record) Refusal → History
noted_by actor h (Ok made) = extended h actor made
noted_by actor h (Err refusal) = h
