-- The files of the journal, as contracts see them.
use Rattle.std.specs.Prelude.{ℕ, ◌≤◌, Bool, List}
use Rattle.rtsp_content.specs.declared.journal_files.WhenFull.{WhenFull}
use Rattle.rtsp_content.specs.declared.limits.TheConstants.{LEAST_PERIOD, MAX_PERIOD}

pub record JournalFilesValue : Type 0 where
  pub folder : List ℕ
  pub period : ℕ
  pub sync : Bool
  pub when_full : WhenFull

-- milliseconds from one writing to the next
abbrev pub IsPeriod : ℕ → Type 0
IsPeriod period = (LEAST_PERIOD ≤ period) × (period ≤ MAX_PERIOD)
