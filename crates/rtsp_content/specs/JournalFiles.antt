-- What a configuration says of the journal's files.
use Rattle.std.specs.Prelude.{ℕ, Bool, List, codes, Option, Some, None, Ok, Err, bytes_eq, if◌then◌else◌}
use Rattle.toml.specs.Data.{Data, Members, string, get_member}
use Rattle.rtsp_content.specs.declared.fault.TableFault.TheVariants.{BadValue}
use Rattle.rtsp_content.specs.declared.journal_files.WhenFull.{WhenFull}
use Rattle.rtsp_content.specs.declared.journal_files.WhenFull.TheVariants.{Keep, Lose}
use Rattle.rtsp_content.specs.Fault.{Read}
use Rattle.rtsp_text.specs.Results.{◌>>=◌}
use Rattle.rtsp_content.specs.Keys.{number_at_or, flag_at}
use Rattle.rtsp_content.specs.declared.limits.TheConstants.{LEAST_PERIOD, MAX_PERIOD, DEFAULT_PERIOD}
use Rattle.rtsp_content.specs.JournalFilesValue.{JournalFilesValue}

-- what a word says of entries that aren't taken
abbrev pub as_when_full : Data → Read WhenFull
as_when_full (string text) = if bytes_eq text (codes "keep") then Ok Keep else (if bytes_eq text (codes "lose") then Ok Lose else Err BadValue)
as_when_full _ = Err BadValue

-- they are kept where nothing is said
abbrev pub when_full_in : Option Data → Read WhenFull
when_full_in None = Ok Keep
when_full_in (Some d) = as_when_full d

-- files in a folder, where there is one
abbrev pub files_in : Option (List ℕ) → ℕ → Bool → WhenFull → Option JournalFilesValue
files_in None period sync when_full = None
files_in (Some folder) period sync when_full = Some (record { folder = folder; period = period; sync = sync; when_full = when_full })

-- what is said of the journal's files: each second where nothing is said
abbrev pub files_of : Option (List ℕ) → Members → Read (Option JournalFilesValue)
files_of folder ms = do
  period ← number_at_or (codes "journal_period") LEAST_PERIOD MAX_PERIOD DEFAULT_PERIOD ms
  sync ← flag_at (codes "journal_sync") ms
  when_full ← when_full_in (get_member (codes "journal_when_full") ms)
  Ok (files_in folder period sync when_full)
