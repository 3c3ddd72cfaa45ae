-- The files of the journal, as their fields give them.
use Rattle.std.specs.Prelude.{string_bytes}
use Rattle.rtsp_content.specs.declared.journal_files.JournalFiles.TheInside.{Inside}
use Rattle.rtsp_content.specs.JournalFilesValue.{JournalFilesValue}

abbrev pub files_value : Inside → JournalFilesValue
files_value f = record { folder = string_bytes f.folder; period = f.period; sync = f.sync; when_full = f.when_full }
