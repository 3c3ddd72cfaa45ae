-- How a program ends.
use Rattle.std.specs.Prelude.{ℕ}
use Rattle.rtsp_command_line.specs.declared.exit.Exit.{Exit}
use Rattle.rtsp_command_line.specs.declared.exit.Exit.TheVariants.{Done, BadCommandLine, BadConfiguration, NotARecord, NotAllowed, JournalTooLong, FewDescriptors, JournalLeft, DeviceFailed, BadMessage, OutOfMemory}

-- the status that the process ends with
abbrev pub status_of : Exit → ℕ
status_of Done = 0
status_of BadCommandLine = 1
status_of BadConfiguration = 1
status_of (NotARecord entry) = 2
status_of (NotAllowed entry) = 3
status_of JournalTooLong = 3
status_of (FewDescriptors wanted ports others limit) = 4
status_of (JournalLeft file entries) = 4
status_of DeviceFailed = 4
status_of BadMessage = 5
status_of OutOfMemory = 6
