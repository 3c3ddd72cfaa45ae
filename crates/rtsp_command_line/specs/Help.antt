-- The words that are a call for help.
use Rattle.std.specs.Prelude.{List, [], ◌∷◌, codes, Bool, Option, Some, None, bytes_eq, if◌then◌else◌, ◌||◌, ◌&&◌}
use Rattle.clap.specs.Words.{Text}
use Rattle.rtsp_command_line.specs.declared.help.Help.{Help}
use Rattle.rtsp_command_line.specs.declared.help.Help.TheVariants.{Usage, Version}

-- a word that asks how the program is called
abbrev pub is_call : Text → Bool
is_call word = bytes_eq word (codes "--help") || bytes_eq word (codes "-h")

-- the name of a way to call it
abbrev pub is_subcommand : Text → Bool
is_subcommand word =
    bytes_eq word (codes "serve") || bytes_eq word (codes "check") || bytes_eq word (codes "stdio") || bytes_eq word (codes "audit")

-- what the words ask of the program itself: one word, or one behind the name of a way to call it
abbrev pub help_of : List Text → Option Help
help_of [] = None
help_of (word ∷ []) =
    if is_call word then Some Usage
    else if bytes_eq word (codes "--version") then Some Version
    else None
help_of (name ∷ word ∷ []) = if is_subcommand name && is_call word then Some Usage else None
help_of (_ ∷ _ ∷ _ ∷ _) = None
