-- The command line: the words after the program's name, as a command of `clap`, and what they ask for.
use Rattle.std.specs.Prelude.{◌≡◌, ◌≢◌, ◌==◌, true, false, ℕ, List, [], ◌∷◌, fold, codes, length, Bool, Option, Some, None, option_map, option_and_then, unwrap_or, MatchOption, bytes_eq, if◌then◌else◌}
use Rattle.std.specs.List.{list_any}
use Rattle.std.specs.Option.{option_map_or}
use Rattle.std.specs.Str.Parse.{digits_value, without_leading_plus}
use Rattle.clap.specs.Words.{App, Row, Rule, Text, fault_of, subcommand_of, subcommand_rows_of, new_app, new_rule, with_rule, with_subcommand, first_of, one_of}
use Rattle.clap.specs.Simple.{on_top}
use Rattle.clap.specs.ValueTests.{accepts}
use Rattle.clap.specs.declared.builder.ArgAction.TheVariants.{Set, SetTrue}
use Rattle.clap.specs.declared.builder.value_parser.ValueParser.{ValueParser}
use Rattle.clap.specs.declared.builder.value_parser.ValueParser.TheVariants.{Unsigned}
use Rattle.clap.specs.declared.parser.matches.ArgMatches.{ArgMatches}
use Rattle.rtsp_command_line.specs.declared.command_line.CommandLine.{CommandLine}
use Rattle.rtsp_command_line.specs.declared.command_line.CommandLine.TheVariants.{Stdio, Audit, Serve, Check}

-- ---- the command

-- an option with one value
abbrev pub option_rule : Text → Rule
option_rule name = record (new_rule name) { long = Some name; action = Some Set }

-- the same, where it has to be given
abbrev pub required_rule : Text → Rule
required_rule name = record (option_rule name) { required = true }

-- the numbers that `u64` holds
abbrev pub any_number : ValueParser
any_number = Unsigned 0 18446744073709551615

-- an option with one number
abbrev pub number_rule : Text → Rule
number_rule name = record (option_rule name) { parser = Some any_number }

-- an option without a value
abbrev pub flag_rule : Text → Rule
flag_rule name = record (new_rule name) { long = Some name; action = Some SetTrue }

-- a subcommand of this name with these options
abbrev pub subcommand : Text → List Rule → App
subcommand name rules = fold with_rule (new_app name) rules

-- `stdio [--config FILE] [--journal OUT] [--forget]`
abbrev pub stdio : App
stdio = subcommand (codes "stdio") (
    option_rule (codes "config")
    ∷ option_rule (codes "journal")
    ∷ flag_rule (codes "forget")
    ∷ [])

-- `audit [--config FILE] --journal IN [--back N] [--without-session S] [--without-admission A] [--without-ended]`
abbrev pub audit : App
audit = subcommand (codes "audit") (
    option_rule (codes "config")
    ∷ required_rule (codes "journal")
    ∷ number_rule (codes "back")
    ∷ number_rule (codes "without-session")
    ∷ number_rule (codes "without-admission")
    ∷ flag_rule (codes "without-ended")
    ∷ [])

-- `serve --config FILE [--listen ADDR] [--connections N]`
abbrev pub serve : App
serve = subcommand (codes "serve") (
    required_rule (codes "config")
    ∷ option_rule (codes "listen")
    ∷ number_rule (codes "connections")
    ∷ [])

-- `check --config FILE [--listen ADDR]`
abbrev pub check : App
check = subcommand (codes "check") (
    required_rule (codes "config")
    ∷ option_rule (codes "listen")
    ∷ [])

-- the program, without its subcommands: a call for help is an unknown word, and a subcommand has to follow
abbrev pub alone : App
alone = on_top (λ s. record s {
  no_binary_name = true;
  disable_help_flag = true;
  disable_help_subcommand = true;
  subcommand_required = true;
}) (new_app (codes "rtspd"))

-- the program
abbrev pub rtspd : App
rtspd = fold with_subcommand alone (stdio.top ∷ audit.top ∷ serve.top ∷ check.top ∷ [])

-- m is what `clap` makes of the words, and without it they are refused
abbrev pub Says : List Text → Option ArgMatches → Type 0
Says words m = MatchOption m (fault_of rtspd words ≢ [])
    (λ m. (fault_of rtspd words ≡ []) × (subcommand_rows_of m ≡ subcommand_of rtspd words))

-- ---- what the words ask for

-- the number that `u64` reads of a text: one digit or more after at most one plus, of a value that fits
abbrev pub number_of : Text → Option ℕ
number_of text = if accepts false any_number text then Some (digits_value 10 (without_leading_plus text)) else None

-- the number of an option, where it stands
abbrev pub number_in : Text → List Row → Option ℕ
number_in name rows = option_and_then number_of (one_of name rows)

-- an option without a value stands: then its word is "true"
abbrev pub flag_in : Text → List Row → Bool
flag_in name rows = option_map_or (λ word. bytes_eq word (codes "true")) (first_of name rows) false

-- what a conversation is asked for: its configuration, where its journal goes, and whether ended sessions are forgotten
pub record StdioLine : Type 0 where
  pub config : Option Text
  pub journal : Option Text
  pub forget : Bool

-- what an audit is asked for: its configuration and its journal, how many entries it undoes, and the session, the
-- admission and perhaps the ended sessions that it leaves out
pub record AuditLine : Type 0 where
  pub config : Option Text
  pub journal : Text
  pub back : ℕ
  pub session : Option ℕ
  pub admission : Option ℕ
  pub ended : Bool

-- what a server is asked for: its configuration, where it listens, and how many connections it serves
pub record ServeLine : Type 0 where
  pub config : Text
  pub listen : Option Text
  pub connections : Option ℕ

-- what a look at a configuration is asked for: the configuration, and where `serve` would listen
pub record CheckLine : Type 0 where
  pub config : Text
  pub listen : Option Text

-- a command line, in texts and numbers
pub data Line : Type 0 where
  stdio_line : StdioLine → Line
  audit_line : AuditLine → Line
  serve_line : ServeLine → Line
  check_line : CheckLine → Line

-- what a contract sees of a `CommandLine`
abbrev pub line_view : CommandLine → Line
line_view (Stdio config journal forget) = stdio_line (record {
  config = option_map (λ s. s.now) config;
  journal = option_map (λ s. s.now) journal;
  forget = forget;
})
line_view (Audit config journal back without_session without_admission without_ended) = audit_line (record {
  config = option_map (λ s. s.now) config;
  journal = journal.now;
  back = back;
  session = without_session;
  admission = without_admission;
  ended = without_ended;
})
line_view (Serve config listen connections) = serve_line (record {
  config = config.now;
  listen = option_map (λ s. s.now) listen;
  connections = connections;
})
line_view (Check config listen) = check_line (record {
  config = config.now;
  listen = option_map (λ s. s.now) listen;
})

-- what the values of the options of `stdio` ask for
abbrev pub stdio_in : List Row → Line
stdio_in rows = stdio_line (record {
  config = first_of (codes "config") rows;
  journal = first_of (codes "journal") rows;
  forget = flag_in (codes "forget") rows;
})

-- and those of `audit`, with this journal; without `--back` nothing is undone
abbrev pub audit_of : List Row → Text → Line
audit_of rows journal = audit_line (record {
  config = first_of (codes "config") rows;
  journal = journal;
  back = unwrap_or (number_in (codes "back") rows) 0;
  session = number_in (codes "without-session") rows;
  admission = number_in (codes "without-admission") rows;
  ended = flag_in (codes "without-ended") rows;
})

-- the same, with the journal that the options name
abbrev pub audit_in : List Row → Option Line
audit_in rows = option_map (audit_of rows) (first_of (codes "journal") rows)

-- what the values of the options of `serve` ask for, with this configuration
abbrev pub serve_of : List Row → Text → Line
serve_of rows config = serve_line (record {
  config = config;
  listen = first_of (codes "listen") rows;
  connections = number_in (codes "connections") rows;
})

-- the same, with the configuration that the options name
abbrev pub serve_in : List Row → Option Line
serve_in rows = option_map (serve_of rows) (first_of (codes "config") rows)

-- what the values of the options of `check` ask for, with this configuration
abbrev pub check_of : List Row → Text → Line
check_of rows config = check_line (record {
  config = config;
  listen = first_of (codes "listen") rows;
})

-- the same, with the configuration that the options name
abbrev pub check_in : List Row → Option Line
check_in rows = option_map (check_of rows) (first_of (codes "config") rows)

-- the line of a subcommand, by the values of its options
abbrev pub line_in : Text → List Row → Option Line
line_in name rows =
    if bytes_eq name (codes "stdio") then Some (stdio_in rows)
    else if bytes_eq name (codes "audit") then audit_in rows
    else if bytes_eq name (codes "serve") then serve_in rows
    else if bytes_eq name (codes "check") then check_in rows
    else None

-- one of the words is `--`
abbrev pub has_dashes : List Text → Bool
has_dashes words = list_any (λ w. bytes_eq w (codes "--")) words

-- the line of the subcommand that the words name, where they are taken
abbrev pub line_if : Bool → List Text → Option Line
line_if true words = option_and_then (λ p. line_in p.0 p.1) (subcommand_of rtspd words)
line_if false words = None

-- the line that the words are: none where one of them is `--`, and none where `clap` refuses them
abbrev pub line_of : List Text → Option Line
line_of words = if has_dashes words then None else line_if (length (fault_of rtspd words) == 0) words
