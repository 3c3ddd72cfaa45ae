-- What a command has after its subcommands were added in turn.
use Rattle.std.proofs.Common.{◌≡◌, ◌∙◌, sym, ap, [], ◌∷◌, false}
use Rattle.clap.specs.Words.{App, AddsSubcommand, AddsInTurn, app_of, with_subcommand}
use Rattle.clap.specs.declared.builder.command.Command.{Command}
use Rattle.clap.specs.declared.builder.command.Command.TheViews.{out-Command}
use Rattle.rtsp_command_line.specs.CommandLine.{stdio, audit, serve, check, alone, rtspd}

-- one subcommand more
one_more : (old sub new : Command) (before added : App) → AddsSubcommand old sub new → app_of old ≡ before → app_of sub ≡ added
    → (out-Command sub).has_globals ≡ false → app_of new ≡ with_subcommand before added.top
one_more old sub new before added adds is_before is_added local =
    adds.shape local
    ∙ (ap (λ a. with_subcommand (app_of old) a.top) is_added ∙ ap (λ a. with_subcommand a added.top) is_before)

-- the four of the program
pub program : (start first second third fourth whole : Command) → AddsInTurn AddsSubcommand start (first ∷ second ∷ third ∷ fourth ∷ []) whole
    → app_of start ≡ alone → app_of first ≡ stdio → app_of second ≡ audit → app_of third ≡ serve → app_of fourth ≡ check
    → (out-Command first).has_globals ≡ false → (out-Command second).has_globals ≡ false → (out-Command third).has_globals ≡ false
    → (out-Command fourth).has_globals ≡ false → app_of whole ≡ rtspd
program start first second third fourth whole adds is_start is_first is_second is_third is_fourth local-1 local-2 local-3 local-4 =
    let one = one_more start first adds.0 alone stdio adds.1 is_start is_first local-1 in
    let two = one_more adds.0 second adds.2.0 _ audit adds.2.1 one is_second local-2 in
    let three = one_more adds.2.0 third adds.2.2.0 _ serve adds.2.2.1 two is_third local-3 in
    ap app_of (sym adds.2.2.2.2) ∙ one_more adds.2.2.0 fourth adds.2.2.2.0 _ check adds.2.2.2.1 three is_fourth local-4
