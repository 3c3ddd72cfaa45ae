use Rattle.std.proofs.Common.{◌≡◌, rules, subst}
use Rattle.std.proofs.lemmas.Result.{IfOk-weaker}
use Rattle.clap.specs.Words.{AddsSubcommand, AddsInTurn, app_of}
use Rattle.rtsp_command_line.specs.CommandLine.{alone}
use Rattle.rtsp_command_line.proofs.Chains.{program}
use Rattle.rtsp_command_line.proofs.command_line.command.Goals as goal

pub returns : goal.returns
returns c =
    let start = c.subcommand_required.result in
    let is_alone : app_of start ≡ alone = search rules in
    IfOk-weaker c.subcommands.result _ _ (λ whole adds. program start c.in_ok-stdio.stdio c.in_ok-audit.audit c.in_ok-serve.serve c.in_ok-check.check whole
    (subst (λ subs. AddsInTurn AddsSubcommand start subs whole) c.in_ok-subcommands.ensures.items adds)
    is_alone c.in_ok-stdio.ensures.app c.in_ok-audit.ensures.app c.in_ok-serve.ensures.app c.in_ok-check.ensures.app
    c.in_ok-stdio.ensures.local c.in_ok-audit.ensures.local c.in_ok-serve.ensures.local c.in_ok-check.ensures.local)
    c.subcommands.ensures
