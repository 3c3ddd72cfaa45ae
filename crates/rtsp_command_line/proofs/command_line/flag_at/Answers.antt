use Rattle.std.proofs.Common.{◌≡◌, ◌∙◌, rules, option_map}
use Rattle.clap.specs.Words.{first_of, rows_of, found_of}
use Rattle.clap.proofs.WalkLemmas.{first_value-rows}
use Rattle.rtsp_command_line.proofs.command_line.flag_at.Goals as goal

pub returns-in-Some : goal.returns-in-Some
returns-in-Some c =
    let f = found_of c.args.matches.now in
    let word : option_map (λ s. s.now) c.get_str.result ≡ first_of c.args.name.now (rows_of f) = c.get_str.ensures ∙ first_value-rows f c.args.name.now in
    rw (← word) (search rules)

pub returns-in-None : goal.returns-in-None
returns-in-None c =
    let f = found_of c.args.matches.now in
    let word : option_map (λ s. s.now) c.get_str.result ≡ first_of c.args.name.now (rows_of f) = c.get_str.ensures ∙ first_value-rows f c.args.name.now in
    rw (← word) (search rules)
