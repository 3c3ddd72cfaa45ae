use Rattle.std.proofs.Common.{◌≡◌, ◌∙◌, codes, rules, option_map}
use Rattle.clap.specs.Words.{first_of, rows_of, found_of}
use Rattle.clap.proofs.WalkLemmas.{first_value-rows}
use Rattle.rtsp_command_line.proofs.command_line.serve_in.Goals as goal

pub returns-in_err-config : goal.returns-in_err-config
returns-in_err-config c =
    let f = found_of c.args.matches.now in
    let config : option_map (λ s. s.now) c.get_str.result ≡ first_of (codes "config") (rows_of f) = c.get_str.ensures ∙ first_value-rows f (codes "config") in
    rw (← config) (search rules)

pub returns : goal.returns
returns c =
    let f = found_of c.args.matches.now in
    let config : option_map (λ s. s.now) c.get_str.result ≡ first_of (codes "config") (rows_of f) = c.get_str.ensures ∙ first_value-rows f (codes "config") in
    rw (← config) (search rules)
