use Rattle.std.proofs.Common.{◌≡◌, ◌∙◌, codes, refl, option_map}
use Rattle.clap.specs.Words.{first_of, rows_of, found_of}
use Rattle.clap.proofs.WalkLemmas.{first_value-rows}
use Rattle.rtsp_command_line.proofs.command_line.stdio_in.Goals as goal

pub returns : goal.returns
returns c =
    let f = found_of c.args.matches.now in
    let config : option_map (λ s. s.now) c.get_str.result ≡ first_of (codes "config") (rows_of f) = c.get_str.ensures ∙ first_value-rows f (codes "config") in
    let journal : option_map (λ s. s.now) c.get_str-2.result ≡ first_of (codes "journal") (rows_of f) = c.get_str-2.ensures ∙ first_value-rows f (codes "journal") in
    rw (config, journal, c.flag_at.ensures) refl
