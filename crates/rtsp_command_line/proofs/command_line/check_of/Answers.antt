use Rattle.std.proofs.Common.{◌≡◌, ◌∙◌, codes, refl, option_map}
use Rattle.clap.specs.Words.{first_of, rows_of, found_of}
use Rattle.clap.proofs.WalkLemmas.{first_value-rows}
use Rattle.rtsp_command_line.proofs.command_line.check_of.Goals as goal

pub returns : goal.returns
returns c =
    let f = found_of c.args.matches.now in
    let listen : option_map (λ s. s.now) c.get_str.result ≡ first_of (codes "listen") (rows_of f) = c.get_str.ensures ∙ first_value-rows f (codes "listen") in
    rw listen refl
