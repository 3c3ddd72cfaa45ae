-- The value of the header is the challenge.
use Rattle.std.proofs.Common.{◌≡◌, ℕ, List, [], ◌∷◌, ◌++◌, codes, ap, ◌∙◌}
use Rattle.std.proofs.lemmas.Result.{on_ok_weaker}
use Rattle.rtsp_grammar.specs.Header.{HeaderText}
use Rattle.rtsp_guard.proofs.refusing.push_challenge.Goals as goal

abbrev named : List ℕ → HeaderText
named value = record { name = codes "WWW-Authenticate"; value = value }

pub returns : goal.returns
returns c = on_ok_weaker c.push.result (λ took. took.0 ∙ ap (λ (v : List ℕ). c.args.headers.now.headers ++ named v ∷ []) (c.as_slice.ensures.value ∙ c.in_ok-value.ensures)) c.push.ensures.ok
