-- One challenge behind the other.
use Rattle.std.proofs.Common.{◌≡◌, List, [], ◌∷◌, ◌++◌, map, ap, sym, ◌∙◌, append_assoc}
use Rattle.std.proofs.lemmas.Result.{on_ok_weaker}
use Rattle.rtsp_grammar.specs.Header.{HeaderText}
use Rattle.rtsp_credentials.specs.Challenge.{algorithms_offered}
use Rattle.rtsp_credentials.specs.declared.algorithm.Algorithm.TheVariants.{Md5, Sha256}
use Rattle.rtsp_credentials.specs.declared.users.Offer.{Offer}
use Rattle.rtsp_guard.specs.Refusing.{challenge_line}
use Rattle.rtsp_guard.proofs.refusing.push_challenges.Goals as goal

pub returns-in_ok-push_challenge-in-Both : goal.returns-in_ok-push_challenge-in-Both
returns-in_ok-push_challenge-in-Both c = on_ok_weaker c.push_challenge-in-Both-2.result (λ second.
    second ∙ ap (λ (hs : List HeaderText). hs ++ challenge_line c.args.users.now c.args.gate.now c.args.refusal Md5 ∷ []) c.in_ok-push_challenge-in-Both.ensures
    ∙ append_assoc c.args.headers.now.headers (challenge_line c.args.users.now c.args.gate.now c.args.refusal Sha256 ∷ []) (challenge_line c.args.users.now c.args.gate.now c.args.refusal Md5 ∷ [])
    ∙ ap (λ (o : Offer). c.args.headers.now.headers ++ map (challenge_line c.args.users.now c.args.gate.now c.args.refusal) (algorithms_offered o)) (sym c.in-Both.is)) c.push_challenge-in-Both-2.ensures
