use Rattle.std.proofs.Common.{◌∙◌, sym, ap, Some, None}
use Rattle.std.proofs.lemmas.List.{append-nil}
use Rattle.rtsp_text.specs.Slices.{halves}
use Rattle.rtsp_text.proofs.SplitLemmas.{split_parts}
use Rattle.rtsp_credentials.proofs.Fronts.{token_ends}
use Rattle.rtsp_credentials.proofs.plain_front.token_front.Goals as goal

pub returns-then-is_token : goal.returns-then-is_token
returns-then-is_token c = token_ends c.args.text.now c.args.text.now None (sym (append-nil c.args.text.now)) (sym c.is_token.ensures ∙ c.if-is_token.true)

pub returns-then-is_token-2 : goal.returns-then-is_token-2
returns-then-is_token-2 c =
    token_ends c.args.text.now c.in-Some.value.now (Some c.in-Some.left.now)
    (split_parts 44 c.args.text.now (c.in-Some.value.now, c.in-Some.left.now) (sym c.split_once.ensures ∙ ap halves c.in-Some.is)).0 (sym c.is_token-in-Some.ensures ∙ c.if-is_token-2.true)
