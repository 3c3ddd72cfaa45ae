use Rattle.std.proofs.Common.{◌∙◌, sym, ap}
use Rattle.rtsp_text.specs.Slices.{halves}
use Rattle.rtsp_text.proofs.SplitLemmas.{split_parts}
use Rattle.rtsp_credentials.proofs.plain_front.quoted.Goals as goal

pub is_plain-requires : goal.is_plain-requires
is_plain-requires c = (split_parts 34 c.args.rest.now (c.in_ok-value.value.now, c.in_ok-value.behind.now) (sym c.split_once.ensures ∙ ap halves c.in_ok-value.was)).1

pub returns-then-is_plain : goal.returns-then-is_plain
returns-then-is_plain c =
    ((split_parts 34 c.args.rest.now (c.in_ok-value.value.now, c.in_ok-value.behind.now) (sym c.split_once.ensures ∙ ap halves c.in_ok-value.was)).0, sym c.is_plain.ensures ∙ c.if-is_plain.true)
