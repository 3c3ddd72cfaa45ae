use Rattle.std.proofs.Common.{◌∙◌, sym, ap}
use Rattle.rtsp_text.specs.Slices.{halves}
use Rattle.rtsp_text.proofs.SplitLemmas.{split_parts}
use Rattle.rtsp_credentials.proofs.parameters.quoted_of.Goals as goal

pub is_plain-requires : goal.is_plain-requires
is_plain-requires c = (split_parts 34 c.args.rest.now (c.in_ok-inner.inner.now, c.in_ok-inner.behind.now) (sym c.split_once.ensures ∙ ap halves c.in_ok-inner.was)).1
