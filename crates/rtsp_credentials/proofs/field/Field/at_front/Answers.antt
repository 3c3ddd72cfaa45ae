use Rattle.std.proofs.Common.{◌∙◌, ap, Some, ◌++◌, ℕ, List}
use Rattle.std.proofs.lemmas.Slice.Eq.{strip_prefix_is}
use Rattle.std.proofs.lemmas.Bool.Decides.{Decides-eqb}
use Rattle.rtsp_credentials.proofs.Fronts.{named_front}
use Rattle.rtsp_credentials.proofs.field.Field.at_front.Goals as goal

pub returns : goal.returns
returns c = named_front c.args.text.now c.in_ok-behind.behind.now c.args.self (strip_prefix_is Decides-eqb c.args.text.now c.written.result.now (Some c.in_ok-behind.behind) c.in_ok-behind.ensures.cases ∙ ap (λ (xs : List ℕ). xs ++ c.in_ok-behind.behind.now) c.written.ensures)
