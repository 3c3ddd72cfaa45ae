use Rattle.std.proofs.Common.{sym, ap, ◌∙◌, ◌<◌, arith, List, ℕ, Option, option_map, length}
use Rattle.std.specs.Borrow.{Bor}
use Rattle.rtsp_grammar.specs.Header.{values_of}
use Rattle.rtsp_state.proofs.ListLemmas.{text_more, there}
use Rattle.rtsp_state.proofs.values.values_of.Goals as goal
use Rattle.rtsp_state.proofs.values.values_of.Goals.{in-Some+in_ok-push, in_default}

pub loop-index-preserved : goal.loop-index-preserved
loop-index-preserved c =
    elim c.match-nth_value.branch [
      | in-Some+in_ok-push w ↦ rw w.values-is (text_more (values_of c.args.name.now c.args.headers.now) c.loop-index.index c.loop-index.values.items _ _ c.loop-index.invariant (sym w.in-Some.ensures) w.in_ok-push.ensures.items)
      | in_default w ↦
          let n = c.count_of-index-end.ensures in
          let lt : c.loop-index.index < length (values_of c.args.name.now c.args.headers.now) = omega (arith, n, c.loop-index-test.true) in
          absurd (there (values_of c.args.name.now c.args.headers.now) c.loop-index.index lt (sym c.nth_value.ensures ∙ ap (λ (o : Option (Bor (List ℕ))). option_map (λ v. v.now) o) w.in_default.is))
    ]
