use Rattle.std.proofs.Common.{◌≡◌, ◌∙◌, Ok, Err, get_or, inl, inr, ◌<◌, ◌++◌, ◌∷◌, [], length, ◌⊎◌}
use Rattle.std.proofs.lemmas.Result.{err_from_is_err_and}
use Rattle.toml.specs.View.{view}
use Rattle.rtsp_content.specs.Allowed.{alone}
use Rattle.rtsp_content.specs.declared.fault.TableFault.TheVariants.{OutOfMemory}
use Rattle.rtsp_content.proofs.TablesLemmas.{each_from-ok, each_from-err, each_from-end}
use Rattle.rtsp_content.proofs.allowed.read_all.Goals as goal

pub returns-in_err-entry : goal.returns-in_err-entry
returns-in_err-entry g c =
    let p = err_from_is_err_and c.from_residual.result c.from_residual.ensures.1 in
    let items = c.deref-value-items.ensures.value in
    let fault = c.in_err-entry.field-0.0 in
    let told : (fault ≡ OutOfMemory) ⊎ (g.T.Listed.said (view c.value-item.result) ≡ Err fault) = c.in_err-entry.ensures in
    let is : c.value-item.result ≡ get_or c.args.values.now.items c.loop-value.value-index c.value-item.result = rw items at c.value-item.is in
    let within : c.loop-value.value-index < length c.args.values.now.items = rw items at c.loop-value-test.true in
    rw (p.1, p.2) (elim told [
      | inl h ↦ inl h
      | inr h ↦ inr (c.loop-value.invariant ∙ each_from-err (alone g.T.Listed.said) c.loop-value.entries.items c.args.values.now.items c.loop-value.value-index c.value-item.result fault within (rw is at h))
    ])

pub loop-value-preserved : goal.loop-value-preserved
loop-value-preserved g c =
    let items = c.deref-value-items.ensures.value in
    let here : g.T.Listed.said (view c.value-item.result) ≡ Ok c.in_ok-entry.entry = c.in_ok-entry.ensures in
    let is : c.value-item.result ≡ get_or c.args.values.now.items c.loop-value.value-index c.value-item.result = rw items at c.value-item.is in
    let within : c.loop-value.value-index < length c.args.values.now.items = rw items at c.loop-value-test.true in
    let pushed : c.push.new.self.items ≡ c.loop-value.entries.items ++ c.in_ok-entry.entry ∷ [] = c.in_ok-push.ensures.items in
    let turn = each_from-ok (alone g.T.Listed.said) c.loop-value.entries.items c.args.values.now.items c.loop-value.value-index c.value-item.result c.in_ok-entry.entry within (rw is at here) in
    rw pushed (c.loop-value.invariant ∙ turn)

pub returns : goal.returns
returns g c = c.loop-value.invariant ∙ each_from-end (alone g.T.Listed.said) c.loop-value.entries.items c.args.values.now.items c.loop-value.value-index (rw c.deref-value-items.ensures.value at c.loop-value-test.false)
