use Rattle.std.proofs.Common.{◌≡◌, ◌∙◌, Ok, Err, get_or, inl, inr, ◌<◌, ◌++◌, ◌∷◌, [], length, ◌⊎◌, arith, sym, length-append}
use Rattle.std.proofs.lemmas.Result.{err_from_is_err_and}
use Rattle.rtsp_text.specs.Slices.{held}
use Rattle.toml.specs.View.{view}
use Rattle.rtsp_content.specs.Tables.{in_table}
use Rattle.rtsp_content.specs.declared.fault.TableFault.TheVariants.{OutOfMemory}
use Rattle.rtsp_content.proofs.Items.{item_count-items_view}
use Rattle.rtsp_content.proofs.DistinctLemmas.{distinct-more}
use Rattle.rtsp_content.proofs.TablesLemmas.{each_from-ok, each_from-err, each_from-end}
use Rattle.rtsp_content.proofs.reading.read_each.Goals as goal

pub returns-in_err-entry-clause-value : goal.returns-in_err-entry-clause-value
returns-in_err-entry-clause-value g c =
    let p = err_from_is_err_and c.from_residual.result c.from_residual.ensures.1 in
    let items = c.deref-value-items.ensures.value in
    let fault = c.in_err-entry.field-0.0 in
    let told : (fault ≡ OutOfMemory) ⊎ (in_table (g.T.Stated.said (held c.args.folder)) c.loop-value.entries.items (view c.value-item.result) ≡ Err fault) = rw c.as_slice.ensures.value at c.in_err-entry.ensures.value in
    let is : c.value-item.result ≡ get_or c.args.values.now.items c.loop-value.value-index c.value-item.result = rw items at c.value-item.is in
    let within : c.loop-value.value-index < length c.args.values.now.items = rw items at c.loop-value-test.true in
    rw (p.1, p.2) (elim told [
      | inl h ↦ inl h
      | inr h ↦ inr (c.loop-value.invariant.read ∙ each_from-err (in_table (g.T.Stated.said (held c.args.folder))) c.loop-value.entries.items c.args.values.now.items c.loop-value.value-index c.value-item.result fault within (rw is at h))
    ])

pub loop-value-preserved : goal.loop-value-preserved
loop-value-preserved g c =
    let items = c.deref-value-items.ensures.value in
    let here : in_table (g.T.Stated.said (held c.args.folder)) c.loop-value.entries.items (view c.value-item.result) ≡ Ok c.in_ok-entry.entry = rw c.as_slice.ensures.value at c.in_ok-entry.ensures.value in
    let is : c.value-item.result ≡ get_or c.args.values.now.items c.loop-value.value-index c.value-item.result = rw items at c.value-item.is in
    let within : c.loop-value.value-index < length c.args.values.now.items = rw items at c.loop-value-test.true in
    let pushed : c.push.new.self.items ≡ c.loop-value.entries.items ++ c.in_ok-entry.entry ∷ [] = c.in_ok-push.ensures.items in
    let turn = each_from-ok (in_table (g.T.Stated.said (held c.args.folder))) c.loop-value.entries.items c.args.values.now.items c.loop-value.value-index c.value-item.result c.in_ok-entry.entry within (rw is at here) in
    record {
      read = rw pushed (c.loop-value.invariant.read ∙ turn);
      count = rw pushed (rw length-append (omega (arith, c.loop-value.invariant.count)));
      distinct = rw pushed (distinct-more g.T.Stated.name_of c.loop-value.entries.items c.in_ok-entry.entry c.loop-value.invariant.distinct (rw c.as_slice.ensures.value at c.in_ok-entry.ensures.fresh));
    }

pub returns-clause-value : goal.returns-clause-value
returns-clause-value g c = c.loop-value.invariant.read ∙ each_from-end (in_table (g.T.Stated.said (held c.args.folder))) c.loop-value.entries.items c.args.values.now.items c.loop-value.value-index (rw c.deref-value-items.ensures.value at c.loop-value-test.false)

pub returns-clause-count : goal.returns-clause-count
returns-clause-count g c =
    let same : length c.loop-value.entries.items ≡ length c.args.values.now.items = omega (arith, rw c.deref-value-items.ensures.value at c.loop-value-test.false, rw c.deref-value-items.ensures.value at c.loop-value.auto.value-index-end) in
    same ∙ sym (item_count-items_view c.args.values.now.items)
