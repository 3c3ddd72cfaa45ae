use Rattle.std.proofs.Common.{rules, ◌≡◌, ◌∙◌, ℕ, Ok, Err, get_or, inr, ◌<◌, ◌++◌, ◌∷◌, [], List, length, arith, sym, ap, length-append}
use Rattle.std.proofs.lemmas.Result.{err_from_is_err_and}
use Rattle.std.proofs.lemmas.List.Elements.{All-append}
use Rattle.toml.specs.View.{view}
use Rattle.rtsp_content.specs.Starts.{start_behind}
use Rattle.rtsp_content.proofs.Items.{item_count-items_view}
use Rattle.rtsp_content.proofs.StartsLemmas.{first-more}
use Rattle.rtsp_content.proofs.TablesLemmas.{each_from-ok, each_from-err, each_from-end}
use Rattle.rtsp_content.proofs.starts.read_starts.Goals as goal

pub returns-in_err-start-clause-value : goal.returns-in_err-start-clause-value
returns-in_err-start-clause-value c =
    let p = err_from_is_err_and c.from_residual.result c.from_residual.ensures.1 in
    let items = c.deref-value-items.ensures.value in
    let fault = c.in_err-start.field-0.0 in
    let told : start_behind c.args.units c.loop-value.starts.items (view c.value-item.result) ≡ Err fault = sym (rw c.as_slice.ensures.value at c.in_err-start.ensures.value) in
    let is : c.value-item.result ≡ get_or c.args.items.now.items c.loop-value.value-index c.value-item.result = rw items at c.value-item.is in
    let within : c.loop-value.value-index < length c.args.items.now.items = rw items at c.loop-value-test.true in
    rw (p.1, p.2) (inr (c.loop-value.invariant.read ∙ each_from-err (start_behind c.args.units) c.loop-value.starts.items c.args.items.now.items c.loop-value.value-index c.value-item.result fault within (rw is at told)))

pub loop-value-preserved : goal.loop-value-preserved
loop-value-preserved c =
    let items = c.deref-value-items.ensures.value in
    let starts = c.loop-value.starts.items in
    let start = c.in_ok-start.start in
    let here : start_behind c.args.units starts (view c.value-item.result) ≡ Ok start = sym (rw c.as_slice.ensures.value at c.in_ok-start.ensures.value) in
    let is : c.value-item.result ≡ get_or c.args.items.now.items c.loop-value.value-index c.value-item.result = rw items at c.value-item.is in
    let within : c.loop-value.value-index < length c.args.items.now.items = rw items at c.loop-value-test.true in
    let pushed : c.push.new.self.items ≡ starts ++ start ∷ [] = c.in_ok-push.ensures.items in
    let turn = each_from-ok (start_behind c.args.units) starts c.args.items.now.items c.loop-value.value-index c.value-item.result start within (rw is at here) in
    let none : length starts ≡ 0 → start ≡ 0 = λ e. c.in_ok-start.ensures.first (ap (λ (l : List ℕ). length l) c.as_slice.ensures.value ∙ e) in
    record {
      read = rw pushed (c.loop-value.invariant.read ∙ turn);
      count = rw pushed (rw length-append (omega (arith, c.loop-value.invariant.count)));
      within = rw pushed (All-append (λ s. s < c.args.units) starts (start ∷ []) c.loop-value.invariant.within (search rules));
      first = rw pushed (first-more starts start c.loop-value.invariant.first none);
    }

pub returns-clause-value : goal.returns-clause-value
returns-clause-value c = c.loop-value.invariant.read ∙ each_from-end (start_behind c.args.units) c.loop-value.starts.items c.args.items.now.items c.loop-value.value-index (rw c.deref-value-items.ensures.value at c.loop-value-test.false)

pub returns-clause-count : goal.returns-clause-count
returns-clause-count c =
    let same : length c.loop-value.starts.items ≡ length c.args.items.now.items = omega (arith, c.loop-value.invariant.count, rw c.deref-value-items.ensures.value at c.loop-value-test.false, rw c.deref-value-items.ensures.value at c.loop-value.auto.value-index-end) in
    same ∙ sym (item_count-items_view c.args.items.now.items)
