use Rattle.std.proofs.Common.{◌≡◌, ◌∙◌, Ok, Err, get_or, inr, ◌<◌, ◌++◌, ◌∷◌, [], length, sym}
use Rattle.std.proofs.lemmas.Result.{err_from_is_err_and}
use Rattle.toml.specs.View.{view}
use Rattle.rtsp_content.specs.Balancers.{as_address, beside}
use Rattle.rtsp_content.proofs.TablesLemmas.{each_from-ok, each_from-err, each_from-end}
use Rattle.rtsp_content.proofs.balancers.addresses.Goals as goal

pub returns-in_err-address : goal.returns-in_err-address
returns-in_err-address c =
    let p = err_from_is_err_and c.from_residual.result c.from_residual.ensures.1 in
    let items = c.deref-value-items.ensures.value in
    let fault = c.in_err-address.field-0.0 in
    let told : as_address (view c.value-item.result) ≡ Err fault = sym c.in_err-address.ensures in
    let is : c.value-item.result ≡ get_or c.args.values.now.items c.loop-value.value-index c.value-item.result = rw items at c.value-item.is in
    let within : c.loop-value.value-index < length c.args.values.now.items = rw items at c.loop-value-test.true in
    rw (p.1, p.2) (inr (c.loop-value.invariant ∙ each_from-err beside c.loop-value.addresses.items c.args.values.now.items c.loop-value.value-index c.value-item.result fault within (rw is at told)))

pub loop-value-preserved : goal.loop-value-preserved
loop-value-preserved c =
    let items = c.deref-value-items.ensures.value in
    let here : as_address (view c.value-item.result) ≡ Ok c.in_ok-address.address = sym c.in_ok-address.ensures in
    let is : c.value-item.result ≡ get_or c.args.values.now.items c.loop-value.value-index c.value-item.result = rw items at c.value-item.is in
    let within : c.loop-value.value-index < length c.args.values.now.items = rw items at c.loop-value-test.true in
    let pushed : c.push.new.self.items ≡ c.loop-value.addresses.items ++ c.in_ok-address.address ∷ [] = c.in_ok-push.ensures.items in
    let turn = each_from-ok beside c.loop-value.addresses.items c.args.values.now.items c.loop-value.value-index c.value-item.result c.in_ok-address.address within (rw is at here) in
    rw pushed (c.loop-value.invariant ∙ turn)

pub returns : goal.returns
returns c = c.loop-value.invariant ∙ each_from-end beside c.loop-value.addresses.items c.args.values.now.items c.loop-value.value-index (rw c.deref-value-items.ensures.value at c.loop-value-test.false)
