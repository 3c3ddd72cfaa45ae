use Rattle.std.proofs.Common.{◌≢◌, ◌∙◌, get_or, sym}
use Rattle.std.proofs.lemmas.Bool.{eqb-false, not-true}
use Rattle.rtsp_state.proofs.PortLemmas.{port_digits}
use Rattle.rtsp_state.proofs.plain_uri.is_port.Goals as goal

pub returns-then-number-lt65536 : goal.returns-then-number-lt65536
returns-then-number-lt65536 c = λ other.
    let digits = c.args.digits.now in
    let read = sym c.number_of.ensures.value ∙ c.in-Some.is in
    let first : get_or digits 0 0 ≢ 48 = eqb-false (get_or digits 0 0) 48 (sym c.begins_with_zero.ensures ∙ not-true c.begins_with_zero.result other) in
    port_digits digits c.in-Some.number read c.if-number-lt65536.true first
