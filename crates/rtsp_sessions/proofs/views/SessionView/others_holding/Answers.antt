use Rattle.std.proofs.Common.{ℕ, sym, ap, ◌∙◌, arith}
use Rattle.rtsp_record.specs.Books.{Session}
use Rattle.rtsp_record.specs.Sums.{one_if, is_holding}
use Rattle.rtsp_sessions.proofs.PlainLemmas.{count_others}
use Rattle.rtsp_sessions.proofs.views.SessionView.others_holding.Goals as goal

pub overflow_sub-result : goal.overflow_sub-result
overflow_sub-result c =
    let all = count_others _ c.args.self.now.1 c.args.admission c.how_many_hold-all.result c.rows.result.now (ap (λ (v : ℕ × Session). v.1) c.self.view_is) c.rows.ensures.rows c.how_many_hold-all.ensures in
    let own = ap one_if (ap is_holding (sym c.under.ensures) ∙ sym c.is_holding.ensures ∙ c.if-is_holding.true) in
    omega (arith, all, own)

pub returns-then-is_holding : goal.returns-then-is_holding
returns-then-is_holding c =
    let all = count_others _ c.args.self.now.1 c.args.admission c.how_many_hold-all.result c.rows.result.now (ap (λ (v : ℕ × Session). v.1) c.self.view_is) c.rows.ensures.rows c.how_many_hold-all.ensures in
    let own = ap one_if (ap is_holding (sym c.under.ensures) ∙ sym c.is_holding.ensures ∙ c.if-is_holding.true) in
    omega (arith, all, own)

pub returns-else-is_holding : goal.returns-else-is_holding
returns-else-is_holding c =
    let all = count_others _ c.args.self.now.1 c.args.admission c.how_many_hold-all.result c.rows.result.now (ap (λ (v : ℕ × Session). v.1) c.self.view_is) c.rows.ensures.rows c.how_many_hold-all.ensures in
    let own = ap one_if (ap is_holding (sym c.under.ensures) ∙ sym c.is_holding.ensures ∙ c.if-is_holding.false) in
    omega (arith, all, own)
