use Rattle.std.proofs.Common.{ℕ, List, ◌++◌, ◌≡◌, ◌<◌, ◌∙◌, ap, sym, arith}
use Rattle.std.proofs.lemmas.Result.{on_ok_weaker}
use Rattle.rtsp_metrics.specs.Page.{groups}
use Rattle.rtsp_metrics.proofs.Appended.{appended}
use Rattle.rtsp_metrics.proofs.Grouping.{groups_decimal, groups_large}
use Rattle.rtsp_metrics.proofs.rows.+write_groups.Goals as goal
use Rattle.rtsp_metrics.proofs.rows.+write_groups.Goals.{then-more-eq0-via-then-more-eq0, then-more-eq0-via-else-more-eq0+then-number-lt1000}

pub returns-then-more-eq0 : goal.returns-then-more-eq0
returns-then-more-eq0 t c =
    let small : 0 < c.args.more → c.args.number < 1000 =
    elim c.then-more-eq0.branch [ then-more-eq0-via-then-more-eq0 w ↦ λ h. absurd (omega arith) | then-more-eq0-via-else-more-eq0+then-number-lt1000 w ↦ λ h. w.if-number-lt1000.true ] in
    let written = c.in_ok-extend_from_slice.ensures.items in
    let text : _ ≡ groups c.args.more c.args.number = c.as_bytes.ensures.value ∙ c.format.ensures.text ∙ sym (groups_decimal c.args.more c.args.number small) in
    written ∙ ap (λ (t : List ℕ). c.args.out.now.items ++ t) text

pub returns : goal.returns
returns t c =
    let large = groups_large c.args.more c.args.number (omega arith) c.if-number-lt1000.false in
    on_ok_weaker c.append_all.result (λ p. p ∙ ap (λ (t : List ℕ). c.args.out.now.items ++ t) (sym large))
    (appended c.append_all.result c.args.out.now.items _ _ _ _ c.in_ok-write_groups.ensures (simp c.three_digits-digits.ensures at c.append_all.ensures.ok))
