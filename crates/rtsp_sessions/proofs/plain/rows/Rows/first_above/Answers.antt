use Rattle.std.proofs.Common.{◌≡◌, ◌+◌, ◌-◌, ◌≤◌, suc, sym, ap, ◌∙◌, arith, length, take, drop, ℕ}
use Rattle.rtsp_sessions.specs.Lookups.{numbers_above}
use Rattle.rtsp_sessions.proofs.SortedRows.{holds}
use Rattle.rtsp_sessions.proofs.NumberLemmas.{first_more, sorted_drop}
use Rattle.rtsp_sessions.proofs.plain.rows.Rows.first_above.Goals as goal

pub loop-left-preserved-then-is_above : goal.loop-left-preserved-then-is_above
loop-left-preserved-then-is_above c =
    let rows = c.views-rows.result.now in
    let i = c.loop-left.left - 1 in
    let lt : i + 1 ≤ length rows = omega (arith, c.loop-left.invariant.within, c.loop-left-test.true) in
    let next : c.loop-left.left ≡ suc i = omega (arith, c.loop-left-test.true) in
    record {
      within = omega (arith, lt);
      found = first_more c.args.above 256 c.session-number.result c.loop-left.found c.insert.new.self rows i c.index-rows-left.result (sorted_drop rows i (holds _ c.views-rows.ensures.in_order)) (omega (arith, lt)) (sym c.index-rows-left.is) c.session-number.ensures (sym c.is_above.ensures ∙ c.if-is_above.true)
          (c.loop-left.invariant.found ∙ ap (λ (k : ℕ). take 256 (numbers_above c.args.above (drop k rows))) next) c.insert.ensures;
    }
