use Rattle.std.proofs.Common.{◌∷◌, refl, arith}
use Rattle.rtsp_grammar.proofs.LinesLemmas.{first_some, one_line_before, left_within}
use Rattle.rtsp_grammar.proofs.head_at.head_at.Goals as goal

pub returns-in-Broken-header_lines_at : goal.returns-in-Broken-header_lines_at
returns-in-Broken-header_lines_at c =
    let line = c.in-Ended.ensures in
    let b = c.in-Broken-header_lines_at.ensures in
    let some = first_some c.args.bytes.now c.in-Ended.first.now c.in-Ended.rest.now c.requires line in
    record { lines = c.in-Ended.first.now ∷ b.lines; rest = b.rest; begins = one_line_before c.args.bytes.now b.lines b.rest c.in-Ended.first.now c.in-Ended.rest.now line some b.begins; broken = b.broken }

pub returns-in-Open-header_lines_at : goal.returns-in-Open-header_lines_at
returns-in-Open-header_lines_at c =
    let line = c.in-Ended.ensures in
    let o = c.in-Open-header_lines_at.ensures in
    let some = first_some c.args.bytes.now c.in-Ended.first.now c.in-Ended.rest.now c.requires line in
    record { lines = c.in-Ended.first.now ∷ o.lines; rest = o.rest; begins = one_line_before c.args.bytes.now o.lines o.rest c.in-Ended.first.now c.in-Ended.rest.now line some o.begins; open_end = o.open_end }

pub returns-in-Ended-header_lines_at : goal.returns-in-Ended-header_lines_at
returns-in-Ended-header_lines_at c =
    let line = c.in-Ended.ensures in
    let h = c.in-Ended-header_lines_at.ensures in
    let some = first_some c.args.bytes.now c.in-Ended.first.now c.in-Ended.rest.now c.requires line in
    let begins = one_line_before c.args.bytes.now h.lines (13 ∷ 10 ∷ c.in-Ended-header_lines_at.rest.now) c.in-Ended.first.now c.in-Ended.rest.now line some h.begins in
    let within = left_within c.args.bytes.now (c.in-Ended.first.now ∷ h.lines) (13 ∷ 10 ∷ c.in-Ended-header_lines_at.rest.now) begins in
    record {
      lines = c.in-Ended.first.now ∷ h.lines;
      is = record { rest = c.in-Ended-header_lines_at.rest.now; begins = begins; length = omega (arith, within) };
      holds = record { others = h.lines; parts = refl; are = h.are; counted = h.counted };
    }
