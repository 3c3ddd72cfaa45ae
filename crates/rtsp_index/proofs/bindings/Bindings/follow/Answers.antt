use Rattle.std.proofs.Common.{sym, ap, ◌∙◌, arith}
use Rattle.rtsp_record.specs.Sums.{one_if}
use Rattle.rtsp_record.proofs.Sound.{same_nat}
use Rattle.rtsp_index.proofs.CountLemmas.{bound_small, bound_by, unbound_by, bound_still}
use Rattle.rtsp_index.proofs.bindings.Bindings.follow.Goals as goal

pub bind-requires-clause-few : goal.bind-requires-clause-few
bind-requires-clause-few c =
    let q = c.requires.follows in
    let conn = c.in-Bind.binding.conn in
    omega (arith, q.holds conn, bound_small q.whole q.book c.args.change.now conn q.follows q.small)

pub unbind-requires : goal.unbind-requires
unbind-requires c =
    let q = c.requires.follows in
    let conn = c.in-Unbind.binding.conn in
    omega (arith, q.holds conn, unbound_by q.whole q.book c.args.change.now c.in-Unbind.binding c.in-Unbind.is q.follows conn, ap one_if (same_nat conn))

pub returns-in-Bind-clause-follows : goal.returns-in-Bind-clause-follows
returns-in-Bind-clause-follows c w b f ok d = omega (arith, c.bind.ensures.bound d, ok d, bound_by w b c.args.change.now c.in-Bind.binding c.in-Bind.is f d)

pub returns-in-Unbind-clause-follows : goal.returns-in-Unbind-clause-follows
returns-in-Unbind-clause-follows c w b f ok d = omega (arith, c.unbind.ensures.bound d, ok d, unbound_by w b c.args.change.now c.in-Unbind.binding c.in-Unbind.is f d)

pub returns-in_default-clause-follows : goal.returns-in_default-clause-follows
returns-in_default-clause-follows c w b f ok d = ok d ∙ sym (bound_still w b c.args.change.now c.in_default.not-Bind c.in_default.not-Unbind f d)
