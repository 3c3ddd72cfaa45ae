use Rattle.std.proofs.Common.{◌+◌, drop, sym, ◌∙◌, subst, arith, Some}
use Rattle.rtsp_book.proofs.Freed.{no_value}
use Rattle.rtsp_admit.specs.Binder.{Released, UnboundAll, freed_of}
use Rattle.rtsp_admit.proofs.Having.{released_ports}
use Rattle.rtsp_admit.proofs.Unbinding.{all_unbound, one_unbound, none_unbound}
use Rattle.rtsp_admit.proofs.binder.unbind_all.Goals as goal
use Rattle.rtsp_admit.proofs.binder.unbind_all.Goals.{in-Some, in_default}

pub loop-change-preserved : goal.loop-change-preserved
loop-change-preserved g c =
    let calls = g.B.Binder.calls in
    let kind = c.args.kind in
    let rs = c.args.changes.now in
    let i = c.loop-change.change-index in
    let r = c.change-item.result in
    let b = c.loop-change.binder in
    let lt = c.loop-change-test.true in
    elim c.match-freed.branch [
      | in-Some w ↦ λ e rest.
          let left = subst (λ d. UnboundAll calls (freed_of kind (drop (i + 1) rs)) d e) w.binder-is rest in
          let a = w.in-Some.admission in
          let first = w.in-Some.first in
          let unbound = released_ports calls kind first a b w.release.new.binder (subst (λ x. Released calls a (Some x) b w.release.new.binder) w.thing.ensures w.release.ensures) in
          c.loop-change.invariant e (one_unbound calls kind rs i r (a, first) b _ e lt c.change-item.is (sym c.freed.ensures ∙ w.in-Some.is) unbound left)
      | in_default w ↦ λ e rest.
          let left = subst (λ d. UnboundAll calls (freed_of kind (drop (i + 1) rs)) d e) w.binder-is rest in
          c.loop-change.invariant e (none_unbound calls kind rs i r b e lt c.change-item.is (sym c.freed.ensures ∙ no_value c.freed.result w.in_default.not-Some) left)
    ]

pub returns : goal.returns
returns g c = c.loop-change.invariant _ (all_unbound g.B.Binder.calls c.args.kind c.args.changes.now c.loop-change.change-index c.loop-change.binder (omega arith))
