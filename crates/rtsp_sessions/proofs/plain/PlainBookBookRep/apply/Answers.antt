use Rattle.std.proofs.Common.{sym, subst, arith}
use Rattle.rtsp_record.specs.Rules.{AllAllowed}
use Rattle.rtsp_record.specs.Sound.{Sound}
use Rattle.rtsp_record.proofs.Sound.{sound-all}
use Rattle.rtsp_sessions.specs.Plain.{PlainState}
use Rattle.rtsp_sessions.proofs.FitLemmas.{all_fit, few_rows}
use Rattle.rtsp_sessions.proofs.plain.PlainBookBookRep.apply.Goals as goal

pub make_all-requires-clause-fit : goal.make_all-requires-clause-fit
make_all-requires-clause-fit c =
    let asked = subst (λ (v : PlainState). AllAllowed v.whole v.book c.args.changes.now) (sym c.self.view_is) c.requires in
    all_fit c.self.inside.whole c.self.inside.rows c.args.changes.now c.self.invariant.sound asked

pub make_all-requires-clause-few : goal.make_all-requires-clause-few
make_all-requires-clause-few c =
    let asked = subst (λ (v : PlainState). AllAllowed v.whole v.book c.args.changes.now) (sym c.self.view_is) c.requires in
    omega (arith, few_rows c.self.inside.whole _ (sound-all c.self.inside.whole c.self.inside.rows c.args.changes.now c.self.invariant.sound asked))

pub invariant_of-self-2 : goal.invariant_of-self-2
invariant_of-self-2 c =
    let asked = subst (λ (v : PlainState). AllAllowed v.whole v.book c.args.changes.now) (sym c.self.view_is) c.requires in
    record {
      sound = subst (Sound c.self.inside.whole) (sym c.in_ok-make_all.ensures.ok) (sound-all c.self.inside.whole c.self.inside.rows c.args.changes.now c.self.invariant.sound asked);
      ports = c.self.invariant.ports;
    }
