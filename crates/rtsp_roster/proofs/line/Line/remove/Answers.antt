use Rattle.std.proofs.Common.{◌<◌, ◌≡◌, length, set, false, refl, sym, ap, subst, arith}
use Rattle.std.specs.Prelude.{OnSome}
use Rattle.std.specs.List.{remove}
use Rattle.std.proofs.lemmas.List.{length-set}
use Rattle.std.proofs.lemmas.Option.{slice_get_within}
use Rattle.rtsp_roster.specs.Lines.{IsIn, IsLine, IsOut, times}
use Rattle.rtsp_roster.proofs.Lining.{has_mark, left}
use Rattle.rtsp_roster.proofs.line.Line.remove.Goals as goal

pub index_mut-requires : goal.index_mut-requires
index_mut-requires c =
    let keys = c.self.inside.keys.items in
    let is : IsIn c.args.key keys = rw (← c.self.view_is) at (c.if-is_in.ensures.0 refl) in
    omega (arith, has_mark keys c.self.inside.holds.items c.args.key c.self.invariant.0 (omega (arith, is)), c.self.inside.holds.ok)

pub invariant_of-self : goal.invariant_of-self
invariant_of-self c =
    let keys = c.self.inside.keys.items in
    let marks = c.self.inside.holds.items in
    let key = c.args.key in
    let at = c.in-Some.at in
    let lt = slice_get_within keys at key c.in-Some.ensures.there in
    let rest : c.remove.new.self.items ≡ remove keys at =
    subst (λ r. OnSome r (c.remove.new.self.items ≡ remove keys at)) (c.remove.ensures.succeeds key (omega (arith, lt, c.self.inside.keys.ok.0))) c.remove.ensures.items in (
      subst (λ l. IsLine l (set marks key false)) (sym rest) (left keys marks key at c.in-Some.ensures.there c.self.invariant.0),
      omega (arith, length-set marks key false, c.self.invariant.1, c.remove.ensures.capacity),
    )

pub returns-in-Some : goal.returns-in-Some
returns-in-Some c =
    let keys = c.self.inside.keys.items in
    let key = c.args.key in
    let at = c.in-Some.at in
    let is : IsIn key keys = rw (← c.self.view_is) at (c.if-is_in.ensures.0 refl) in
    let lt = slice_get_within keys at key c.in-Some.ensures.there in
    let rest : c.remove.new.self.items ≡ remove keys at =
    subst (λ r. OnSome r (c.remove.new.self.items ≡ remove keys at)) (c.remove.ensures.succeeds key (omega (arith, lt, c.self.inside.keys.ok.0))) c.remove.ensures.items in
    rw (← c.self.view_is) (record {
      room = length-set c.self.inside.holds.items key false;
      gone = λ there. record { at = at; there = c.in-Some.ensures.there; rest = rest };
      was_out = λ out. absurd (omega (arith, out, is));
    })
