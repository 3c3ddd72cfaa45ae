use Rattle.std.proofs.Common.{◌≡◌, ◌+◌, ap, arith, refl, sym, ◌∙◌, length, true, false, ℕ, List, Option, None, Some, option_map, drop}
use Rattle.std.specs.List.{cons_option}
use Rattle.std.specs.Option.{is_some}
use Rattle.std.specs.Borrow.{Bor}
use Rattle.rtsp_grammar.specs.Header.{values_of}
use Rattle.rtsp_grammar.proofs.ValueLemmas.{values_named, values_other}
use Rattle.rtsp_grammar.proofs.header.Headers.only_value.Goals as goal
use Rattle.rtsp_grammar.proofs.header.Headers.only_value.Goals.{then-is_named+else-is_some, else-is_named}

one_before : (found : Option (Bor (List ℕ))) (vs : List (List ℕ)) → is_some found ≡ true → length (cons_option (option_map (λ v. v.now) found) vs) ≡ length vs + 1
one_before None vs some = absurd cc
one_before (Some v) vs some = omega arith

none_before : (found : Option (Bor (List ℕ))) (vs : List (List ℕ)) → is_some found ≡ false → cons_option (option_map (λ v. v.now) found) vs ≡ vs
none_before None vs none = refl
none_before (Some v) vs none = absurd cc

pub returns-then-is_some-clause-several : goal.returns-then-is_some-clause-several
returns-then-is_some-clause-several c =
    let first = one_before c.loop-index.found (values_of c.args.name.now (drop c.loop-index.index c.args.self.now)) (sym c.is_some.ensures ∙ c.if-is_some.true) in
    omega (arith, first, ap length (values_named c.args.name.now c.args.self.now c.loop-index.index _ c.get-header.ensures (sym c.is_named.ensures ∙ c.if-is_named.true)), ap length c.loop-index.invariant)

pub loop-index-preserved : goal.loop-index-preserved
loop-index-preserved c = elim c.if-is_named.branch [
  | then-is_named+else-is_some w ↦ rw w.found-is (sym (values_named c.args.name.now c.args.self.now c.loop-index.index _ c.get-header.ensures (sym c.is_named.ensures ∙ w.if-is_named.true)) ∙ sym (none_before c.loop-index.found (values_of c.args.name.now (drop c.loop-index.index c.args.self.now)) (sym w.is_some.ensures ∙ w.if-is_some.false)) ∙ c.loop-index.invariant)
  | else-is_named w ↦ rw w.found-is (rw (values_other c.args.name.now c.args.self.now c.loop-index.index _ c.get-header.ensures (sym c.is_named.ensures ∙ w.if-is_named.false)) at c.loop-index.invariant)
]
