use Rattle.std.proofs.Common.{◌≡◌, ◌≤◌, sym, subst, ap, ◌∙◌, arith, length, take, ℕ}
use Rattle.std.specs.List.Sorted.{IsNonDecreasing}
use Rattle.std.proofs.lemmas.List.{take_all}
use Rattle.rtsp_sessions.specs.Lookups.{inserted}
use Rattle.rtsp_sessions.proofs.NumberLemmas.{inserted_beyond, inserted_at, placed_by, there_by}
use Rattle.rtsp_sessions.proofs.numbers.SessionNumbers.insert.Goals as goal

pub returns-then-is_beyond : goal.returns-then-is_beyond
returns-then-is_beyond c =
    let now = c.args.self.now in
    let n = c.args.number in
    let facts = c.is_beyond.ensures c.if-is_beyond.true in
    sym (subst (λ (k : ℕ). take k (inserted n now) ≡ now) facts.0 (inserted_beyond n now (λ k lt. facts.1 k (omega (arith, lt, facts.0)))))

pub insert_unless_last-requires-clause-behind : goal.insert_unless_last-requires-clause-behind
insert_unless_last-requires-clause-behind c =
    (placed_by c.args.self.now c.as_slice.result.now c.args.number c.in-Err.place (c.as_slice.ensures.value ∙ c.self.view_is) (subst IsNonDecreasing c.self.view_is c.self.invariant) c.in-Err.ensures.position).behind

pub returns-in-Ok : goal.returns-in-Ok
returns-in-Ok c =
    let now = c.args.self.now in
    let is = c.as_slice.ensures.value ∙ c.self.view_is in
    let short : length now ≤ 256 = omega (arith, ap length is, c.as_slice.ensures.fits) in
    let same = there_by now c.as_slice.result.now c.args.number c.in-Ok.field-0 is (subst IsNonDecreasing c.self.view_is c.self.invariant) c.in-Ok.ensures.position in
    sym (ap (take 256) same ∙ take_all 256 now short)

pub returns-in-Err : goal.returns-in-Err
returns-in-Err c =
    let now = c.args.self.now in
    let p = placed_by now c.as_slice.result.now c.args.number c.in-Err.place (c.as_slice.ensures.value ∙ c.self.view_is) (subst IsNonDecreasing c.self.view_is c.self.invariant) c.in-Err.ensures.position in
    c.insert_unless_last.ensures ∙ ap (take 256) (sym (inserted_at c.args.number now c.in-Err.place p.within p.before p.behind))
