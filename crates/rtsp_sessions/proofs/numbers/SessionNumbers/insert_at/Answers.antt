use Rattle.std.proofs.Common.{◌≡◌, ◌<◌, sym, subst, ap, ◌∙◌, arith, length, insert, take, List, ℕ}
use Rattle.std.specs.List.Sorted.{IsNonDecreasing}
use Rattle.rtsp_sessions.proofs.NumberLemmas.{Placed, placed_first, placed_rises, insert_first, take_short}
use Rattle.rtsp_sessions.proofs.numbers.SessionNumbers.insert_at.Goals as goal

-- the place among the numbers that are left
left_place : (now left : List ℕ) (i n : ℕ) → left ≡ take 255 now → i < 256 → Placed now i n → Placed left i n
left_place now left i n is lt p = subst (λ (l : List ℕ). Placed l i n) (sym is) (placed_first 255 now i n (omega (arith, lt)) p)

pub insert-requires : goal.insert-requires
insert-requires c =
    let is = c.self.view_is ∙ c.make_room.ensures in
    let p = left_place c.args.self.now c.self.inside.numbers.items c.args.place c.args.number is c.requires.within.1 (record { within = c.requires.within.0; before = c.requires.before; behind = c.requires.behind }) in
    let short : length c.self.inside.numbers.items < 256 = omega (arith, ap length is, take_short 255 c.args.self.now) in
    (omega arith, (p.within, short))

pub invariant_of-self : goal.invariant_of-self
invariant_of-self c =
    let is = c.self.view_is ∙ c.make_room.ensures in
    let p = left_place c.args.self.now c.self.inside.numbers.items c.args.place c.args.number is c.requires.within.1 (record { within = c.requires.within.0; before = c.requires.before; behind = c.requires.behind }) in
    subst IsNonDecreasing (sym c.insert.ensures.items) (placed_rises c.self.inside.numbers.items c.args.place c.args.number c.self.invariant p)

pub returns : goal.returns
returns c =
    let is = c.self.view_is ∙ c.make_room.ensures in
    c.insert.ensures.items ∙ (ap (λ (l : List ℕ). insert l c.args.place c.args.number) is ∙ insert_first c.args.self.now 255 c.args.place c.args.number (omega (arith, c.requires.within.1)))
