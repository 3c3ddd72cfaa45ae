use Rattle.std.proofs.Common.{◌≡◌, ◌<◌, ◌-◌, List, ℕ, length, sym, subst, ◌∙◌, arith, take}
use Rattle.std.proofs.lemmas.List.{take_all}
use Rattle.std.specs.List.Sorted.{IsNonDecreasing}
use Rattle.rtsp_sessions.proofs.NumberLemmas.{fewer, rising-take}
use Rattle.rtsp_sessions.proofs.numbers.SessionNumbers.make_room.Goals as goal

pub returns-else-is_full : goal.returns-else-is_full
returns-else-is_full c =
    let xs = c.self.inside.numbers.items in
    let few : length xs < 256 = fewer (length xs) 256 c.is_full.ensures.fits (sym c.is_full.ensures.value ∙ c.if-is_full.false) in
    subst (λ (l : List ℕ). l ≡ take 255 l) c.self.view_is (sym (take_all 255 xs (omega (arith, few))))

pub invariant_of-self : goal.invariant_of-self
invariant_of-self c =
    let xs = c.self.inside.numbers.items in
    subst IsNonDecreasing (sym c.pop.ensures.rest) (rising-take (length xs - 1) xs (omega arith) c.self.invariant)
