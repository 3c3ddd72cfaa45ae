use Rattle.std.proofs.Common.{◌≡◌, ℕ, ◌+◌, ◌*◌, ◌/◌, ◌≤◌, List, get_or, ◌∙◌, sym, ap, subst, arith, rules}
use Rattle.std.specs.Prelude.{IfNone}
use Rattle.std.specs.Int.{bit_at}
use Rattle.rtsp_pools.specs.Bits.{bit_of}
use Rattle.rtsp_pools.proofs.BitLemmas.{placed, inside, no_bits, least_of, none_of, below_limit, read}
use Rattle.rtsp_pools.proofs.bit_set.BitSet.least_from.Goals as goal

pub returns-in-Some-clause-found : goal.returns-in-Some-clause-found
returns-in-Some-clause-found c =
    let s = c.args.self.now in
    let at = c.args.from / 64 in
    let here = read s.words.items at c.index.result.now (omega (arith, c.if-index-len.false, c.len.ensures)) c.index.ensures in
    let found = c.in-Some.ensures.found in
    let is : bit_of s.words.items (at * 64 + c.in-Some.bit) ≡ 1 = placed s.words.items at c.in-Some.bit found.0 ∙ ap (λ w. bit_at w c.in-Some.bit) (sym here) ∙ found.2 in
    (below_limit s.limit s.words.items s.summary.items s.count _ s.summed is, omega (arith, found.1), is)

pub returns-in_err-next-clause-none : goal.returns-in_err-next-clause-none
returns-in_err-next-clause-none c =
    let s = c.args.self.now in
    let here = read s.words.items (c.args.from / 64) c.index.result.now (omega (arith, c.if-index-len.false, c.len.ensures)) c.index.ensures in
    subst (λ r. IfNone r ((j : ℕ) → c.args.from ≤ j → bit_of s.words.items j ≡ 0)) (sym c.from_residual.ensures)
    (none_of s.limit s.words.items s.summary.items s.count c.args.from s.summed
    (λ i low lt. ap (λ w. bit_at w i) (sym here) ∙ c.in_default.ensures.none i low lt)
    (λ w later. ap (λ (ws : List ℕ). bit_of ws w) (sym c.deref.ensures.value) ∙ c.in_err-next.ensures.none w later))

pub index-requires-2 : goal.index-requires-2
index-requires-2 c =
    let s = c.args.self.now in
    let next = c.in_ok-next.next in
    let is : bit_of s.summary.items next ≡ 1 = ap (λ (ws : List ℕ). bit_of ws next) (sym c.deref.ensures.value) ∙ c.in_ok-next.ensures.found.2 in
    omega (arith, inside s.words.items next (s.summed.some next is))

pub returns-in_err-bit-clause-none : goal.returns-in_err-bit-clause-none
returns-in_err-bit-clause-none c =
    let s = c.args.self.now in
    let next = c.in_ok-next.next in
    let is : bit_of s.summary.items next ≡ 1 = ap (λ (ws : List ℕ). bit_of ws next) (sym c.deref.ensures.value) ∙ c.in_ok-next.ensures.found.2 in
    let some = s.summed.some next is in
    let here = read s.words.items next c.index-2.result.now (inside s.words.items next some) c.index-2.ensures in
    absurd (omega (arith, some, no_bits (get_or s.words.items next 0) (search rules) (λ i low lt. ap (λ w. bit_at w i) (sym here) ∙ c.in_err-bit.ensures.none i low lt)))

pub returns-clause-found : goal.returns-clause-found
returns-clause-found c =
    let s = c.args.self.now in
    let next = c.in_ok-next.next in
    let summed : bit_of s.summary.items next ≡ 1 = ap (λ (ws : List ℕ). bit_of ws next) (sym c.deref.ensures.value) ∙ c.in_ok-next.ensures.found.2 in
    let here = read s.words.items next c.index-2.result.now (inside s.words.items next (s.summed.some next summed)) c.index-2.ensures in
    let found = c.in_ok-bit.ensures.found in
    let is : bit_of s.words.items (next * 64 + c.in_ok-bit.bit) ≡ 1 = placed s.words.items next c.in_ok-bit.bit found.0 ∙ ap (λ w. bit_at w c.in_ok-bit.bit) (sym here) ∙ found.2 in
    (below_limit s.limit s.words.items s.summary.items s.count _ s.summed is, omega (arith, c.in_ok-next.ensures.found.0), is)

pub returns-clause-least : goal.returns-clause-least
returns-clause-least c =
    let s = c.args.self.now in
    let next = c.in_ok-next.next in
    let summed : bit_of s.summary.items next ≡ 1 = ap (λ (ws : List ℕ). bit_of ws next) (sym c.deref.ensures.value) ∙ c.in_ok-next.ensures.found.2 in
    let first = read s.words.items (c.args.from / 64) c.index.result.now (omega (arith, c.if-index-len.false, c.len.ensures)) c.index.ensures in
    let here = read s.words.items next c.index-2.result.now (inside s.words.items next (s.summed.some next summed)) c.index-2.ensures in
    least_of s.limit s.words.items s.summary.items s.count c.args.from next c.in_ok-bit.bit s.summed
    (λ i low lt. ap (λ w. bit_at w i) (sym first) ∙ c.in_default.ensures.none i low lt)
    (λ w from below. ap (λ (ws : List ℕ). bit_of ws w) (sym c.deref.ensures.value) ∙ c.in_ok-next.ensures.least w from below)
    c.in_ok-bit.ensures.found.0 (λ i low lt. ap (λ w. bit_at w i) (sym here) ∙ c.in_ok-bit.ensures.least i low lt)
