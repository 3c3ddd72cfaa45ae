use Rattle.std.proofs.Common.{◌≤◌, subst, arith, length, List, ℕ}
use Rattle.rtsp_sessions.proofs.NumberLemmas.{unless_last}
use Rattle.rtsp_sessions.proofs.numbers.SessionNumbers.insert_unless_last.Goals as goal

pub returns-else-place-lt256 : goal.returns-else-place-lt256
returns-else-place-lt256 c =
    let short = subst (λ (l : List ℕ). length l ≤ 256) c.self.view_is (omega (arith, c.len-len.ensures)) in
    unless_last c.args.self.now 256 c.args.place c.args.number short (omega (arith, c.if-place-lt256.false)) c.requires.within
