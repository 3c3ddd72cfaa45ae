use Rattle.std.proofs.Common.{ℕ, List, Some}
use Rattle.rtsp_pacing.specs.Plays.{IsChain}
use Rattle.rtsp_pacing.proofs.Chains.{Walked}
use Rattle.rtsp_pacing.proofs.pacing.Pacing.turn_slot.Given as goal

-- so many of any chain from the first one on had their turn
abbrev pub invariant-loop-turns : goal.invariant-loop-turns
invariant-loop-turns g l = (keys : List ℕ) → IsChain l.fn.self.plays (Some l.fn.last) keys → Walked l.fn.self.plays l.fn.last l.self.plays l.next l.turns keys
