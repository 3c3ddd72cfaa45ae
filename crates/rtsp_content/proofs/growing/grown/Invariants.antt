use Rattle.rtsp_content.specs.Growing.{places_in}
use Rattle.rtsp_content.proofs.GivingLemmas.{Grown}
use Rattle.rtsp_content.proofs.growing.grown.Given as goal

abbrev pub invariant-loop-place : goal.invariant-loop-place
invariant-loop-place l = Grown l.old (record { free = l.free.items; number = l.given; behind = l.behind }) l.wanted l.place (places_in l.standing)
