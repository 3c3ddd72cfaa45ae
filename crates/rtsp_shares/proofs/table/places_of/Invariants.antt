use Rattle.std.proofs.Common.{◌≡◌, ◌≤◌, take}
use Rattle.rtsp_shares.specs.Places.{places_of}
use Rattle.rtsp_shares.proofs.table.places_of.Given as goal

abbrev pub invariant-loop-place : goal.invariant-loop-place
invariant-loop-place l = (l.count ≡ places_of l.address (take l.place-index l.places)) × (l.count ≤ l.place-index)
