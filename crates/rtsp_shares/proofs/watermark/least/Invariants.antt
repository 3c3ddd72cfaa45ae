use Rattle.std.proofs.Common.{◌≡◌, drop}
use Rattle.rtsp_shares.proofs.Marks.{least_of}
use Rattle.rtsp_shares.proofs.watermark.least.Given as goal

abbrev pub invariant-loop-moment : goal.invariant-loop-moment
invariant-loop-moment l = least_of l.oldest l.least (drop l.moment-index l.moments) ≡ least_of l.oldest l.now l.moments
