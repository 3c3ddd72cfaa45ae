use Rattle.std.proofs.Common.{sym}
use Rattle.rtsp_record.specs.Sums.{sessions, returns as returned}
use Rattle.rtsp_record.proofs.Sound.{amount-empty}
use Rattle.rtsp_index.proofs.counts.Counts.new.Goals as goal

pub returns : goal.returns
returns c = record { living = sym (amount-empty sessions); owed = sym (amount-empty returned); bindings = c.new.ensures }
