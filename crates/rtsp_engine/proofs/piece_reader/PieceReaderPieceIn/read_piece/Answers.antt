use Rattle.std.proofs.Common.{refl}
use Rattle.std.proofs.KnownBytes.{Keeps-refl}
use Rattle.rtsp_engine.proofs.Known.{counts_after, reads_after}
use Rattle.rtsp_engine.proofs.piece_reader.PieceReaderPieceIn.read_piece.Goals as goal

pub loop-init : goal.loop-init
loop-init g c = record { kept = Keeps-refl _; count = refl }

pub returns-in-Some-clause-bytes : goal.returns-in-Some-clause-bytes
returns-in-Some-clause-bytes g c = reads_after _ _ _ c.in-Some.reading c.read_once.new.buffer c.loop.invariant.kept c.in-Some.ensures.bytes

pub returns-in-Some-clause-cause : goal.returns-in-Some-clause-cause
returns-in-Some-clause-cause g c = counts_after _ _ _ c.in-Some.reading c.loop.invariant.count c.in-Some.ensures.cause
