use Rattle.std.proofs.Common.{◌≡◌, length}
use Rattle.rtsp_grammar.specs.Answer.{IsUndecided}
use Rattle.rtsp_engine.specs.Served.{parts}
use Rattle.rtsp_engine.specs.Visiting.{sides}
use Rattle.rtsp_engine.proofs.Batches.{Batch}
use Rattle.rtsp_engine.proofs.Pieces.{InPieces}
use Rattle.rtsp_engine.proofs.visiting.visit.Given as goal

abbrev pub invariant-loop-count : goal.invariant-loop-count
invariant-loop-count g l =
    let line = sides g.I.PieceIn.remaining g.O.ByteOut.contents g.A.PieceAnswerer.serving in
    record {
      batch : Batch (g.A.PieceAnswerer.answers) (g.A.PieceAnswerer.gives_up) l.fn.input l.input l.room.text (line (parts l.fn.reader l.fn.writer l.fn.answerer)) (line (parts l.reader l.writer l.answerer));
      undecided : IsUndecided l.fn.input → IsUndecided l.input;
      reads : g.I.PieceIn.failures l.reader ≡ g.I.PieceIn.failures l.fn.reader;
      writes : g.O.ByteOut.failures l.writer ≡ g.O.ByteOut.failures l.fn.writer;
      pieces : InPieces l._count (length l.fn.buffer) (g.I.PieceIn.remaining l.fn.reader) (g.I.PieceIn.remaining l.reader);
    }
