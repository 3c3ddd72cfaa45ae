use Rattle.std.proofs.Common.{◌≡◌, ◌≤◌, ℕ, List, [], length}
use Rattle.std.specs.Io.KnownBytes.{Consumes}
use Rattle.rtsp_grammar.specs.Answer.{IsUndecided}
use Rattle.rtsp_engine.specs.Served.{Progress, line, parts}
use Rattle.rtsp_engine.proofs.serving.serve_turns.Given as goal

abbrev pub invariant-loop-count : goal.invariant-loop-count
invariant-loop-count g l =
    let remaining = g.R.ByteIn.remaining in
    let contents = g.W.ByteOut.contents in
    record {
      so_far : Progress (g.A.Answerer.answers) (g.A.Answerer.gives_up) [] l.connection (line remaining contents (parts l.fn.reader l.fn.writer l.fn.answerer)) (line remaining contents (parts l.reader l.writer l.answerer));
      undecided : IsUndecided l.connection;
      reads : g.R.ByteIn.failures l.reader ≡ g.R.ByteIn.failures l.fn.reader;
      writes : g.W.ByteOut.failures l.writer ≡ g.W.ByteOut.failures l.fn.writer;
      spent : (bytes : List ℕ) × Consumes (remaining l.fn.reader) (remaining l.reader) bytes × (l._count ≤ length bytes);
    }
