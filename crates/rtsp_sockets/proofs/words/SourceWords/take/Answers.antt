use Rattle.std.proofs.Common.{◌+◌, drop, subst, sym}
use Rattle.std.specs.Io.KnownBytes.{prepend_known}
use Rattle.rtsp_sockets.specs.SourceWords.{Draws}
use Rattle.rtsp_sockets.proofs.Sources.{draws_next, draws_after}
use Rattle.rtsp_sockets.proofs.words.SourceWords.take.Goals as goal

pub returns-clause-drawn : goal.returns-clause-drawn
returns-clause-drawn g c =
    let source = g.S.Read.remaining c.ready.new.self.source in
    let pool = c.ready.new.self.pool in
    let used = c.ready.new.self.used in
    draws_after _ (prepend_known (drop used pool) source) _ _ c.ready.ensures.lost
    (subst (λ bytes. Draws (prepend_known (drop used pool) source) bytes (prepend_known (drop (used + g.row.N) pool) source)) (sym c.copy_from_slice.ensures.after) (draws_next source pool used g.row.N))
