use Rattle.std.proofs.Common.{rules, ◌≡◌, [], subst}
use Rattle.std.proofs.lemmas.List.{nil_from_length}
use Rattle.rtsp_sockets.specs.Passing.{Waiting}
use Rattle.rtsp_sockets.proofs.Passing.{nothing_flushed}
use Rattle.rtsp_sockets.proofs.pending.Pending.flush.Goals as goal

pub returns-then-is_empty-clause-some : goal.returns-then-is_empty-clause-some
returns-then-is_empty-clause-some g c =
    let nothing = subst (λ (w : Waiting). w.bytes ≡ []) c.self.view_is (nil_from_length c.self.inside.bytes.items (search rules)) in
    nothing_flushed g.W.TryWrite.tries c.args.to.now c.args.self.now c.args.now nothing
