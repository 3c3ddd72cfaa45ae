use Rattle.std.proofs.Common.{ap, ◌∙◌}
use Rattle.rtsp_index.specs.Agreeing.{book_in}
use Rattle.rtsp_index.specs.Free.{free_ports}
use Rattle.rtsp_index.proofs.indexed.IndexedBook.free_ports.Goals as goal

pub returns : goal.returns
returns c =
    let b = book_in c.parts.result.now in
    c.free_ports.ensures b c.parts.ensures.agree.pools
    ∙ ap (λ w. free_ports w b) (c.parts.ensures.agree.whole ∙ c.parts.ensures.whole)
    ∙ ap (free_ports c.args.self.now.whole) c.parts.ensures.book
