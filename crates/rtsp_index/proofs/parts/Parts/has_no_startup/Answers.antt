use Rattle.rtsp_index.specs.Agreeing.{book_in}
use Rattle.rtsp_index.proofs.AgreeLemmas.{startup_free}
use Rattle.rtsp_index.proofs.parts.Parts.has_no_startup.Goals as goal

pub returns : goal.returns
returns c =
    let b = book_in c.args.self.now in
    startup_free b c.args.conn c.args.number c.by_startup.result c.is_none.result (c.by_startup.ensures b c.requires.names) c.is_none.ensures
