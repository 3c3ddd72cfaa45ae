use Rattle.rtsp_index.specs.Agreeing.{book_in}
use Rattle.rtsp_index.proofs.AgreeLemmas.{id_free}
use Rattle.rtsp_index.proofs.parts.Parts.has_no_id.Goals as goal

pub returns : goal.returns
returns c =
    let b = book_in c.args.self.now in
    id_free b c.args.id c.by_id.result c.is_none.result (c.by_id.ensures b c.requires.names) c.is_none.ensures
