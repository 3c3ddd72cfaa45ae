use Rattle.rtsp_state.proofs.PlainUriLemmas.{plain_media}
use Rattle.rtsp_state.proofs.order_of_refusals.media_of.Goals as goal

pub returns-in-Some : goal.returns-in-Some
returns-in-Some c =
    let same = plain_media c.args.table.now c.args.text.now c.in-Some.path.now c.in-Some.ensures in
    rw same c.plain_media.ensures
