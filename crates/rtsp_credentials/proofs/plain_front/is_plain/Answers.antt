use Rattle.rtsp_credentials.proofs.Plain.{plain_by}
use Rattle.rtsp_credentials.proofs.plain_front.is_plain.Goals as goal

pub returns : goal.returns
returns c = plain_by c.split_once.result c.is_none.result c.args.unquoted.now c.requires c.split_once.ensures c.is_none.ensures
