use Rattle.rtsp_record.proofs.Back.{inverse-twice}
use Rattle.rtsp_record.proofs.laws.law_inverse.Goals as goal

pub returns : goal.returns
returns c = inverse-twice
