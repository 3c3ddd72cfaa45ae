use Rattle.rtsp_book.proofs.Granted.{granted_law}
use Rattle.rtsp_book.proofs.laws.law_granted.Goals as goal

pub returns : goal.returns
returns c = granted_law
