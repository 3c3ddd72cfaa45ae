use Rattle.rtsp_book.proofs.Giving.{giving_back_law}
use Rattle.rtsp_book.proofs.laws.law_giving_back.Goals as goal

pub returns : goal.returns
returns c = giving_back_law
