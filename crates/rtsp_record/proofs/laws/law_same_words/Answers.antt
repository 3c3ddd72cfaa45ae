use Rattle.rtsp_record.proofs.SameWords.{same_words_law}
use Rattle.rtsp_record.proofs.laws.law_same_words.Goals as goal

pub returns : goal.returns
returns c = same_words_law
