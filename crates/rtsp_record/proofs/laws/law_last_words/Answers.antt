use Rattle.rtsp_record.proofs.LastWords.{last_words_law}
use Rattle.rtsp_record.proofs.laws.law_last_words.Goals as goal

pub returns : goal.returns
returns c = last_words_law
