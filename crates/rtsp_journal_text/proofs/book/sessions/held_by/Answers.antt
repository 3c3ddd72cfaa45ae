use Rattle.std.proofs.Common.{arith, ◌∙◌}
use Rattle.std.specs.FinMap.{entries}
use Rattle.rtsp_record.specs.Ports.{pairs, singles}
use Rattle.rtsp_journal_text.proofs.Walks.{count_more}
use Rattle.rtsp_journal_text.proofs.book.sessions.held_by.Goals as goal

pub loop-index-preserved : goal.loop-index-preserved
loop-index-preserved c =
    let i = c.loop-index.invariant in
    let es = entries c.admissions-admissions.result.now in
    let more = c.held_under-held in
    record {
      paired = count_more pairs c.loop-index.pairs more.result.pairs es c.loop-index.index c.at.result c.at.ensures more.ensures.pairs ∙ i.paired;
      single = count_more singles c.loop-index.singles more.result.singles es c.loop-index.index c.at.result c.at.ensures more.ensures.singles ∙ i.single;
      small = omega (arith, i.small, more.ensures.few);
    }
