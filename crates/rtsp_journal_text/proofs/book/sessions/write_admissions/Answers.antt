use Rattle.std.specs.FinMap.{entries}
use Rattle.std.proofs.lemmas.Result.{err_from_is_err_and}
use Rattle.rtsp_text.proofs.AppendLemmas.{kept_front}
use Rattle.rtsp_journal_text.proofs.Walks.{lines_more}
use Rattle.rtsp_journal_text.proofs.book.sessions.write_admissions.Goals as goal

pub returns-in_err-write_admission : goal.returns-in_err-write_admission
returns-in_err-write_admission c =
    let p = err_from_is_err_and c.from_residual.result c.from_residual.ensures.1 in
    rw p.1 (kept_front c.args.out.now.items c.loop-index.out.items c.write_admission.new.out.items _ c.loop-index.invariant c.in_err-write_admission.ensures)

pub loop-index-preserved : goal.loop-index-preserved
loop-index-preserved c =
    lines_more c.args.session c.args.out.now.items c.loop-index.out.items c.write_admission.new.out.items (entries c.args.admissions.now) c.loop-index.index c.at.result c.at.ensures c.loop-index.invariant c.in_ok-write_admission.ensures
