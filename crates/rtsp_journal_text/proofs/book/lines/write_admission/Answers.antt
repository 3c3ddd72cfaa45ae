use Rattle.std.proofs.Common.{◌++◌}
use Rattle.rtsp_record.specs.Rules.{as_rate}
use Rattle.rtsp_text.proofs.AppendLemmas.{appends_then}
use Rattle.rtsp_journal_text.specs.BookText.{hold_lines, stream_lines}
use Rattle.rtsp_journal_text.proofs.book.lines.write_admission.Goals as goal

pub returns : goal.returns
returns c =
    let s = c.args.session in
    let a = c.args.row.now.0 in
    let d = c.args.row.now.1 in
    appends_then c.write_stream.result c.args.out.now.items c.write_rate.new.out.items c.write_stream.new.out.items (hold_lines s a (as_rate d.rate)) (hold_lines s a d.address ++ stream_lines s a d.stream)
    c.in_ok-write_rate.ensures
    (appends_then c.write_stream.result c.write_rate.new.out.items c.write_hold.new.out.items c.write_stream.new.out.items (hold_lines s a d.address) (stream_lines s a d.stream) c.in_ok-write_hold.ensures c.write_stream.ensures)
