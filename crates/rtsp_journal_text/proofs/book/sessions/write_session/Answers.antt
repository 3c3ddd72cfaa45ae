use Rattle.std.proofs.Common.{◌≡◌, ◌++◌}
use Rattle.std.specs.List.{flat_map}
use Rattle.std.specs.FinMap.{entries}
use Rattle.rtsp_text.specs.Appending.{Appends}
use Rattle.rtsp_text.proofs.AppendLemmas.{appends_then}
use Rattle.rtsp_journal_text.specs.BookText.{admission_text, binding_lines, session_line}
use Rattle.rtsp_journal_text.proofs.book.sessions.write_session.Goals as goal

pub returns : goal.returns
returns c =
    let s = c.args.view.now.0 in
    let f = c.args.view.now.1 in
    let rows : c.write_admissions.new.out.items ≡ c.write_own.new.out.items ++ flat_map (admission_text s) (entries f.admissions) =
    rw (c.session.ensures, c.admissions.ensures) at c.in_ok-write_admissions.ensures in
    let bound : Appends c.write_binding.result c.write_admissions.new.out.items c.write_binding.new.out.items (binding_lines s f.binding) =
    rw (c.session-2.ensures, c.binding.ensures) at c.write_binding.ensures in
    appends_then c.write_binding.result c.args.out.now.items c.write_own.new.out.items c.write_binding.new.out.items (session_line s f) (flat_map (admission_text s) (entries f.admissions) ++ binding_lines s f.binding)
    c.in_ok-write_own.ensures
    (appends_then c.write_binding.result c.write_own.new.out.items c.write_admissions.new.out.items c.write_binding.new.out.items (flat_map (admission_text s) (entries f.admissions)) (binding_lines s f.binding) rows bound)
