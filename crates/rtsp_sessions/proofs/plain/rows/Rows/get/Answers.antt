use Rattle.std.proofs.Common.{sym, ap, refl, ◌∙◌}
use Rattle.std.specs.Prelude.{option_map}
use Rattle.rtsp_record.specs.Books.{Session, Book}
use Rattle.rtsp_sessions.specs.Lookups.{session_at}
use Rattle.rtsp_sessions.proofs.PlainLemmas.{session_there, row_none}
use Rattle.rtsp_sessions.proofs.plain.rows.Rows.get.Goals as goal

pub returns-in-Ok : goal.returns-in-Ok
returns-in-Ok c =
    session_there c.views-rows.result.now c.args.session c.in-Ok.index _ c.views-rows.ensures.in_order c.in-Ok.ensures.ok c.index-rows-index.is
    ∙ ap (λ (b : Book). session_at b c.args.session) c.views-rows.ensures.table

pub returns-in-Err : goal.returns-in-Err
returns-in-Err c =
    sym (ap (option_map (λ (f : Session). (c.args.session, f))) (row_none {X = Session} c.views-rows.result.now c.views-rows.result.now c.args.session c.in-Err.field-0 c.views-rows.ensures.in_order refl c.in-Err.ensures.err))
    ∙ ap (λ (b : Book). session_at b c.args.session) c.views-rows.ensures.table
