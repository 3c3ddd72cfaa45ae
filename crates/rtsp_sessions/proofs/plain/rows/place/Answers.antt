use Rattle.std.proofs.Common.{rules}
use Rattle.std.proofs.lemmas.List.Sorted.{answers_always}
use Rattle.rtsp_sessions.proofs.SortedRows.{searched}
use Rattle.rtsp_sessions.proofs.plain.rows.place.Goals as goal

pub returns-clause-ok : goal.returns-clause-ok
returns-clause-ok c =
    let facts = c.binary_search_by_key.ensures in
    (searched c.args.session c.args.rows.now _ c.requires facts.bound (facts.position (λ row. row.0) (answers_always _ _ _ (λ f a r g called. search rules)))).found

pub returns-clause-err : goal.returns-clause-err
returns-clause-err c =
    let facts = c.binary_search_by_key.ensures in
    (searched c.args.session c.args.rows.now _ c.requires facts.bound (facts.position (λ row. row.0) (answers_always _ _ _ (λ f a r g called. search rules)))).absent
