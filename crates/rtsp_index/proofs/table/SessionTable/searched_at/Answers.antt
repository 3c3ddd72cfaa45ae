use Rattle.std.proofs.Common.{sym, subst, ◌∙◌}
use Rattle.rtsp_index.specs.Contents.{sessions_in}
use Rattle.rtsp_index.specs.Searching.{passes, Passes}
use Rattle.rtsp_index.proofs.TableLemmas.{lives, told_apart, same_first}
use Rattle.rtsp_index.proofs.table.SessionTable.searched_at.Goals as goal

pub returns-then-takes-clause-found : goal.returns-then-takes-clause-found
returns-then-takes-clause-found c =
    let t = c.args.self.now in
    let entry = c.in_ok-entry.entry in
    let there = lives t.places.entries t.rows entry.0.now entry.1.now t.placed c.in_ok-entry.ensures.value in
    (there.0, there.1, sym (c.takes.ensures there.0 there.1) ∙ c.if-takes.true)

pub returns-else-takes-clause-only : goal.returns-else-takes-clause-only
returns-else-takes-clause-only c e at p =
    let t = c.args.self.now in
    let entry = c.in_ok-entry.entry in
    let same = same_first entry.0.now entry.1.now e (c.in_ok-entry.ensures.entry ∙ at) in
    let b = sessions_in t in
    let test = passes c.args.search.now in
    absurd (told_apart test b entry.0.now c.takes.result c.takes.ensures c.if-takes.false (subst (Passes test b) (sym same) p))
