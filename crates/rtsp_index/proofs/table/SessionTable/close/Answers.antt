use Rattle.std.proofs.Common.{sym}
use Rattle.std.specs.FinMap.{get}
use Rattle.rtsp_index.specs.Contents.{sessions_in}
use Rattle.rtsp_index.proofs.TableLemmas.{closed, dated_without, lives, no_place, row_is, none_is}
use Rattle.rtsp_index.proofs.table.SessionTable.close.Goals as goal

pub remove-requires : goal.remove-requires
remove-requires c =
    let t = c.args.self.now in
    row_is t.places.entries t.rows c.args.session c.in-Some.place t.placed (sym c.in-Some.ensures.value)

pub set-requires : goal.set-requires
set-requires c =
    let t = c.args.self.now in
    let row = lives t.places.entries t.rows c.args.session c.in-Some.place t.placed (sym c.in-Some.ensures.value) in
    (t.dated c.in-Some.place (c.args.session, row.0) row.2).0

pub invariant_of-self : goal.invariant_of-self
invariant_of-self c =
    let t = c.args.self.now in
    let up = c.swap_remove.ensures.updates in
    record {
      placed = (closed t.places.entries c.swap_remove.new.self.entries t.rows c.remove.new.self c.args.session c.in-Some.place t.placed up.2 (sym c.in-Some.ensures.value) c.remove.ensures.updates up.1).placed;
      dated = dated_without t.rows c.remove.new.self t.expiries c.set.new.self c.in-Some.place t.dated c.remove.ensures.updates c.set.ensures.places c.set.ensures.others;
    }

pub unreachable-requires : goal.unreachable-requires
unreachable-requires c =
    let t = c.args.self.now in
    none_is (get (sessions_in t) c.args.session) (no_place t.places.entries t.rows c.args.session (sym c.in-None.ensures.value)) c.requires

pub returns-clause-table : goal.returns-clause-table
returns-clause-table c =
    let t = c.args.self.now in
    let up = c.swap_remove.ensures.updates in
    (closed t.places.entries c.swap_remove.new.self.entries t.rows c.remove.new.self c.args.session c.in-Some.place t.placed up.2 (sym c.in-Some.ensures.value) c.remove.ensures.updates up.1).table
