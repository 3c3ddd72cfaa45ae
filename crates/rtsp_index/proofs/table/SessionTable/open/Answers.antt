use Rattle.std.proofs.Common.{◌<◌, ◌≤◌, sym, ap, ◌∙◌, arith}
use Rattle.std.specs.Prelude.{Some}
use Rattle.indexmap.specs.IndexMap.{spare}
use Rattle.rtsp_record.specs.Tables.{set}
use Rattle.rtsp_index.specs.Contents.{sessions_in}
use Rattle.rtsp_index.proofs.TableLemmas.{opened, dated_with, on_ok}
use Rattle.rtsp_index.proofs.table.SessionTable.open.Goals as goal

pub set-requires : goal.set-requires
set-requires c =
    let t = c.args.self.now in
    let wide : t.rows.capacity ≤ t.expiries.places = c.requires.room.2 (omega arith) in
    let place = c.insert_reserved-place.ensures in
    omega (arith, wide, place.key_in_range, place.capacity)

pub invariant_of-self : goal.invariant_of-self
invariant_of-self c =
    let t = c.args.self.now in
    let room : 0 < spare t.places = omega (arith, c.requires.room.0) in
    let up = on_ok c.insert.result _ c.insert.ensures.updates (c.insert.ensures.succeeds room) in
    let place = c.insert_reserved-place.ensures in
    let wide : t.rows.capacity ≤ t.expiries.places = c.requires.room.2 (omega arith) in
    let within : c.insert_reserved-place.result < t.expiries.places = omega (arith, wide, place.key_in_range, place.capacity) in
    record {
      placed = (opened t.places.entries c.insert.new.self.entries t.rows c.insert_reserved-place.new.self c.session-session.result c.insert_reserved-place.result t.placed up.2 c.args.view place.was_vacant place.updates up.1 (sym c.session-session.ensures)).placed;
      dated = dated_with t.rows c.insert_reserved-place.new.self t.expiries c.set.new.self c.insert_reserved-place.result c.args.view t.dated place.updates within c.set.ensures.places (c.set.ensures.here ∙ c.expires-expires.ensures) c.set.ensures.others;
    }

pub returns-clause-table : goal.returns-clause-table
returns-clause-table c =
    let t = c.args.self.now in
    let up = c.in-Ok.ensures.updates in
    (opened t.places.entries c.insert.new.self.entries t.rows c.insert_reserved-place.new.self c.session-session.result c.insert_reserved-place.result t.placed up.2 c.args.view c.insert_reserved-place.ensures.was_vacant c.insert_reserved-place.ensures.updates up.1 (sym c.session-session.ensures)).table
    ∙ ap (λ s. set (sessions_in t) s (Some c.args.view.1)) c.session-session.ensures
