use Rattle.std.proofs.Common.{sym, ap, subst, refl, ◌∙◌}
use Rattle.rtsp_record.specs.Tables.{set}
use Rattle.rtsp_record.specs.Books.{effect}
use Rattle.rtsp_record.specs.Rules.{Living}
use Rattle.rtsp_sessions.specs.Plain.{RoomFor}
use Rattle.slab.specs.Slab.{get, with_value}
use Rattle.slab.proofs.SlabLemmas.{Updates-with_value}
use Rattle.rtsp_index.specs.Contents.{sessions_in}
use Rattle.rtsp_index.proofs.TableLemmas.{changed, dated_with, lives, no_place, row_is, row_number, row_lives, none_is}
use Rattle.rtsp_index.proofs.table.SessionTable.change.Goals as goal

pub change-requires : goal.change-requires
change-requires c =
    let t = c.args.self.now in
    subst (λ o. Living o (RoomFor c.args.change.now)) (row_lives t.places.entries t.rows c.args.session c.in-Some.place.now c.in-Some-get_mut.row.now (sym c.in-Some.ensures.value) c.in-Some-get_mut.ensures.value) c.requires

pub set-requires : goal.set-requires
set-requires c =
    let t = c.args.self.now in
    let row = lives t.places.entries t.rows c.args.session c.in-Some.place.now t.placed (sym c.in-Some.ensures.value) in
    (t.dated c.in-Some.place.now (c.args.session, row.0) row.2).0

pub invariant_of-self : goal.invariant_of-self
invariant_of-self c =
    let t = c.args.self.now in
    let k = c.in-Some.place.now in
    let at = sym c.in-Some.ensures.value in
    let number = c.change.ensures.number ∙ row_number t.places.entries t.rows c.args.session k c.in-Some-get_mut.row.now t.placed at c.in-Some-get_mut.ensures.value in
    let up = Updates-with_value t.rows k c.change.new.self (row_is t.places.entries t.rows c.args.session k t.placed at) in
    let row = lives t.places.entries t.rows c.args.session k t.placed at in
    let within = (t.dated k (c.args.session, row.0) row.2).0 in
    record {
      placed = (changed t.places.entries t.places.entries t.rows (with_value t.rows k c.change.new.self) c.args.session k t.placed (λ q h. refl) c.change.new.self at up at number).placed;
      dated = dated_with t.rows (with_value t.rows k c.change.new.self) t.expiries c.set.new.self k c.change.new.self t.dated up within c.set.ensures.places (c.set.ensures.here ∙ c.expires-expires.ensures) c.set.ensures.others;
    }

pub unreachable-requires : goal.unreachable-requires
unreachable-requires c =
    let t = c.args.self.now in
    none_is (get t.rows c.in-Some.place.now) (sym c.in-None-get_mut.ensures.value) (row_is t.places.entries t.rows c.args.session c.in-Some.place.now t.placed (sym c.in-Some.ensures.value))

pub unreachable-requires-in-None : goal.unreachable-requires-in-None
unreachable-requires-in-None c =
    let t = c.args.self.now in
    subst (λ o. Living o (RoomFor c.args.change.now)) (no_place t.places.entries t.rows c.args.session (sym c.in-None.ensures.value)) c.requires

pub returns-clause-table : goal.returns-clause-table
returns-clause-table c =
    let t = c.args.self.now in
    let k = c.in-Some.place.now in
    let at = sym c.in-Some.ensures.value in
    let number = c.change.ensures.number ∙ row_number t.places.entries t.rows c.args.session k c.in-Some-get_mut.row.now t.placed at c.in-Some-get_mut.ensures.value in
    let up = Updates-with_value t.rows k c.change.new.self (row_is t.places.entries t.rows c.args.session k t.placed at) in
    let lives = row_lives t.places.entries t.rows c.args.session k c.in-Some-get_mut.row.now at c.in-Some-get_mut.ensures.value in
    (changed t.places.entries t.places.entries t.rows (with_value t.rows k c.change.new.self) c.args.session k t.placed (λ q h. refl) c.change.new.self at up at number).table
    ∙ sym (ap (set (sessions_in t) c.args.session) (ap (effect c.args.change.now) lives ∙ c.change.ensures.session))
