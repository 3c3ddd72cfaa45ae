use Rattle.std.proofs.Common.{◌≡◌, ℕ, sym, ap, ◌∙◌}
use Rattle.std.specs.Prelude.{Some, nat_eq, nat_le, not}
use Rattle.std.proofs.lemmas.Option.{same_Some}
use Rattle.slab.specs.Slab.{get as row_in}
use Rattle.rtsp_record.specs.Books.{Session}
use Rattle.std.specs.FinMap.{get}
use Rattle.rtsp_sessions.specs.Searches.{is_settled, is_on}
use Rattle.indexmap.specs.IndexMap.{get as get_place}
use Rattle.rtsp_index.specs.declared.table.SessionTable.{SessionTable}
use Rattle.rtsp_index.specs.Contents.{sessions_in}
use Rattle.rtsp_index.specs.Searching.{passes}
use Rattle.rtsp_index.proofs.TableLemmas.{lives, same_session, row_is}
use Rattle.rtsp_index.proofs.table.SessionTable.takes.Goals as goal

pub at-requires : goal.at-requires
at-requires c =
    let t = c.args.self.now in
    let there = lives t.places.entries t.rows c.args.session c.args.place t.placed c.requires in
    (t.dated c.args.place (c.args.session, there.0) there.2).0

pub view_at-requires : goal.view_at-requires
view_at-requires c =
    let t = c.args.self.now in
    row_is t.places.entries t.rows c.args.session c.args.place t.placed c.requires

pub view_at-requires-in-Unsettled : goal.view_at-requires-in-Unsettled
view_at-requires-in-Unsettled c =
    let t = c.args.self.now in
    row_is t.places.entries t.rows c.args.session c.args.place t.placed c.requires

pub returns-in-Expired : goal.returns-in-Expired
returns-in-Expired c f at =
    let t = c.args.self.now in
    let there = lives t.places.entries t.rows c.args.session c.args.place t.placed c.requires in
    let date = (t.dated c.args.place (c.args.session, there.0) there.2).1 in
    let same = same_session (get (sessions_in t) c.args.session) there.0 f there.1 at in
    ap (λ n. nat_le n c.in-Expired.moment) (c.at.ensures ∙ date ∙ ap (λ (f : Session). f.expires) same) ∙ ap (λ s. passes s (c.args.session, f)) (sym c.in-Expired.is)

-- the row at the place of a session that lives
row_of : (t : SessionTable) (session place : ℕ) (f : Session) (v : ℕ × Session) → get_place nat_eq t.places session ≡ Some place → get (sessions_in t) session ≡ Some f → Some v ≡ row_in t.rows place → v ≡ (session, f)
row_of t session place f v placed at is =
    let there = lives t.places.entries t.rows session place t.placed placed in
    let same = same_session (get (sessions_in t) session) there.0 f there.1 at in
    same_Some v (session, there.0) (is ∙ there.2) ∙ (λ i. (session, same i))

pub returns-in-OnConn : goal.returns-in-OnConn
returns-in-OnConn c f at =
    let row = row_of c.args.self.now c.args.session c.args.place f c.view_at.result.now c.requires at c.view_at.ensures in
    c.is_on.ensures ∙ ap (is_on c.in-OnConn.conn) row ∙ ap (λ s. passes s (c.args.session, f)) (sym c.in-OnConn.is)

pub returns-in-Unsettled : goal.returns-in-Unsettled
returns-in-Unsettled c f at =
    let row = row_of c.args.self.now c.args.session c.args.place f c.view_at-in-Unsettled.result.now c.requires at c.view_at-in-Unsettled.ensures in
    ap not (c.is_settled.ensures ∙ ap (λ (v : ℕ × Session). is_settled v.1) row) ∙ ap (λ s. passes s (c.args.session, f)) (sym c.in-Unsettled.is)
