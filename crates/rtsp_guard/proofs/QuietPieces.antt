-- Pieces of which no request is let through.
use Rattle.std.proofs.Common.{◌≡◌, ℕ, List, [], ◌∷◌, map, Result, Ok, Err, refl, sym, ◌∙◌, ap, subst}
use Rattle.rtsp_content.specs.declared.server.Players.{Players}
use Rattle.rtsp_grammar.specs.declared.message.Item.{Item}
use Rattle.rtsp_grammar.specs.declared.message.Item.TheVariants as items
use Rattle.rtsp_grammar.specs.declared.message.Request.{Request}
use Rattle.rtsp_credentials.specs.declared.gate.Gate.{Gate}
use Rattle.rtsp_credentials.specs.declared.users.Users.{Users}
use Rattle.rtsp_credentials.specs.declared.refusal.Refusal.{Refusal}
use Rattle.rtsp_credentials.specs.Verdict.{passed}
use Rattle.rtsp_lock.specs.declared.view.View.{View}
use Rattle.rtsp_traits.specs.Devices.{Devices}
use Rattle.rtsp_engine.specs.Desk.{Service, State}
use Rattle.rtsp_engine.specs.Served.{Output, Served}
use Rattle.rtsp_engine.specs.Serving.{Serving, AnswersFrom, GivesUpFrom}
use Rattle.rtsp_dialect.specs.Repair.{understood}
use Rattle.rtsp_watch.specs.Understanding.{players_served}
use Rattle.rtsp_guard.specs.Guarding.{Kept, turned, AnswersBy, AnswersGuarded}
use Rattle.rtsp_guard.specs.AtDesk.{NoneIsLetThrough}
use Rattle.rtsp_guard.specs.Quiet.{OnlyCounted}
use Rattle.rtsp_guard.specs.QuietPieces.{StaysServed, PiecesChangeNothing}
use Rattle.rtsp_guard.specs.Understanding.{AnswersUnderstood, GivesUpUnderstood}
use Rattle.rtsp_guard.proofs.AtDesk.{behind}
use Rattle.rtsp_guard.proofs.Counting.{same_gate, after_counted, counted_again, stays_refused}

stays : (s t : Kept Serving) → t ≡ s → StaysServed s t
stays s t e = subst (λ (z : Kept Serving). StaysServed s z) (sym e) (record { serving = refl; gate = same_gate s.gate s.gate refl; users = refl })

turned_stays : (refusal : Refusal) (s t : Kept Serving) → t ≡ turned refusal s → StaysServed s t
turned_stays refusal s t e = subst (λ (z : Kept Serving). StaysServed s z) (sym e) (record { serving = refl; gate = after_counted refusal s.gate; users = refl })

again : (s t u : Kept Serving) → StaysServed s t → StaysServed t u → StaysServed s u
again s t u h k = record { serving = k.serving ∙ h.serving; gate = counted_again s.gate t.gate u.gate h.gate k.gate; users = k.users ∙ h.users }

same_serving : (s t : Serving) → t.service ≡ s.service → t.view ≡ s.view → t ≡ s
same_serving s t service view = ap (λ (z : Service). record { service = z; view = t.view }) service ∙ ap (λ (z : View). record { service = s.service; view = z }) view

module _ {B W C P S : Type 0} (d : Devices B W C P S) where
  -- a response or a frame is answered with nothing
  nothing_done : (s t : Serving) (before after : State B W C P S) → before.view ≡ s.view → after.view ≡ t.view → t.service ≡ s.service → after ≡ before → t ≡ s
  nothing_done s t before after seen sees same e = same_serving s t same (sym sees ∙ ap (λ (z : State B W C P S). z.view) e ∙ seen)

  refused : (verdict : Result Gate Refusal) (refusal : Refusal) (s t : Kept Serving) (request : Request) (bytes : List ℕ) → verdict ≡ Err refusal
      → AnswersBy (AnswersFrom d) (GivesUpFrom d) verdict s request bytes t → StaysServed s t
  refused (Ok gate) refusal s t request bytes e h = absurd cc
  refused (Err other) refusal s t request bytes e h = turned_stays other s t h.1

  one : (users : Users) (gate : Gate) (s t : Kept Serving) (item : Item) (others : List Item) (bytes : List ℕ) → s.users ≡ users → OnlyCounted gate s.gate
      → NoneIsLetThrough users gate (item ∷ others) → AnswersGuarded (AnswersFrom d) (GivesUpFrom d) s item bytes t → StaysServed s t
  one users gate s t (items.Request request) others bytes u g none h =
      let r = stays_refused users gate s.gate request none.0.0 g none.0.1 in
      refused (passed s.users s.gate request) r.0 s t request bytes (ap (λ (x : Users). passed x s.gate request) u ∙ r.1) h
  one users gate s t (items.Response response) others bytes u g none h =
      let a = h.answers in
      record { serving = nothing_done s.answerer t.answerer a.before a.after a.seen a.sees a.same a.answers.1; gate = same_gate s.gate t.gate h.goes_on; users = h.users }
  one users gate s t (items.Frame frame) others bytes u g none h =
      let a = h.answers in
      record { serving = nothing_done s.answerer t.answerer a.before a.after a.seen a.sees a.same a.answers.1; gate = same_gate s.gate t.gate h.goes_on; users = h.users }

  served_quiet : (users : Users) (gate : Gate) (players : Players) (all : List Item) (bytes output : List ℕ) (s t : Kept Serving) → s.users ≡ users → s.gate ≡ gate → players_served s.answerer ≡ players
      → NoneIsLetThrough users gate (map (understood players) all) → Served (AnswersUnderstood d) (GivesUpUnderstood d) all bytes s output t → StaysServed s t
  served_quiet users gate players [] bytes output s t u g p none h = stays s t h.2
  served_quiet users gate players (item ∷ before) bytes output s t u g p none h =
      let so_far = served_quiet users gate players before h.front h.first s h.mid u g p (behind users gate (understood players item) (map (understood players) before) none) h.before in
      let counted = subst (λ (x : Gate). OnlyCounted x h.mid.gate) g so_far.gate in
      let meant : players_served h.mid.answerer ≡ players = ap players_served so_far.serving ∙ p in
      let answer = subst (λ (q : Players). AnswersGuarded (AnswersFrom d) (GivesUpFrom d) h.mid (understood q item) h.last t) meant h.answer in
      again s h.mid t so_far (one users gate h.mid t (understood players item) (map (understood players) before) h.last (so_far.users ∙ u) counted none answer)

  pub pieces_change_nothing : PiecesChangeNothing d
  pieces_change_nothing bytes rest s t h none =
      served_quiet s.answerer.users s.answerer.gate (players_served s.answerer.answerer) h.items h.done h.output s.answerer t.answerer refl refl refl none h.served
