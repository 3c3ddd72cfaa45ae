-- What a desk behind a gate answered for players is answered, too, by whatever of it stays from one item to the next.
use Rattle.std.proofs.Common.{◌≡◌, ℕ, List, Some, Result, Ok, Err, OnOk, IfErr, refl, sym, ◌∙◌, ap, subst, inl, inr}
use Rattle.std.specs.Prelude.{◌⊎◌}
use Rattle.rtsp_content.specs.declared.server.Players.{Players}
use Rattle.rtsp_content.specs.declared.server.Players.TheVariants.{Strict, Gstreamer}
use Rattle.rtsp_lock.specs.Calls.{seat_view}
use Rattle.rtsp_lock.specs.declared.seat.BookSeat.{BookSeat}
use Rattle.rtsp_grammar.specs.declared.fault.MessageFault.{MessageFault}
use Rattle.rtsp_grammar.specs.declared.message.Item.{Item}
use Rattle.rtsp_grammar.specs.declared.message.Item.TheVariants as items
use Rattle.rtsp_grammar.specs.declared.message.Request.{Request}
use Rattle.rtsp_credentials.specs.declared.gate.Gate.{Gate}
use Rattle.rtsp_credentials.specs.declared.users.Users.{Users}
use Rattle.rtsp_credentials.specs.declared.refusal.Refusal.{Refusal}
use Rattle.rtsp_credentials.specs.Verdict.{passed}
use Rattle.rtsp_traits.specs.Devices.{Devices}
use Rattle.rtsp_engine.specs.Desk.{service, served, state, SameParts}
use Rattle.rtsp_engine.specs.DeskAnswers.{AnswersAt, GivesUpAt}
use Rattle.rtsp_engine.specs.Served.{Output, Answered, FaultedAfter}
use Rattle.rtsp_engine.specs.Serving.{Serving, AnswersFrom, GivesUpFrom, desk_serving}
use Rattle.rtsp_engine.specs.declared.desk.Desk.{Desk}
use Rattle.rtsp_engine.proofs.Parts.{same_parts}
use Rattle.rtsp_dialect.specs.Repair.{repaired, repaired_item, understood}
use Rattle.rtsp_dialect.specs.Repairing.{AnswersRepaired, GivesUpRepaired}
use Rattle.rtsp_watch.proofs.Lent.{answered_within, fault_within, IsFor}
use Rattle.rtsp_guard.specs.Guarding.{Kept, keeps, turned, AnswersBy, GivesUpBy, AnswersGuarded, GivesUpGuarded}
use Rattle.rtsp_guard.specs.Understanding.{AnswersUnderstood, GivesUpUnderstood, TakesPiece, FaultsPiece}

module _ {R B W C P S N : Type 0} where
  same_service : (s t : Desk R B W C P S N) → SameParts s t → service t ≡ service s
  same_service s t h = ap (λ z. served z.now t.asker) h.table ∙ ap (λ z. served s.table.now z) h.asker

  still : (players : Players) (s t : Desk R B W C P S N) → SameParts s t → IsFor players s → IsFor players t
  still players s t h is = ap (λ z. z.now.server.players) h.table ∙ is

  -- a seat as it is after the desk, for which the rest stayed
  abbrev after_desk : Desk R B W C P S N → BookSeat → Serving
  after_desk s seat = record { service = service s; view = seat_view seat }

  -- what stays
  abbrev pub kept : Kept (Desk R B W C P S N) → Kept Serving
  kept k = keeps k.gate k.users (desk_serving k.answerer)

  abbrev pub Meant : Players → Kept (Desk R B W C P S N) → Type 0
  Meant players s = IsFor players s.answerer

-- answers are gathered in one text
abbrev gathers : {S : Type 0} → List ℕ → S → Output S
gathers text answerer = record { text = Some text; answerer = answerer }

module _ {R B W C P S N : Type 0} (d : Devices B W C P S) where
  from : (s t : Desk R B W C P S N) (item : Item) (bytes : List ℕ) → AnswersAt d s item bytes t → AnswersFrom d (desk_serving s) item bytes (desk_serving t)
  from s t item bytes h = record { before = state s; after = state t; seen = refl; sees = refl; same = same_service s t h.1; answers = h.0 }

  lost_from : (s t : Desk R B W C P S N) (item : Item) → GivesUpAt d s item t → GivesUpFrom d (desk_serving s) item (desk_serving t)
  lost_from s t item h = record { before = state s; after = state t; seen = refl; sees = refl; same = same_service s t h.1; gives_up = h.0 }

  abbrev pub Here : Kept (Desk R B W C P S N) → Item → List ℕ → Kept (Desk R B W C P S N) → Type 0
  Here = AnswersGuarded (AnswersAt d) (GivesUpAt d)

  abbrev pub Up : Kept (Desk R B W C P S N) → Item → Kept (Desk R B W C P S N) → Type 0
  Up = GivesUpGuarded (AnswersAt d) (GivesUpAt d)

  abbrev pub HereRepaired : Kept (Desk R B W C P S N) → Item → List ℕ → Kept (Desk R B W C P S N) → Type 0
  HereRepaired = AnswersRepaired Here Up

  abbrev pub UpRepaired : Kept (Desk R B W C P S N) → Item → Kept (Desk R B W C P S N) → Type 0
  UpRepaired = GivesUpRepaired Here Up

  -- ---- by the verdict

  by : (verdict : Result Gate Refusal) (s t : Kept (Desk R B W C P S N)) (request : Request) (bytes : List ℕ) → AnswersBy (AnswersAt d) (GivesUpAt d) verdict s request bytes t
      → AnswersBy (AnswersFrom d) (GivesUpFrom d) verdict (kept s) request bytes (kept t) × SameParts s.answerer t.answerer
  by (Ok gate) s t request bytes h =
      let r = h.reaches in (
        record {
          seen = h.seen;
          taken = h.taken;
          reaches = record { answers = from s.answerer t.answerer (items.Request h.seen) bytes r.answers; goes_on = r.goes_on; users = r.users };
        },
        r.answers.1,
      )
  by (Err refusal) s t request bytes h = ((h.0, ap kept h.1), subst (λ (z : Kept (Desk R B W C P S N)). SameParts s.answerer z.answerer) (sym h.1) (same_parts s.answerer))

  up_by : (verdict : Result Gate Refusal) (s t : Kept (Desk R B W C P S N)) (request : Request) → GivesUpBy (AnswersAt d) (GivesUpAt d) verdict s request t
      → GivesUpBy (AnswersFrom d) (GivesUpFrom d) verdict (kept s) request (kept t)
  up_by (Ok gate) s t request (inl same) = inl (ap kept same)
  up_by (Ok gate) s t request (inr h) =
      let l = h.gives_up in
      inr (record {
        seen = h.seen;
        taken = h.taken;
        gives_up = record { gives_up = lost_from s.answerer t.answerer (items.Request h.seen) l.gives_up; goes_on = l.goes_on; users = l.users };
      })
  up_by (Err refusal) s t request h = ap kept h

  item_by : (item : Item) (s t : Kept (Desk R B W C P S N)) (bytes : List ℕ) → Here s item bytes t → AnswersGuarded (AnswersFrom d) (GivesUpFrom d) (kept s) item bytes (kept t) × SameParts s.answerer t.answerer
  item_by (items.Request request) s t bytes h = by (passed s.users s.gate request) s t request bytes h
  item_by (items.Response response) s t bytes h =
      (record { answers = from s.answerer t.answerer (items.Response response) bytes h.answers; goes_on = h.goes_on; users = h.users }, h.answers.1)
  item_by (items.Frame frame) s t bytes h =
      (record { answers = from s.answerer t.answerer (items.Frame frame) bytes h.answers; goes_on = h.goes_on; users = h.users }, h.answers.1)

  lost_by : (item : Item) (s t : Kept (Desk R B W C P S N)) → Up s item t → GivesUpGuarded (AnswersFrom d) (GivesUpFrom d) (kept s) item (kept t)
  lost_by (items.Request request) s t h = up_by (passed s.users s.gate request) s t request h
  lost_by (items.Response response) s t h = record { gives_up = lost_from s.answerer t.answerer (items.Response response) h.gives_up; goes_on = h.goes_on; users = h.users }
  lost_by (items.Frame frame) s t h = record { gives_up = lost_from s.answerer t.answerer (items.Frame frame) h.gives_up; goes_on = h.goes_on; users = h.users }

  -- ---- as players mean it

  meant : (players : Players) (s t : Kept (Desk R B W C P S N)) (item : Item) (bytes : List ℕ) → Meant players s → Here s (understood players item) bytes t
      → AnswersUnderstood d (kept s) item bytes (kept t) × Meant players t
  meant players s t item bytes is h =
      let r = item_by (understood players item) s t bytes h in
      (subst (λ p. AnswersGuarded (AnswersFrom d) (GivesUpFrom d) (kept s) (understood p item) bytes (kept t)) (sym is) r.0, still players s.answerer t.answerer r.1 is)

  lost_meant : (players : Players) (s t : Kept (Desk R B W C P S N)) (item : Item) → Meant players s
      → (kept t ≡ kept s) ⊎ GivesUpGuarded (AnswersFrom d) (GivesUpFrom d) (kept s) (understood players item) (kept t) → GivesUpUnderstood d (kept s) item (kept t)
  lost_meant players s t item is h = subst (λ p. (kept t ≡ kept s) ⊎ GivesUpGuarded (AnswersFrom d) (GivesUpFrom d) (kept s) (understood p item) (kept t)) (sym is) h

  pub strict_answers : (s t : Kept (Desk R B W C P S N)) (item : Item) (bytes : List ℕ) → Meant Strict s → Here s item bytes t → AnswersUnderstood d (kept s) item bytes (kept t) × Meant Strict t
  strict_answers s t item bytes is h = meant Strict s t item bytes is h

  pub strict_gives_up : (s t : Kept (Desk R B W C P S N)) (item : Item) → Meant Strict s → Up s item t → GivesUpUnderstood d (kept s) item (kept t)
  strict_gives_up s t item is h = lost_meant Strict s t item is (inr (lost_by item s t h))

  pub gstreamer_answers : (s t : Kept (Desk R B W C P S N)) (item : Item) (bytes : List ℕ) → Meant Gstreamer s → HereRepaired s item bytes t → AnswersUnderstood d (kept s) item bytes (kept t) × Meant Gstreamer t
  gstreamer_answers s t item bytes is h = meant Gstreamer s t item bytes is h

  lost_repaired : (s t : Kept (Desk R B W C P S N)) (item : Item) → UpRepaired s item t → (kept t ≡ kept s) ⊎ GivesUpGuarded (AnswersFrom d) (GivesUpFrom d) (kept s) (repaired_item item) (kept t)
  lost_repaired s t (items.Request request) (inl same) = inl (ap kept same)
  lost_repaired s t (items.Request request) (inr h) = inr (lost_by (items.Request (repaired request)) s t h)
  lost_repaired s t (items.Response response) h = inr (lost_by (items.Response response) s t h)
  lost_repaired s t (items.Frame frame) h = inr (lost_by (items.Frame frame) s t h)

  pub gstreamer_gives_up : (s t : Kept (Desk R B W C P S N)) (item : Item) → Meant Gstreamer s → UpRepaired s item t → GivesUpUnderstood d (kept s) item (kept t)
  gstreamer_gives_up s t item is h = lost_meant Gstreamer s t item is (lost_repaired s t item h)

  -- a piece that was taken at a desk for such players, and one with a fault
  module _ (Way : Kept (Desk R B W C P S N) → Item → List ℕ → Kept (Desk R B W C P S N) → Type 0) (Lost : Kept (Desk R B W C P S N) → Item → Kept (Desk R B W C P S N) → Type 0) (players : Players)
      (answers : (s t : Kept (Desk R B W C P S N)) (item : Item) (bytes : List ℕ) → Meant players s → Way s item bytes t → AnswersUnderstood d (kept s) item bytes (kept t) × Meant players t)
      (gives_up : (s t : Kept (Desk R B W C P S N)) (item : Item) → Meant players s → Lost s item t → GivesUpUnderstood d (kept s) item (kept t)) where
    pub takes : (pushed : Result (Unit {0}) MessageFault) (bytes rest old new : List ℕ) (s t : Kept (Desk R B W C P S N)) → Meant players s
        → OnOk pushed (Answered Way Lost bytes rest (gathers old s) (gathers new t)) → OnOk pushed (TakesPiece d bytes rest (gathers old (kept s)) (gathers new (kept t)))
    takes (Ok done) bytes rest old new s t p h = (answered_within Way Lost (AnswersUnderstood d) (GivesUpUnderstood d) kept (Meant players) answers gives_up bytes rest _ _ p h).0
    takes (Err fault) bytes rest old new s t p h = tt

    pub faults : (pushed : Result (Unit {0}) MessageFault) (bytes old new : List ℕ) (s t : Kept (Desk R B W C P S N)) → Meant players s
        → IfErr pushed (λ f. FaultedAfter Way Lost bytes f (gathers old s) (gathers new t)) → IfErr pushed (λ f. FaultsPiece d bytes f (gathers old (kept s)) (gathers new (kept t)))
    faults (Ok done) bytes old new s t p h = tt
    faults (Err fault) bytes old new s t p h = fault_within Way Lost (AnswersUnderstood d) (GivesUpUnderstood d) kept (Meant players) answers gives_up bytes fault _ _ p h

  -- a desk that was made for a piece: its seat and what is served are those that were lent
  returned : (Is : Output (Kept Serving) → Type 0) (new : List ℕ) (gate : Gate) (users : Users) (s t : Desk R B W C P S N) (seat : BookSeat) → t.seat.now ≡ seat → SameParts s t
      → Is (gathers new (keeps gate users (desk_serving t))) → Is (gathers new (keeps gate users (after_desk s seat)))
  returned Is new gate users s t seat is same h =
      subst (λ z. Is (gathers new (keeps gate users (after_desk s z)))) is
      (subst (λ z. Is (gathers new (keeps gate users (record { service = z; view = seat_view t.seat.now })))) (same_service s t same) h)

  pub returned_takes : (pushed : Result (Unit {0}) MessageFault) (bytes rest old new : List ℕ) (before after : Gate) (users : Users) (s t : Desk R B W C P S N) (seat : BookSeat) → t.seat.now ≡ seat → SameParts s t
      → OnOk pushed (TakesPiece d bytes rest (gathers old (keeps before users (desk_serving s))) (gathers new (keeps after users (desk_serving t))))
      → OnOk pushed (TakesPiece d bytes rest (gathers old (keeps before users (desk_serving s))) (gathers new (keeps after users (after_desk s seat))))
  returned_takes (Ok done) bytes rest old new before after users s t seat is same h =
      returned (λ z. TakesPiece d bytes rest (gathers old (keeps before users (desk_serving s))) z) new after users s t seat is same h
  returned_takes (Err fault) bytes rest old new before after users s t seat is same h = tt

  pub returned_faults : (pushed : Result (Unit {0}) MessageFault) (bytes old new : List ℕ) (before after : Gate) (users : Users) (s t : Desk R B W C P S N) (seat : BookSeat) → t.seat.now ≡ seat → SameParts s t
      → IfErr pushed (λ f. FaultsPiece d bytes f (gathers old (keeps before users (desk_serving s))) (gathers new (keeps after users (desk_serving t))))
      → IfErr pushed (λ f. FaultsPiece d bytes f (gathers old (keeps before users (desk_serving s))) (gathers new (keeps after users (after_desk s seat))))
  returned_faults (Ok done) bytes old new before after users s t seat is same h = tt
  returned_faults (Err fault) bytes old new before after users s t seat is same h =
      returned (λ z. FaultsPiece d bytes fault (gathers old (keeps before users (desk_serving s))) z) new after users s t seat is same h
