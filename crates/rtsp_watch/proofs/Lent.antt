-- What a desk answered for players is answered, too, by whatever of it stays from one item to the next.
use Rattle.std.proofs.Common.{◌≡◌, ℕ, List, [], ◌∷◌, Some, Result, Ok, Err, OnOk, IfErr, refl, sym, ◌∙◌, ap, subst, inl, inr}
use Rattle.rtsp_content.specs.declared.server.Players.{Players}
use Rattle.rtsp_content.specs.declared.server.Players.TheVariants.{Strict, Gstreamer}
use Rattle.rtsp_lock.specs.Calls.{seat_view}
use Rattle.rtsp_lock.specs.declared.seat.BookSeat.{BookSeat}
use Rattle.rtsp_grammar.specs.declared.fault.MessageFault.{MessageFault}
use Rattle.rtsp_grammar.specs.declared.message.Item.{Item}
use Rattle.rtsp_grammar.specs.declared.message.Item.TheVariants as items
use Rattle.rtsp_engine.specs.Conversing.{Answers, GivesUp}
use Rattle.rtsp_engine.specs.Desk.{service, served, state, SameParts}
use Rattle.rtsp_engine.specs.DeskAnswers.{AnswersAt, GivesUpAt}
use Rattle.rtsp_traits.specs.Devices.{Devices}
use Rattle.rtsp_engine.specs.Served.{Output, Served, Answered, Faulted, FaultedAfter}
use Rattle.rtsp_engine.specs.Numbers.{VisitedDrawn}
use Rattle.rtsp_engine.specs.Serving.{Serving, desk_serving}
use Rattle.rtsp_engine.specs.declared.desk.Desk.{Desk}
use Rattle.rtsp_engine.proofs.Along.{along}
use Rattle.rtsp_dialect.specs.Repair.{understood}
use Rattle.rtsp_dialect.specs.Repairing.{AnswersRepaired, GivesUpRepaired}
use Rattle.rtsp_watch.specs.Understanding.{meaning, AnswersUnderstood, GivesUpUnderstood, TakesPiece, FaultsPiece, LeavesTaken, LeavesFaulted}
use Rattle.rtsp_watch.proofs.Desks.{gives_up_same}

-- of one of whom something is so, and stays so
module _ {S T : Type 0} (R : S → Item → List ℕ → S → Type 0) (L : S → Item → S → Type 0) (R' : T → Item → List ℕ → T → Type 0) (L' : T → Item → T → Type 0) (f : S → T) (P : S → Type 0)
    (answers : (s t : S) (item : Item) (bytes : List ℕ) → P s → R s item bytes t → R' (f s) item bytes (f t) × P t) (gives_up : (s t : S) (item : Item) → P s → L s item t → L' (f s) item (f t)) where
  served_within : (all : List Item) (bytes output : List ℕ) (s t : S) → P s → Served R L all bytes s output t → Served R' L' all bytes (f s) output (f t) × P t
  served_within [] bytes output s t p h = ((h.0, h.1, ap f h.2), subst P (sym h.2) p)
  served_within (item ∷ before) bytes output s t p h =
      let first = served_within before h.front h.first s h.mid p h.before in
      let last = answers h.mid t item h.last first.1 h.answer in
      (record { front = h.front; back = h.back; first = h.first; last = h.last; mid = f h.mid; before = first.0; spelled = h.spelled; answer = last.0; parts = h.parts; answers = h.answers }, last.1)

  pub answered_within : (bytes rest : List ℕ) (s t : Output S) → P s.answerer → Answered R L bytes rest s t → Answered R' L' bytes rest (along f s) (along f t) × P t.answerer
  answered_within bytes rest s t p h =
      let r = served_within h.items h.done h.output s.answerer t.answerer p h.served in
      (record { items = h.items; done = h.done; output = h.output; parts = h.parts; written = h.written; served = r.0 }, r.1)

  faulted_within : (rest : List ℕ) (fault : MessageFault) (s t : S) → P s → Faulted R L rest fault s t → Faulted R' L' rest fault (f s) (f t)
  faulted_within rest fault s t p (inl has) = inl (has.0, ap f has.1)
  faulted_within rest fault s t p (inr (is, inl same)) = inr (is, inl (ap f same))
  faulted_within rest fault s t p (inr (is, inr left)) = inr (is, inr (record { item = left.item; size = left.size; stands = left.stands; left = gives_up s t left.item p left.left }))

  pub fault_within : (bytes : List ℕ) (fault : MessageFault) (s t : Output S) → P s.answerer → FaultedAfter R L bytes fault s t → FaultedAfter R' L' bytes fault (along f s) (along f t)
  fault_within bytes fault s t p h =
      let r = answered_within bytes h.rest s (record { text = t.text; answerer = h.mid }) p h.answered in
      record { rest = h.rest; mid = f h.mid; answered = r.0; faulted = faulted_within h.rest fault h.mid t.answerer r.1 h.faulted }

-- answers are gathered in one text
abbrev gathers : {S : Type 0} → List ℕ → S → Output S
gathers text answerer = record { text = Some text; answerer = answerer }

module _ {R B W C P S N : Type 0} where
  same_service : (s t : Desk R B W C P S N) → SameParts s t → service t ≡ service s
  same_service s t h = ap (λ z. served z.now t.asker) h.table ∙ ap (λ z. served s.table.now z) h.asker

  -- the desk's configuration is for such players
  abbrev pub IsFor : Players → Desk R B W C P S N → Type 0
  IsFor players desk = desk.table.now.server.players ≡ players

  still : (players : Players) (s t : Desk R B W C P S N) → SameParts s t → IsFor players s → IsFor players t
  still players s t h is = ap (λ z. z.now.server.players) h.table ∙ is

  -- a seat as it is after the desk, for which the rest stayed
  abbrev after : Desk R B W C P S N → BookSeat → Serving
  after s seat = record { service = service s; view = seat_view seat }

  module _ (d : Devices B W C P S) where
    answers_meant : (players : Players) (s t : Desk R B W C P S N) (item : Item) (bytes : List ℕ) → IsFor players s
        → Answers d (service s) (understood players item) bytes (state s) (state t) → SameParts s t → AnswersUnderstood d (desk_serving s) item bytes (desk_serving t)
    answers_meant players s t item bytes is h same = record {
      before = state s;
      after = state t;
      seen = refl;
      sees = refl;
      same = same_service s t same;
      answers = subst (λ p. Answers d (service s) (understood p item) bytes (state s) (state t)) (sym is) h;
    }

    gives_up_meant : (players : Players) (s t : Desk R B W C P S N) (item : Item) → IsFor players s
        → GivesUp d (service s) (understood players item) (state s) (state t) → SameParts s t → GivesUpUnderstood d (desk_serving s) item (desk_serving t)
    gives_up_meant players s t item is h same = record {
      before = state s;
      after = state t;
      seen = refl;
      sees = refl;
      same = same_service s t same;
      gives_up = subst (λ p. GivesUp d (service s) (understood p item) (state s) (state t)) (sym is) h;
    }

    pub strict_answers : (s t : Desk R B W C P S N) (item : Item) (bytes : List ℕ) → IsFor Strict s → AnswersAt d s item bytes t → AnswersUnderstood d (desk_serving s) item bytes (desk_serving t) × IsFor Strict t
    strict_answers s t item bytes is h = (answers_meant Strict s t item bytes is h.0 h.1, still Strict s t h.1 is)

    pub strict_gives_up : (s t : Desk R B W C P S N) (item : Item) → IsFor Strict s → GivesUpAt d s item t → GivesUpUnderstood d (desk_serving s) item (desk_serving t)
    strict_gives_up s t item is h = gives_up_meant Strict s t item is h.0 h.1

    pub gstreamer_answers : (s t : Desk R B W C P S N) (item : Item) (bytes : List ℕ) → IsFor Gstreamer s → AnswersRepaired (AnswersAt d) (GivesUpAt d) s item bytes t
        → AnswersUnderstood d (desk_serving s) item bytes (desk_serving t) × IsFor Gstreamer t
    gstreamer_answers s t item bytes is h = (answers_meant Gstreamer s t item bytes is h.0 h.1, still Gstreamer s t h.1 is)

    gives_up_repaired : (s t : Desk R B W C P S N) (item : Item) → GivesUpRepaired (AnswersAt d) (GivesUpAt d) s item t → GivesUp d (service s) (understood Gstreamer item) (state s) (state t)
    gives_up_repaired s t (items.Request request) (inl same) = inl (ap (λ (z : Desk R B W C P S N). state z) same)
    gives_up_repaired s t (items.Request request) (inr h) = h.0
    gives_up_repaired s t (items.Response response) h = h.0
    gives_up_repaired s t (items.Frame frame) h = h.0

    pub gstreamer_gives_up : (s t : Desk R B W C P S N) (item : Item) → IsFor Gstreamer s → GivesUpRepaired (AnswersAt d) (GivesUpAt d) s item t → GivesUpUnderstood d (desk_serving s) item (desk_serving t)
    gstreamer_gives_up s t item is h = gives_up_meant Gstreamer s t item is (gives_up_repaired s t item h) (gives_up_same d s t item h)

    -- a piece that was taken at a desk for such players, and one with a fault
    module _ (Way : Desk R B W C P S N → Item → List ℕ → Desk R B W C P S N → Type 0) (Lost : Desk R B W C P S N → Item → Desk R B W C P S N → Type 0) (players : Players)
        (answers : (s t : Desk R B W C P S N) (item : Item) (bytes : List ℕ) → IsFor players s → Way s item bytes t → AnswersUnderstood d (desk_serving s) item bytes (desk_serving t) × IsFor players t)
        (gives_up : (s t : Desk R B W C P S N) (item : Item) → IsFor players s → Lost s item t → GivesUpUnderstood d (desk_serving s) item (desk_serving t)) where
      pub takes : (pushed : Result (Unit {0}) MessageFault) (bytes rest old new : List ℕ) (s t : Desk R B W C P S N) → IsFor players s
          → OnOk pushed (Answered Way Lost bytes rest (gathers old s) (gathers new t)) → OnOk pushed (TakesPiece d bytes rest (gathers old (desk_serving s)) (gathers new (desk_serving t)))
      takes (Ok done) bytes rest old new s t p h = (answered_within Way Lost (AnswersUnderstood d) (GivesUpUnderstood d) desk_serving (IsFor players) answers gives_up bytes rest _ _ p h).0
      takes (Err fault) bytes rest old new s t p h = tt

      pub faults : (pushed : Result (Unit {0}) MessageFault) (bytes old new : List ℕ) (s t : Desk R B W C P S N) → IsFor players s
          → IfErr pushed (λ f. FaultedAfter Way Lost bytes f (gathers old s) (gathers new t)) → IfErr pushed (λ f. FaultsPiece d bytes f (gathers old (desk_serving s)) (gathers new (desk_serving t)))
      faults (Ok done) bytes old new s t p h = tt
      faults (Err fault) bytes old new s t p h = fault_within Way Lost (AnswersUnderstood d) (GivesUpUnderstood d) desk_serving (IsFor players) answers gives_up bytes fault _ _ p h

    -- a desk that was made for a piece: its seat and what is served are those that were lent
    returned : (Is : Output Serving → Type 0) (new : List ℕ) (s t : Desk R B W C P S N) (seat : BookSeat) → t.seat.now ≡ seat → SameParts s t → Is (gathers new (desk_serving t)) → Is (gathers new (after s seat))
    returned Is new s t seat is same h =
        subst (λ z. Is (gathers new (after s z))) is (subst (λ z. Is (gathers new (record { service = z; view = seat_view t.seat.now }))) (same_service s t same) h)

    pub returned_takes : (pushed : Result (Unit {0}) MessageFault) (bytes rest old new : List ℕ) (s t : Desk R B W C P S N) (seat : BookSeat) → t.seat.now ≡ seat → SameParts s t
        → OnOk pushed (TakesPiece d bytes rest (gathers old (desk_serving s)) (gathers new (desk_serving t))) → OnOk pushed (TakesPiece d bytes rest (gathers old (desk_serving s)) (gathers new (after s seat)))
    returned_takes (Ok done) bytes rest old new s t seat is same h = returned (λ z. TakesPiece d bytes rest (gathers old (desk_serving s)) z) new s t seat is same h
    returned_takes (Err fault) bytes rest old new s t seat is same h = tt

    pub returned_faults : (pushed : Result (Unit {0}) MessageFault) (bytes old new : List ℕ) (s t : Desk R B W C P S N) (seat : BookSeat) → t.seat.now ≡ seat → SameParts s t
        → IfErr pushed (λ f. FaultsPiece d bytes f (gathers old (desk_serving s)) (gathers new (desk_serving t))) → IfErr pushed (λ f. FaultsPiece d bytes f (gathers old (desk_serving s)) (gathers new (after s seat)))
    returned_faults (Ok done) bytes old new s t seat is same h = tt
    returned_faults (Err fault) bytes old new s t seat is same h = returned (λ z. FaultsPiece d bytes fault (gathers old (desk_serving s)) z) new s t seat is same h

-- of what was refused in a piece nothing is left
module _ {B W C P S : Type 0} (d : Devices B W C P S) where
  pub takes_cleanly : (pushed : Result (Unit {0}) MessageFault) (bytes rest : List ℕ) (s t : Output Serving) → VisitedDrawn d → OnOk pushed (TakesPiece d bytes rest s t) → OnOk pushed (LeavesTaken d bytes rest s t)
  takes_cleanly (Ok done) bytes rest s t law h = λ is. law.answered meaning bytes rest s t is h
  takes_cleanly (Err fault) bytes rest s t law h = tt

  pub faults_cleanly : (pushed : Result (Unit {0}) MessageFault) (bytes : List ℕ) (s t : Output Serving) → VisitedDrawn d → IfErr pushed (λ f. FaultsPiece d bytes f s t) → IfErr pushed (λ f. LeavesFaulted d bytes f s t)
  faults_cleanly (Ok done) bytes s t law h = tt
  faults_cleanly (Err fault) bytes s t law h = λ is. law.faulted meaning bytes fault s t is h
