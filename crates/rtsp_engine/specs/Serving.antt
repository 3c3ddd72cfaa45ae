-- How the items of a connection are answered where devices are lent for one piece of input at a time: what stays from one item to
-- the next is what is served, to whom, and what the connection's seat of the lock knows.
use Rattle.std.specs.Prelude.{◌≡◌, ℕ, List}
use Rattle.rtsp_content.specs.TableValue.{TableValue}
use Rattle.rtsp_grammar.specs.declared.message.Item.{Item}
use Rattle.rtsp_lock.specs.declared.view.View.{View}
use Rattle.rtsp_lock.specs.declared.seat.BookSeat.{BookSeat}
use Rattle.rtsp_lock.specs.Calls.{seat_view}
use Rattle.rtsp_engine.specs.Conversing.{Answers, GivesUp}
use Rattle.rtsp_engine.specs.Desk.{Service, State, served, service}
use Rattle.rtsp_traits.specs.Devices.{Devices}
use Rattle.rtsp_engine.specs.declared.desk.Asker.{Asker}
use Rattle.rtsp_engine.specs.declared.desk.Desk.{Desk}

-- what is served, to whom, and what the seat knows
pub record Serving : Type 0 where
  pub service : Service
  pub view : View

-- to this player, from this content, over this seat
abbrev pub serving_of : TableValue → Asker → BookSeat → Serving
serving_of table asker seat = record { service = served table asker; view = seat_view seat }

-- the same of a desk
abbrev pub desk_serving : {R B W C P S N : Type 0} → Desk R B W C P S N → Serving
desk_serving desk = record { service = service desk; view = seat_view desk.seat.now }

module _ {B W C P S : Type 0} (d : Devices B W C P S) where
  -- an item is answered with these bytes, from devices as they are then
  pub record AnswersFrom (old : Serving) (item : Item) (bytes : List ℕ) (new : Serving) : Type 0 where
    pub before : State B W C P S
    pub after : State B W C P S
    pub seen : before.view ≡ old.view
    pub sees : after.view ≡ new.view
    pub same : new.service ≡ old.service
    pub answers : Answers d old.service item bytes before after

  -- memory ran out over an item
  pub record GivesUpFrom (old : Serving) (item : Item) (new : Serving) : Type 0 where
    pub before : State B W C P S
    pub after : State B W C P S
    pub seen : before.view ≡ old.view
    pub sees : after.view ≡ new.view
    pub same : new.service ≡ old.service
    pub gives_up : GivesUp d old.service item before after

  module _ (meant : Serving → Item → Item) where
    -- what an item is taken to mean is answered with these bytes
    abbrev pub AnswersMeant : Serving → Item → List ℕ → Serving → Type 0
    AnswersMeant old item bytes new = AnswersFrom old (meant old item) bytes new

    -- memory ran out over it
    abbrev pub GivesUpMeant : Serving → Item → Serving → Type 0
    GivesUpMeant old item new = GivesUpFrom old (meant old item) new
