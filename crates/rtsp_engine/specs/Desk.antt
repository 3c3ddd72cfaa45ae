-- What is before and after a request.
use Rattle.std.specs.Prelude.{◌≡◌}
use Rattle.rtsp_content.specs.TableValue.{TableValue}
use Rattle.rtsp_lock.specs.declared.view.View.{View}
use Rattle.rtsp_lock.specs.Calls.{seat_view, SameSeat}
use Rattle.rtsp_engine.specs.declared.desk.Asker.{Asker}
use Rattle.rtsp_engine.specs.declared.desk.Desk.{Desk}

-- what the seat knows, and the devices
pub record State (B W C P S : Type 0) : Type 0 where
  pub view : View
  pub binder : B
  pub words : W
  pub clock : C
  pub plays : P
  pub shares : S

-- what is served, and to whom
pub record Service : Type 0 where
  pub table : TableValue
  pub asker : Asker

abbrev pub served : TableValue → Asker → Service
served table asker = record { table = table; asker = asker }

module _ {R B W C P S N : Type 0} where
  abbrev pub state : Desk R B W C P S N → State B W C P S
  state desk = record {
    view = seat_view desk.seat.now;
    binder = desk.binder.now;
    words = desk.words.now;
    clock = desk.clock.now;
    plays = desk.plays.now;
    shares = desk.shares.now;
  }

  abbrev pub service : Desk R B W C P S N → Service
  service desk = served desk.table.now desk.asker

  -- the same parts are lent, and the seat is the same seat
  pub record SameParts (old new : Desk R B W C P S N) : Type 0 where
    pub seat : new.seat.ghost_name ≡ old.seat.ghost_name
    pub binder : new.binder.ghost_name ≡ old.binder.ghost_name
    pub words : new.words.ghost_name ≡ old.words.ghost_name
    pub clock : new.clock.ghost_name ≡ old.clock.ghost_name
    pub plays : new.plays.ghost_name ≡ old.plays.ghost_name
    pub shares : new.shares.ghost_name ≡ old.shares.ghost_name
    pub table : new.table ≡ old.table
    pub asker : new.asker ≡ old.asker
    pub same : SameSeat old.seat.now new.seat.now
