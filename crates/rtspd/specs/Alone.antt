-- How one connection is served alone, from a book of its own.
use Rattle.std.specs.Prelude.{◌≡◌, ⊤, ℕ, ◌+◌, ◌*◌, ◌^◌, List, [], Option}
use Rattle.rtsp_content.specs.TableValue.{TableValue}
use Rattle.rtsp_record.specs.declared.holdings.Whole.{Whole}
use Rattle.rtsp_book.specs.Kept.{History}
use Rattle.rtsp_grammar.specs.declared.message.Response.{Response}
use Rattle.rtsp_state.specs.declared.setup_plan.SetupPlan.{SetupPlan}
use Rattle.rtsp_lock.specs.Calls.{seat_view, Found}
use Rattle.rtsp_admit.specs.Numbers.{OwnsAll}
use Rattle.rtsp_engine.specs.Additions.{GrowsBy, end_records}
use Rattle.rtsp_engine.specs.Conducting.{HasPlace, ConductsSetup}
use Rattle.rtsp_engine.specs.Desk.{State}
use Rattle.rtsp_engine.specs.DeskAnswers.{EndsAt}
use Rattle.rtsp_traits.specs.Devices.{Devices, devices}
use Rattle.rtsp_admit.specs.Refused.{LeftNothing}
use Rattle.rtsp_engine.specs.Numbers.{EndsCleanly}
use Rattle.rtsp_engine.specs.Served.{line, parts}
use Rattle.rtsp_engine.specs.declared.desk.Asker.{Asker}
use Rattle.rtsp_engine.specs.declared.desk.Desk.{Desk}
use Rattle.rtsp_lock.specs.declared.numbering.AnyNumbers.{AnyNumbers}
use Rattle.rtsp_engine.specs.declared.serving.ServeEnd.{ServeEnd}
use Rattle.rtsp_traits.specs.declared.port_set.PortSet.{PortSet}
use Rattle.rtspd.specs.declared.devices.counted_words.CountedWords.{CountedWords}
use Rattle.rtspd.specs.declared.devices.standing_clock.StandingClock.{StandingClock}
use Rattle.rtspd.specs.declared.devices.no_plays.NoPlays.{NoPlays}
use Rattle.rtsp_traits.specs.declared.no_shares.NoShares.{NoShares}
use Rattle.rtsp_traits.specs.PortSet as port_set
use Rattle.rtsp_traits.specs.PortSet.{NoneBound}
use Rattle.rtspd.specs.CountedWords as counted_words
use Rattle.rtsp_traits.specs.NoShares as no_shares

-- what it has in place of sockets, words and a clock; nobody learns of its plays, and no address has a share
abbrev pub stdio_devices : Devices PortSet CountedWords StandingClock NoPlays NoShares
stdio_devices =
    devices port_set.calls counted_words.calls (λ b moment c. moment ≡ 0)
    (record { notes = λ b session cseq uri c. ⊤; lacks = λ b c. ⊥; settles = λ b begun c. ⊤ }) no_shares.calls

-- over these no SETUP ends for want of a place
abbrev pub AlwaysHasPlace : Type 0
AlwaysHasPlace =
    (asker : Asker) (plan : SetupPlan) (response : Response) (s t : State PortSet CountedWords StandingClock NoPlays NoShares)
    (run : ConductsSetup stdio_devices asker plan response s t) → HasPlace run.outcome

-- the address of the player at standard input: 127.0.0.1
abbrev pub local_host : ℕ
local_host = 127 * 2 ^ 24 + 1

-- what there is to hold is what the content says
pub record IsWholeOf (table : TableValue) (whole : Whole) : Type 0 where
  pub first_port : whole.first_port ≡ table.server.first_port
  pub pairs : whole.pairs ≡ table.server.pairs
  pub uplink : whole.uplink ≡ table.server.uplink
  pub sessions : whole.sessions ≡ table.server.sessions
  pub journal : whole.journal ≡ table.server.journal

module _ {R : Type 0} where
  -- a desk from which nothing was answered yet: its seat is the only one of its lock, over what there is to hold, whose journal is empty; no port is bound, no word was given
  pub record IsFresh (table : TableValue) (desk : Desk R PortSet CountedWords StandingClock NoPlays NoShares AnyNumbers) : Type 0 where
    pub content : desk.table.now ≡ table
    pub player : desk.asker.peer ≡ local_host
    pub whole : IsWholeOf table (seat_view desk.seat.now).whole
    pub owns : OwnsAll (seat_view desk.seat.now)
    pub seen : (seat_view desk.seat.now).seen ≡ []
    pub mine : (seat_view desk.seat.now).mine ≡ []
    pub ports : NoneBound table.server.first_port table.server.pairs desk.binder.now
    pub words : desk.words.now ≡ record { ids = 0; ssrcs = 0; failed = 0 }

-- a connection was served to this end, from a fresh desk over this content: what was written is, in order, the answers to what was read; of each
-- SETUP that was refused nothing is left; the seat's entries are the records of the replies, and the journal that is kept is what that seat saw last
pub record ServedAlone (R : Type 0) {I O : Type 0} (remaining : I → Option (List ℕ)) (contents : O → Option (List ℕ)) (table : TableValue) (end : ServeEnd) (kept : History) (i j : I) (o p : O) : Type 0 where
  pub first : Desk R PortSet CountedWords StandingClock NoPlays NoShares AnyNumbers
  pub last : Desk R PortSet CountedWords StandingClock NoPlays NoShares AnyNumbers
  pub fresh : IsFresh table first
  pub ends : EndsAt stdio_devices remaining contents end (parts i o first) (parts j p last)
  pub cleanly : EndsCleanly stdio_devices LeftNothing remaining contents end (parts i o first) (parts j p last)
  pub records : GrowsBy stdio_devices first last (end_records stdio_devices [] end (line remaining contents (parts i o first)) (line remaining contents (parts j p last)) ends)
  pub owns : OwnsAll (seat_view last.seat.now)
  pub whole : IsWholeOf table kept.whole
  pub journal : kept.journal ≡ (seat_view last.seat.now).seen
  pub found : Found (seat_view last.seat.now) kept.journal kept.rounds
