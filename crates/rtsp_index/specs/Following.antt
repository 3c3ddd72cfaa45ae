-- A record after a book, and what it takes memory for.
use Rattle.std.specs.Prelude.{◌<◌, ◌^◌, Bool, true, false}
use Rattle.rtsp_record.specs.declared.holdings.Thing.{Thing}
use Rattle.rtsp_record.specs.declared.holdings.Thing.TheVariants.{Pair, Port, Chan, Rate}
use Rattle.rtsp_record.specs.declared.holdings.Whole.{Whole}
use Rattle.rtsp_record.specs.declared.changes.Record.{Record}
use Rattle.rtsp_record.specs.declared.changes.Record.TheVariants.{Hold, Bind}
use Rattle.rtsp_record.specs.Books.{Book}
use Rattle.rtsp_record.specs.Rules.{Allowed}
use Rattle.rtsp_record.specs.Sound.{Sound}

-- a record that is allowed after a sound book
pub record Follows (w : Whole) (b : Book) (r : Record) : Type 0 where
  pub sound : Sound w b
  pub allowed : Allowed w b r

-- a record that is allowed after some sound book of a small whole, of which this holds
pub record FollowsSome (r : Record) (P : Book → Type 0) : Type 0 where
  pub whole : Whole
  pub small : whole.sessions < 2 ^ 16
  pub book : Book
  pub follows : Follows whole book r
  pub holds : P book

-- channels
abbrev pub is_chan : Thing → Bool
is_chan (Pair p) = false
is_chan (Port p) = false
is_chan (Chan c k) = true
is_chan (Rate n) = false

-- a Hold of channels
abbrev pub is_chan_hold : Record → Bool
is_chan_hold (Hold h) = is_chan h.thing
is_chan_hold r = false

-- a Bind
abbrev pub is_bind : Record → Bool
is_bind (Bind k) = true
is_bind r = false
