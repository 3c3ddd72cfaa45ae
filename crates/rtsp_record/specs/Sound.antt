-- What is true of the book of every legal journal.
use Rattle.std.specs.Prelude.{◌≡◌, ℕ, ◌≤◌, ◌<◌, IsSome, Option, Some, None}
use Rattle.std.specs.FinMap.{get}
use Rattle.rtsp_record.specs.declared.holdings.Thing.{Thing}
use Rattle.rtsp_record.specs.declared.holdings.Whole.{Whole}
use Rattle.rtsp_record.specs.declared.streams.Stream.{Stream}
use Rattle.rtsp_record.specs.Books.{Session, Book, kept, under}
use Rattle.rtsp_record.specs.Sums.{of_session, amount, sessions, with_id, bindings, rates, Spot, covering, streams, clashing, admissions_holding}
use Rattle.rtsp_record.specs.Rules.{IsPlaying, IsAddress, InWhole}

-- a row stands only where something is under the admission
abbrev pub Normal : Session → Type 0
Normal f = (a : ℕ) → kept (under f a) ≡ get f.admissions a

-- a stream stands on a rate and an address, no two streams clash, a play has a stream, at most 16 admissions hold something, and each address is in the whole
pub record SoundSession (w : Whole) (f : Session) : Type 0 where
  pub normal : Normal f
  pub based : (a : ℕ) (v : Stream) → (under f a).stream ≡ Some v → IsSome (under f a).rate × IsSome (under f a).address
  pub apart : (a : ℕ) (v : Stream) → (under f a).stream ≡ Some v → of_session (clashing v) f ≤ 1
  pub playing : IsPlaying f.phase → 0 < of_session streams f
  pub few : admissions_holding f ≤ 16
  pub in_whole : (a : ℕ) (x : Thing) → (under f a).address ≡ Some x → InWhole w x × IsAddress x

-- a sound session, or none
abbrev pub SoundRow : Whole → Option Session → Type 0
SoundRow w None = Unit {0}
SoundRow w (Some f) = SoundSession w f

-- each session is sound, no id and no startup number stands twice, no more sessions live than may, nothing is held twice, and the held rate is at most the uplink
pub record Sound (w : Whole) (b : Book) : Type 0 where
  pub rows : (s : ℕ) → SoundRow w (get b s)
  pub ids : (i : ℕ) → amount (with_id i) b ≤ 1
  pub few : amount sessions b ≤ w.sessions
  pub bound : (c i : ℕ) → amount (bindings c i) b ≤ 1
  pub once : (q : Spot) → amount (covering q) b ≤ 1
  pub rate : amount rates b ≤ w.uplink
