-- Pools that say what is free in a book, and a thing in them.
use Rattle.std.specs.Prelude.{◌≡◌, ℕ, ◌+◌, ◌≤◌, true, false, ◌&&◌, ◌||◌, not}
use Rattle.rtsp_record.specs.declared.holdings.Thing.{Thing}
use Rattle.rtsp_record.specs.declared.holdings.Thing.TheVariants.{Pair, Port, Chan, Rate}
use Rattle.rtsp_record.specs.Books.{Book}
use Rattle.rtsp_record.specs.Sums.{covers, Channel, rate_of, held_rate}
use Rattle.rtsp_record.specs.Rules.{InWhole}
use Rattle.rtsp_record.specs.Choices.{is_free, is_port_free}
use Rattle.rtsp_pools.specs.Pools.{is_free_port, is_free_pair, is_free_channel, is_free_chan, PortsGone, PortsCome}
use Rattle.rtsp_index.specs.declared.pools.Pools.{Pools}

-- what is free in the pools is what is free in the book, and the held bits are those of the book
pub record ArePoolsOf (b : Book) (p : Pools) : Type 0 where
  pub ports : (q : ℕ) → InWhole p.pairs.whole (Port q) → is_free_port p.pairs q ≡ is_port_free b q
  pub chans : (c l : ℕ) → is_free_channel p.chans c l ≡ is_free b (Channel c l)
  pub rate : p.rate.held ≡ held_rate b

-- the thing is free in the pools
abbrev pub IsFreeIn : Pools → Thing → Type 0
IsFreeIn p (Pair q) = is_free_pair p.pairs q ≡ true
IsFreeIn p (Port q) = is_free_port p.pairs q ≡ true
IsFreeIn p (Chan c k) = is_free_chan p.chans c k ≡ true
IsFreeIn p (Rate n) = p.rate.held + n ≤ p.rate.uplink

-- the thing is held in the pools
abbrev pub IsHeldIn : Pools → Thing → Type 0
IsHeldIn p (Pair q) = (is_free_port p.pairs q ≡ false) × (is_free_port p.pairs (q + 1) ≡ false)
IsHeldIn p (Port q) = is_free_port p.pairs q ≡ false
IsHeldIn p (Chan c k) = is_free_channel p.chans c k ≡ false
IsHeldIn p (Rate n) = n ≤ p.rate.held

-- what the thing covers isn't free any more, its bits are held, and all else is as it was
pub record IsTaken (x : Thing) (old new : Pools) : Type 0 where
  pub whole : new.pairs.whole ≡ old.pairs.whole
  pub ports : PortsGone old.pairs new.pairs x
  pub chans : (c l : ℕ) → is_free_channel new.chans c l ≡ (not (covers (Channel c l) x) && is_free_channel old.chans c l)
  pub rate : new.rate.held ≡ old.rate.held + rate_of x

-- what the thing covers is free, its bits are too, and all else is as it was
pub record IsGiven (x : Thing) (old new : Pools) : Type 0 where
  pub whole : new.pairs.whole ≡ old.pairs.whole
  pub ports : PortsCome old.pairs new.pairs x
  pub chans : (c l : ℕ) → is_free_channel new.chans c l ≡ (covers (Channel c l) x || is_free_channel old.chans c l)
  pub rate : new.rate.held + rate_of x ≡ old.rate.held
