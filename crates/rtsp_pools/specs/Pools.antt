-- What is free in each pool, and how a pool changes.
use Rattle.std.specs.Prelude.{◌≡◌, ◌==◌, ℕ, ◌+◌, ◌-◌, ◌*◌, ◌/◌, Bool, ◌&&◌, ◌||◌, not, nat_eq, Option, Some, None}
use Rattle.std.specs.Int.{bit_at}
use Rattle.indexmap.specs.IndexMap.{get}
use Rattle.rtsp_record.specs.declared.holdings.Thing.{Thing}
use Rattle.rtsp_record.specs.declared.holdings.Thing.TheVariants.{Port, Chan}
use Rattle.rtsp_record.specs.Sums.{covers, UdpPort, Channel}
use Rattle.rtsp_record.specs.Rules.{InWhole}
use Rattle.rtsp_record.specs.Choices.{count_of}
use Rattle.rtsp_pools.specs.declared.pair_pool.PairPool.{PairPool}
use Rattle.rtsp_pools.specs.declared.chan_pool.ChanPool.{ChanPool}
use Rattle.rtsp_pools.specs.Bits.{has}

-- a port of the whole is free
abbrev pub is_free_port : PairPool → ℕ → Bool
is_free_port pool q = has pool.ports.words.items (q - pool.whole.first_port)

-- both ports of a pair of the whole are free
abbrev pub is_free_pair : PairPool → ℕ → Bool
is_free_pair pool p = is_free_port pool p && is_free_port pool (p + 1)

-- how many ports are free
abbrev pub free_ports : PairPool → ℕ
free_ports pool = count_of 1 (is_free_port pool) pool.whole.first_port (2 * pool.whole.pairs)

-- how many pairs are free
abbrev pub free_pairs : PairPool → ℕ
free_pairs pool = count_of 2 (is_free_pair pool) pool.whole.first_port pool.whole.pairs

-- of the ports of the whole, what the thing covers isn't free any more, and all else is as it was
abbrev pub PortsGone : PairPool → PairPool → Thing → Type 0
PortsGone old new x = (q : ℕ) → InWhole old.whole (Port q) → is_free_port new q ≡ (not (covers (UdpPort q) x) && is_free_port old q)

-- of the ports of the whole, what the thing covers is free, and all else is as it was
abbrev pub PortsCome : PairPool → PairPool → Thing → Type 0
PortsCome old new x = (q : ℕ) → InWhole old.whole (Port q) → is_free_port new q ≡ (covers (UdpPort q) x || is_free_port old q)

-- a number that may be missing, as 0
abbrev pub or_zero : Option ℕ → ℕ
or_zero None = 0
or_zero (Some n) = n

-- the pairs of channels of a connection that are held, as bits
abbrev pub held_bits : ChanPool → ℕ → ℕ
held_bits pool c = or_zero (get nat_eq pool.held c)

-- a channel is free
abbrev pub is_free_channel : ChanPool → ℕ → ℕ → Bool
is_free_channel pool c l = bit_at (held_bits pool c) (l / 2) == 0

-- a channel and the next are free
abbrev pub is_free_chan : ChanPool → ℕ → ℕ → Bool
is_free_chan pool c k = is_free_channel pool c k && is_free_channel pool c (k + 1)

-- how many even channels of a connection are free with the next
abbrev pub free_chans : ChanPool → ℕ → ℕ
free_chans pool c = count_of 2 (is_free_chan pool c) 0 128

-- what is covered isn't free any more, and all else is as it was
abbrev pub HasGone : ChanPool → ChanPool → ℕ → ℕ → Type 0
HasGone old new c k = (d l : ℕ) → is_free_channel new d l ≡ (not (covers (Channel d l) (Chan c k)) && is_free_channel old d l)

-- what is covered is free, and all else is as it was
abbrev pub HasCome : ChanPool → ChanPool → ℕ → ℕ → Type 0
HasCome old new c k = (d l : ℕ) → is_free_channel new d l ≡ (covers (Channel d l) (Chan c k) || is_free_channel old d l)

-- the same is free
abbrev pub IsSame : ChanPool → ChanPool → Type 0
IsSame old new = (d l : ℕ) → is_free_channel new d l ≡ is_free_channel old d l
