-- The least of what is free.
use Rattle.std.specs.Prelude.{◌≡◌, ◌==◌, ℕ, ◌+◌, ◌*◌, ◌^◌, ◌≤◌, zero, suc, Bool, ◌&&◌, nat_le, if◌then◌else◌, Option, Some, None}
use Rattle.rtsp_record.specs.declared.holdings.Whole.{Whole}
use Rattle.rtsp_record.specs.Books.{Book}
use Rattle.rtsp_record.specs.Sums.{Spot, UdpPort, Channel, amount, covering, one_if}

-- both ports of each pair of the whole have numbers of at most 65,535
abbrev pub HasPorts : Whole → Type 0
HasPorts w = w.first_port + 2 * w.pairs ≤ 2 ^ 16

-- the least that the test takes of the n numbers p, p + step, p + 2 step and so on
unfoldable pub least_of : ℕ → (ℕ → Bool) → ℕ → ℕ → Option ℕ
least_of step takes p zero = None
least_of step takes p (suc n) = if takes p then Some p else least_of step takes (p + step) n

-- how many of the n numbers p, p + step, p + 2 step and so on the test takes
unfoldable pub count_of : ℕ → (ℕ → Bool) → ℕ → ℕ → ℕ
count_of step takes p zero = 0
count_of step takes p (suc n) = one_if (takes p) + count_of step takes (p + step) n

-- the number is not below `from`, and the test takes it
abbrev pub from_on : ℕ → (ℕ → Bool) → ℕ → Bool
from_on from takes p = nat_le from p && takes p

-- the least pair of the whole that the test takes, not below `from`
unfoldable pub least_pair_by : (ℕ → Bool) → Whole → ℕ → Option ℕ
least_pair_by takes w from = least_of 2 (from_on from takes) w.first_port w.pairs

-- the least port of the whole that the test takes, not below `from`
unfoldable pub least_port_by : (ℕ → Bool) → Whole → ℕ → Option ℕ
least_port_by takes w from = least_of 1 (from_on from takes) w.first_port (2 * w.pairs)

-- the least even channel of a connection that the test takes
unfoldable pub least_chan_by : (ℕ → Bool) → Option ℕ
least_chan_by takes = least_of 2 takes 0 128

-- the wish where the test takes it, else the least even channel
abbrev pub chosen_chan_by : (ℕ → Bool) → Option ℕ → Option ℕ
chosen_chan_by takes None = least_chan_by takes
chosen_chan_by takes (Some k) = if takes k then Some k else least_chan_by takes

-- a wish is the first of two channels, which is even and at most 254
abbrev pub IsWish : Option ℕ → Type 0
IsWish None = Unit {0}
IsWish (Some k) = (i : ℕ) × (k ≡ 2 * i) × (k ≤ 254)

-- nothing that is held covers it
abbrev pub is_free : Book → Spot → Bool
is_free b q = amount (covering q) b == 0

-- a port is free
abbrev pub is_port_free : Book → ℕ → Bool
is_port_free b p = is_free b (UdpPort p)

-- both ports of a pair are free
abbrev pub is_pair_free : Book → ℕ → Bool
is_pair_free b p = is_port_free b p && is_port_free b (p + 1)

-- the least free pair of the whole not below `from`
abbrev pub least_pair : Whole → Book → ℕ → Option ℕ
least_pair w b from = least_pair_by (is_pair_free b) w from

-- the least free port of the whole not below `from`
abbrev pub least_port : Whole → Book → ℕ → Option ℕ
least_port w b from = least_port_by (is_port_free b) w from

-- both channels are free on that connection
abbrev pub is_chan_free : Book → ℕ → ℕ → Bool
is_chan_free b c k = is_free b (Channel c k) && is_free b (Channel c (k + 1))

-- the least free even pair of channels of a connection
abbrev pub least_chan : Book → ℕ → Option ℕ
least_chan b c = least_chan_by (is_chan_free b c)

-- the wish where it is free on that connection, else the least free
abbrev pub chosen_chan : Book → ℕ → Option ℕ → Option ℕ
chosen_chan b c wish = chosen_chan_by (is_chan_free b c) wish
