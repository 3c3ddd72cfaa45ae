-- What stands in a unit of several packets.
use Rattle.std.specs.Prelude.{ℕ, ◌+◌, ◌*◌, ◌/◌, ◌%◌, ◌^◌, ◌==◌, zero, suc, false, nat_le, if◌then◌else◌, List, [], ◌∷◌, length, slice_index_or, slice_range, Option, Some, None, Result, Ok, Err}
use Rattle.std.specs.Int.{w16, w32, from_be_bytes}
use Rattle.rtsp_content.specs.declared.limits.TheConstants.{MAX_OCTETS, MAX_PACKETS, MAX_UNIT_OCTETS, SLOT_HEAD}
use Rattle.rtsp_content.specs.declared.packing.Packing.{Packing}
use Rattle.rtsp_content.specs.declared.packing.Packing.TheVariants.{Single, Slots, Equal}
use Rattle.rtsp_content.specs.PackingLimits.{packet_count}
use Rattle.rtsp_rtp.specs.declared.part.Part.{Part}
use Rattle.rtsp_rtp.specs.declared.part.SlotFault.{SlotFault}
use Rattle.rtsp_rtp.specs.declared.part.SlotFault.TheVariants.{TooLong, Cut, BadFlags}

-- a packet at a place of a unit, none, or what is wrong there
abbrev pub Found : Type 0
Found = Result (Option Part) SlotFault

-- numbers of two and of four bytes, the most significant first
abbrev pub two_at : List ℕ → ℕ → ℕ
two_at unit at = from_be_bytes w16 (slice_index_or unit at 0 ∷ slice_index_or unit (at + 1) 0 ∷ [])

abbrev pub four_at : List ℕ → ℕ → ℕ
four_at unit at = from_be_bytes w32 (slice_index_or unit at 0 ∷ slice_index_or unit (at + 1) 0 ∷ slice_index_or unit (at + 2) 0 ∷ slice_index_or unit (at + 3) 0 ∷ [])

-- In a slot a packet stands behind a head of eight bytes: its length, its flags, its offset.

-- the packet behind the head at a place, if the flags are 0 or 1
abbrev pub flagged : List ℕ → ℕ → Found
flagged unit at =
    if nat_le (two_at unit (at + 2)) 1
    then Ok (Some (record { start = at + 8; end = at + 8 + two_at unit at; marker = two_at unit (at + 2) == 1; offset = four_at unit (at + 4) }))
    else Err BadFlags

-- if it doesn't go on behind the end
abbrev pub whole : List ℕ → ℕ → Found
whole unit at = if nat_le (at + 8 + two_at unit at) (length unit) then flagged unit at else Err Cut

-- if it is as short as a packet has to be; with the length 0 there is none
abbrev pub headed : List ℕ → ℕ → Found
headed unit at = if two_at unit at == 0 then Ok None else (if nat_le (two_at unit at) MAX_OCTETS then whole unit at else Err TooLong)

-- none where there is no room for a head
abbrev pub slot_at : List ℕ → ℕ → Found
slot_at unit at = if nat_le (at + 8) (length unit) then headed unit at else Ok None

-- Of m packets of one length the k-th is that share of the unit's ticks later.

abbrev pub share_of : ℕ → List ℕ → ℕ
share_of m unit = length unit / m

abbrev pub equal_part : ℕ → ℕ → List ℕ → ℕ → ℕ → Part
equal_part m ticks unit k at = record { start = at; end = at + share_of m unit; marker = false; offset = k * ticks / m % 2 ^ 32 }

-- none where it would go on behind the end
abbrev pub equal_at : ℕ → ℕ → List ℕ → ℕ → ℕ → Found
equal_at m ticks unit k at =
    if nat_le (share_of m unit) MAX_OCTETS
    then (if nat_le (at + share_of m unit) (length unit) then Ok (Some (equal_part m ticks unit k at)) else Ok None)
    else Err TooLong

-- the packet at a place of a unit, behind k others
abbrev pub part_at : Packing → ℕ → List ℕ → ℕ → ℕ → Found
part_at Single ticks unit k at = Ok None
part_at (Slots m) ticks unit k at = slot_at unit at
part_at (Equal m) ticks unit k at = equal_at m ticks unit k at

-- the packets of a unit, and what is wrong behind them, if anything is
pub record Parts : Type 0 where
  pub parts : List Part
  pub fault : Option SlotFault

-- those that one begins, where the others are given
abbrev pub after_found : Found → (ℕ → Parts) → Parts
after_found (Ok None) rest = record { parts = []; fault = None }
after_found (Ok (Some p)) rest = record { parts = p ∷ (rest p.end).parts; fault = (rest p.end).fault }
after_found (Err f) rest = record { parts = []; fault = Some f }

-- those from a place on, which are n at most
abbrev pub parts_from : Packing → ℕ → List ℕ → ℕ → ℕ → ℕ → Parts
parts_from packing ticks unit zero k at = record { parts = []; fault = None }
parts_from packing ticks unit (suc n) k at = after_found (part_at packing ticks unit k at) (λ end. parts_from packing ticks unit n (k + 1) end)

-- all of them
abbrev pub parts_of : Packing → ℕ → List ℕ → Parts
parts_of packing ticks unit = parts_from packing ticks unit (packet_count packing) 0 0

-- the payload of a packet
abbrev pub payload_in : List ℕ → Part → List ℕ
payload_in unit p = slice_range unit p.start p.end

-- the most bytes of a unit in its file
abbrev pub MAX_UNIT_LEN : ℕ
MAX_UNIT_LEN = SLOT_HEAD * MAX_PACKETS + MAX_UNIT_OCTETS
