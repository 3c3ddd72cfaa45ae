-- How many packets a unit of a track has, and how long it is: as media, in its file, and in bits per second of reports.
use Rattle.std.specs.Prelude.{◌≡◌, ℕ, Bool, true, ◌+◌, ◌*◌, ◌%◌, ◌==◌, ◌≤◌, min}
use Rattle.rtsp_content.specs.declared.limits.TheConstants.{MAX_OCTETS, MAX_PACKETS, MAX_UNIT_OCTETS, SLOT_HEAD, REPORT_RATE}
use Rattle.rtsp_content.specs.declared.packing.Packing.{Packing}
use Rattle.rtsp_content.specs.declared.packing.Packing.TheVariants.{Single, Slots, Equal}

-- how many packets a unit has, or has at most
abbrev pub packet_count : Packing → ℕ
packet_count Single = 1
packet_count (Slots m) = m
packet_count (Equal m) = m

-- how many bytes of media a unit may have
abbrev pub most_octets : Packing → ℕ
most_octets Single = MAX_OCTETS
most_octets (Slots m) = MAX_UNIT_OCTETS
most_octets (Equal m) = min (m * MAX_OCTETS) MAX_UNIT_OCTETS

-- packets of one length share the octets of their unit
abbrev pub is_shared : Packing → ℕ → Bool
is_shared Single octets = true
is_shared (Slots m) octets = true
is_shared (Equal m) octets = octets % m == 0

-- how many bytes a unit takes in its file: in a slot each packet has a head
abbrev pub unit_len : Packing → ℕ → ℕ
unit_len Single octets = octets
unit_len (Slots m) octets = SLOT_HEAD * m + octets
unit_len (Equal m) octets = octets

-- the bits per second of a stream's sender reports (RFC 3550 section 6.4.1), which only units of several packets have
abbrev pub report_rate : Packing → ℕ
report_rate Single = 0
report_rate (Slots m) = REPORT_RATE
report_rate (Equal m) = REPORT_RATE

-- the limits of a unit
pub record IsPackedWithin (packing : Packing) (octets : ℕ) : Type 0 where
  pub packets_least : 1 ≤ packet_count packing
  pub packets_most : packet_count packing ≤ MAX_PACKETS
  pub octets_least : 1 ≤ octets
  pub octets_most : octets ≤ most_octets packing
  pub shared : is_shared packing octets ≡ true
