-- The packets of a unit of several, one after another, and how much they are together.
use Rattle.std.proofs.Common.{◌≡◌, ℕ, zero, suc, ◌+◌, ◌-◌, ◌*◌, ◌/◌, ◌<◌, ◌≤◌, Bool, true, false, if◌then◌else◌, List, [], ◌∷◌, length, drop, refl, ap, sym, ◌∙◌, subst, arith, Option, Some, None, Result, Ok, Err}
use Rattle.std.specs.Prelude.{nat_le, ◌==◌, ◌%◌, ◌^◌}
use Rattle.std.specs.List.{sum_by}
use Rattle.std.proofs.lemmas.List.Sums.{sum_by-cons}
use Rattle.std.proofs.lemmas.Bool.{leb-true}
use Rattle.std.proofs.lemmas.Option.{none-some}
use Rattle.std.proofs.lemmas.List.{length-take-le, length-drop}
use Rattle.rtsp_content.specs.declared.limits.TheConstants.{MAX_OCTETS}
use Rattle.rtsp_content.specs.declared.packing.Packing.{Packing}
use Rattle.rtsp_content.specs.declared.packing.Packing.TheVariants.{Single, Slots, Equal}
use Rattle.rtsp_rtp.specs.declared.source.Source.{Source}
use Rattle.rtsp_rtp.specs.declared.part.Part.{Part}
use Rattle.rtsp_rtp.specs.declared.part.SlotFault.{SlotFault}
use Rattle.rtsp_rtp.specs.declared.part.SlotFault.TheVariants.{TooLong, Cut, BadFlags}
use Rattle.rtsp_rtp.specs.declared.sender_state.SenderState.{SenderState}
use Rattle.rtsp_rtp.specs.Sinks.{Calls, Sent}
use Rattle.rtsp_rtp.specs.Turns.{PacketsSent}
use Rattle.rtsp_rtp.specs.Parts.{Found, two_at, four_at, flagged, whole, headed, slot_at, share_of, equal_part, equal_at, part_at, Parts, after_found, parts_from, payload_in}
use Rattle.rtsp_rtp.specs.SenderStates.{counted, counted_all}
use Rattle.rtsp_rtp.specs.UnitPackets.{part_packet, part_packets}

abbrev some_of : Found → Option Part
some_of (Ok o) = o
some_of (Err f) = None

abbrev start_of : Option Part → ℕ
start_of None = 0
start_of (Some p) = p.start

abbrev end_of : Option Part → ℕ
end_of None = 0
end_of (Some p) = p.end

-- the bytes of the head in front of a packet
abbrev pub head_len : Packing → ℕ
head_len Single = 0
head_len (Slots m) = 8
head_len (Equal m) = 0

-- a packet that was found stands behind its head, and ends in the unit
pub record Inside (head : ℕ) (unit : List ℕ) (at : ℕ) (p : Part) : Type 0 where
  pub start : p.start ≡ at + head
  pub within : p.end ≤ length unit
  pub some : p.start ≤ p.end

module _ (unit : List ℕ) (at : ℕ) (p : Part) where
  no_none : ◌≡◌ {A = Found} (Ok None) (Ok (Some p)) → ⊥
  no_none is = none-some p (ap some_of is)

  no_err : (f : SlotFault) → ◌≡◌ {A = Found} (Err f) (Ok (Some p)) → ⊥
  no_err f is = none-some p (ap some_of is)

  inside : (head : ℕ) (q : Part) → q.start ≡ at + head → q.end ≤ length unit → q.start ≤ q.end → ◌≡◌ {A = Found} (Ok (Some q)) (Ok (Some p)) → Inside head unit at p
  inside head q start within some is =
      let s : q.start ≡ p.start = ap (λ (r : Found). start_of (some_of r)) is in
      let e : q.end ≡ p.end = ap (λ (r : Found). end_of (some_of r)) is in
      record { start = omega (arith, s, start); within = omega (arith, e, within); some = omega (arith, s, e, some) }

  in_flagged : (b : Bool) → at + 8 + two_at unit at ≤ length unit → (if b then Ok (Some (record { start = at + 8; end = at + 8 + two_at unit at; marker = two_at unit (at + 2) == 1; offset = four_at unit (at + 4) })) else Err BadFlags) ≡ Ok (Some p) → Inside 8 unit at p
  in_flagged true fits is = inside 8 (record { start = at + 8; end = at + 8 + two_at unit at; marker = two_at unit (at + 2) == 1; offset = four_at unit (at + 4) }) refl fits (omega arith) is
  in_flagged false fits is = absurd (no_err BadFlags is)

  in_whole : (b : Bool) → nat_le (at + 8 + two_at unit at) (length unit) ≡ b → (if b then flagged unit at else Err Cut) ≡ Ok (Some p) → Inside 8 unit at p
  in_whole true fits is = in_flagged (nat_le (two_at unit (at + 2)) 1) (leb-true (at + 8 + two_at unit at) (length unit) fits) is
  in_whole false fits is = absurd (no_err Cut is)

  in_short : (b : Bool) → (if b then whole unit at else Err TooLong) ≡ Ok (Some p) → Inside 8 unit at p
  in_short true is = in_whole (nat_le (at + 8 + two_at unit at) (length unit)) refl is
  in_short false is = absurd (no_err TooLong is)

  in_headed : (b : Bool) → (if b then Ok None else (if nat_le (two_at unit at) MAX_OCTETS then whole unit at else Err TooLong)) ≡ Ok (Some p) → Inside 8 unit at p
  in_headed true is = absurd (no_none is)
  in_headed false is = in_short (nat_le (two_at unit at) MAX_OCTETS) is

  in_slot : (b : Bool) → (if b then headed unit at else Ok None) ≡ Ok (Some p) → Inside 8 unit at p
  in_slot true is = in_headed (two_at unit at == 0) is
  in_slot false is = absurd (no_none is)

  in_share : (m ticks k : ℕ) (b : Bool) → nat_le (at + share_of m unit) (length unit) ≡ b → (if◌then◌else◌ {A = Found} b (Ok (Some (equal_part m ticks unit k at))) (Ok None)) ≡ Ok (Some p) → Inside 0 unit at p
  in_share m ticks k true fits is = inside 0 (equal_part m ticks unit k at) (omega arith) (leb-true (at + share_of m unit) (length unit) fits) (omega arith) is
  in_share m ticks k false fits is = absurd (no_none is)

  in_equal : (m ticks k : ℕ) (b : Bool) → (if b then (if nat_le (at + share_of m unit) (length unit) then Ok (Some (equal_part m ticks unit k at)) else Ok None) else Err TooLong) ≡ Ok (Some p) → Inside 0 unit at p
  in_equal m ticks k true is = in_share m ticks k (nat_le (at + share_of m unit) (length unit)) refl is
  in_equal m ticks k false is = absurd (no_err TooLong is)

  pub part_inside : (packing : Packing) (ticks k : ℕ) → part_at packing ticks unit k at ≡ Ok (Some p) → Inside (head_len packing) unit at p
  part_inside Single ticks k is = absurd (no_none is)
  part_inside (Slots m) ticks k is = in_slot (nat_le (at + 8) (length unit)) is
  part_inside (Equal m) ticks k is = in_equal m ticks k (nat_le (share_of m unit) MAX_OCTETS) is

-- the payload of one that was found is what its end says
payload_length : (head : ℕ) (unit : List ℕ) (at : ℕ) (p : Part) → Inside head unit at p → length (payload_in unit p) + at + head ≡ p.end
payload_length head unit at p is =
    let room : p.end - p.start ≤ length (drop p.start unit) = omega (arith, length-drop p.start unit, is.within) in
    omega (arith, length-take-le (p.end - p.start) (drop p.start unit) room, is.start, is.some)

-- the packets of a unit with their heads are no more than the unit, and no more packets than there may be
pub record Fitting (head n : ℕ) (unit : List ℕ) (at : ℕ) (ps : List Part) : Type 0 where
  pub octets : sum_by (λ p. length (payload_in unit p)) ps + sum_by (λ p. head) ps + at ≤ length unit
  pub count : length ps ≤ n

fit_after : (packing : Packing) (ticks : ℕ) (unit : List ℕ) (n k at : ℕ) (r : Found) → at ≤ length unit → part_at packing ticks unit k at ≡ r → ((p : Part) → p.end ≤ length unit → Fitting (head_len packing) n unit p.end (parts_from packing ticks unit n (k + 1) p.end).parts)
    → Fitting (head_len packing) (suc n) unit at (after_found r (λ end. parts_from packing ticks unit n (k + 1) end)).parts
fit_after packing ticks unit n k at (Ok None) below is rest = record { octets = omega (arith, below); count = omega arith }
fit_after packing ticks unit n k at (Err f) below is rest = record { octets = omega (arith, below); count = omega arith }
fit_after packing ticks unit n k at (Ok (Some p)) below is rest =
    let head = head_len packing in
    let here = part_inside unit at p packing ticks k is in
    let others = rest p here.within in
    let long = payload_length head unit at p here in
    let f : Part → ℕ = λ q. length (payload_in unit q) in
    let g : Part → ℕ = λ q. head in
    let ps = (parts_from packing ticks unit n (k + 1) p.end).parts in
    let whole : sum_by f (p ∷ ps) ≡ f p + sum_by f ps = sum_by-cons f p ps in
    let heads : sum_by g (p ∷ ps) ≡ head + sum_by g ps = sum_by-cons g p ps in
    let all : sum_by f (p ∷ ps) + sum_by g (p ∷ ps) + at ≤ length unit = omega (arith, others.octets, long, whole, heads) in
    record { octets = all; count = omega (arith, others.count) }

pub parts_fit : (packing : Packing) (ticks : ℕ) (unit : List ℕ) (n k at : ℕ) → at ≤ length unit → Fitting (head_len packing) n unit at (parts_from packing ticks unit n k at).parts
parts_fit packing ticks unit zero k at below = record { octets = omega (arith, below); count = omega arith }
parts_fit packing ticks unit (suc n) k at below = fit_after packing ticks unit n k at (part_at packing ticks unit k at) below refl (λ p within. parts_fit packing ticks unit n (k + 1) p.end within)

-- the packets from a place on, by what was found there
pub parts_by : (packing : Packing) (ticks : ℕ) (unit : List ℕ) (k m at : ℕ) (r : Found) → k < m → part_at packing ticks unit k at ≡ r
    → parts_from packing ticks unit (m - k) k at ≡ after_found r (λ end. parts_from packing ticks unit (m - (k + 1)) (k + 1) end)
parts_by packing ticks unit k m at r below is =
    let less : m - k ≡ suc (m - (k + 1)) = omega (arith, below) in
    ap (λ (j : ℕ). parts_from packing ticks unit j k at) less ∙ ap (λ (o : Found). after_found o (λ end. parts_from packing ticks unit (m - (k + 1)) (k + 1) end)) is

-- behind the most there are none
pub parts_past : (packing : Packing) (ticks : ℕ) (unit : List ℕ) (k m at : ℕ) → m ≤ k → parts_from packing ticks unit (m - k) k at ≡ record { parts = []; fault = None }
parts_past packing ticks unit k m at past = let none : m - k ≡ 0 = omega (arith, past) in ap (λ (j : ℕ). parts_from packing ticks unit j k at) none
