-- The sending of a unit of several packets.
use Rattle.std.proofs.Common.{Bool, true, if◌then◌else◌, ◌≡◌, ℕ, zero, suc, ◌+◌, ◌-◌, ◌%◌, ◌^◌, ◌<◌, ◌≤◌, List, [], ◌∷◌, ◌++◌, length, set, refl, ap, sym, ◌∙◌, subst, arith, Option, Some, None, Result, Ok, Err}
use Rattle.rtsp_record.specs.declared.phases.Phase.{Phase}
use Rattle.rtsp_content.specs.declared.packing.Packing.{Packing}
use Rattle.rtsp_content.specs.declared.packing.Packing.TheVariants.{Single, Slots, Equal}
use Rattle.rtsp_rtp.specs.declared.source.Source.{Source}
use Rattle.rtsp_rtp.specs.declared.part.Part.{Part}
use Rattle.rtsp_rtp.specs.declared.part.SlotFault.{SlotFault}
use Rattle.rtsp_rtp.specs.declared.sender_state.SenderState.{SenderState}
use Rattle.std.proofs.lemmas.Bool.Decides.{nat_tests}
use Rattle.rtsp_record.specs.Moments.{sent_before}
use Rattle.rtsp_content.specs.PackingLimits.{unit_len}
use Rattle.rtsp_rtp.specs.Sinks.{Calls, Took, Sent, Reported}
use Rattle.rtsp_rtp.specs.Pacing.{begun_at, first_unit}
use Rattle.rtsp_rtp.specs.Reports.{unit_report}
use Rattle.rtsp_rtp.specs.Packets.{first_number, timestamp_after}
use Rattle.rtsp_rtp.specs.Parts.{Found, part_at, Parts, after_found, parts_from, parts_of}
use Rattle.rtsp_rtp.specs.SenderStates.{state_of, counted, counted_all, is_reporting, behind_report}
use Rattle.rtsp_rtp.specs.UnitPackets.{part_packet, part_packets, unit_packets, fault_in, counted_in, states_behind}
use Rattle.rtsp_rtp.specs.Turns.{PacketsSent, Hears, Reports, UnitSent, report_due, report_behind}

-- what is sent of a unit from a place on, by what was found there
module _ {S : Type 0} (calls : Calls S) (x : Source) (first stamp : ℕ) (packing : Packing) (ticks : ℕ) (unit : List ℕ) where
  -- one packet, and then what is left
  pub sent_more : (k m at : ℕ) (p : Part) (t : SenderState) (s d u : S) → k < m → part_at packing ticks unit k at ≡ Ok (Some p) → Sent calls x.track (part_packet x first stamp unit t p) s d
      → PacketsSent calls x.track (part_packets x first stamp unit (counted t p) (parts_from packing ticks unit (m - (k + 1)) (k + 1) p.end).parts) d u
      → PacketsSent calls x.track (part_packets x first stamp unit t (parts_from packing ticks unit (m - k) k at).parts) s u
  sent_more k m at p t s d u below is sent rest =
      let less : m - k ≡ suc (m - (k + 1)) = omega (arith, below) in
      subst (λ (j : ℕ). PacketsSent calls x.track (part_packets x first stamp unit t (parts_from packing ticks unit j k at).parts) s u) (sym less)
      (subst (λ (r : Found). PacketsSent calls x.track (part_packets x first stamp unit t (after_found r (λ end. parts_from packing ticks unit (m - (k + 1)) (k + 1) end)).parts) s u) (sym is) (d, sent, rest))

  -- nothing, where no packet is left
  pub sent_none : (t : SenderState) (ps : List Part) (s : S) → ps ≡ [] → PacketsSent calls x.track (part_packets x first stamp unit t ps) s s
  sent_none t ps s none = subst (λ (qs : List Part). PacketsSent calls x.track (part_packets x first stamp unit t qs) s s) (sym none) refl

-- The definitions of units of several packets, where one isn't a single packet.

abbrev Several : Packing → Type 0
Several packing = packing ≡ Single → ⊥

pub several_packets : (packing : Packing) (x : Source) (before i : ℕ) (states : List SenderState) (octets : List ℕ) → Several packing
    → unit_packets packing x before i states octets ≡ part_packets x (first_number x before) (timestamp_after x (before + i)) octets (state_of states x.track) (parts_of packing x.ticks octets).parts
several_packets Single x before i states octets not = absurd (not refl)
several_packets (Slots m) x before i states octets not = refl
several_packets (Equal m) x before i states octets not = refl

pub several_fault : (packing : Packing) (ticks : ℕ) (octets : List ℕ) → Several packing → fault_in packing ticks octets ≡ (parts_of packing ticks octets).fault
several_fault Single ticks octets not = absurd (not refl)
several_fault (Slots m) ticks octets not = refl
several_fault (Equal m) ticks octets not = refl

pub several_states : (packing : Packing) (unit_ms : ℕ) (x : Source) (i : ℕ) (states : List SenderState) (octets : List ℕ) → Several packing
    → states_behind packing unit_ms x i states octets ≡ set states x.track (behind_report unit_ms (counted_in x states (parts_of packing x.ticks octets).parts) i (length (parts_of packing x.ticks octets).parts))
several_states Single unit_ms x i states octets not = absurd (not refl)
several_states (Slots m) unit_ms x i states octets not = refl
several_states (Equal m) unit_ms x i states octets not = refl

pub several_report : (packing : Packing) (phase : Phase) (unit_ms : ℕ) (x : Source) (i : ℕ) (states : List SenderState) (octets : List ℕ) → Several packing
    → report_behind packing phase unit_ms x i states octets ≡ report_due phase unit_ms x i (counted_in x states (parts_of packing x.ticks octets).parts) (length (parts_of packing x.ticks octets).parts)
several_report Single phase unit_ms x i states octets not = absurd (not refl)
several_report (Slots m) phase unit_ms x i states octets not = refl
several_report (Equal m) phase unit_ms x i states octets not = refl

-- What comes of a unit of several packets.
module _ {S : Type 0} (calls : Calls S) (phase : Phase) (unit_ms i : ℕ) (x : Source) (states : List SenderState) (octets : List ℕ) where
  abbrev here : List Part
  here = (parts_of x.packing x.ticks octets).parts

  -- what was sent of it, in which state its stream was then, and what is wrong with it
  pub record PartsAreSent (begun behind : SenderState) (count : ℕ) (wrong : Option SlotFault) (between heard : S) : Type 0 where
    pub number : ℕ
    pub timestamp : ℕ
    pub numbered : number ≡ first_number x (sent_before phase)
    pub stamped : timestamp ≡ timestamp_after x (sent_before phase + i)
    pub sent : PacketsSent calls x.track (part_packets x number timestamp octets begun here) between heard
    pub start : begun ≡ state_of states x.track
    pub state : behind ≡ counted_all begun here
    pub packets : count ≡ length here
    pub fault : wrong ≡ (parts_of x.packing x.ticks octets).fault

  pub unit_sent : (start state : SenderState) (packets : ℕ) (fault : Option SlotFault) (after : List SenderState) (s between heard told u : S)
      → Several x.packing → length octets ≡ unit_len x.packing x.octets → Took calls x.track (first_unit phase + i) octets s between
      → PartsAreSent start state packets fault between heard → Hears calls x.track (first_unit phase + i) fault heard told
      → Reports calls x.track (report_due phase unit_ms x i state packets) told u → after ≡ set states x.track (behind_report unit_ms state i packets)
      → UnitSent calls phase unit_ms i x states after s u
  unit_sent start state packets fault after s between heard told u several full took parts hears reports counted =
      let was = state_of states x.track in
      let same : state ≡ counted_in x states here = parts.state ∙ ap (λ (t : SenderState). counted_all t here) parts.start in
      let bytes : part_packets x parts.number parts.timestamp octets start here ≡ unit_packets x.packing x (sent_before phase) i states octets =
      ap (λ (n : ℕ). part_packets x n parts.timestamp octets start here) parts.numbered
      ∙ (ap (λ (t : ℕ). part_packets x (first_number x (sent_before phase)) t octets start here) parts.stamped
      ∙ (ap (λ (t : SenderState). part_packets x (first_number x (sent_before phase)) (timestamp_after x (sent_before phase + i)) octets t here) parts.start
      ∙ sym (several_packets x.packing x (sent_before phase) i states octets several))) in
      let report : report_due phase unit_ms x i state packets ≡ report_behind x.packing phase unit_ms x i states octets =
      ap (λ (t : SenderState). report_due phase unit_ms x i t packets) same
      ∙ (ap (λ (n : ℕ). report_due phase unit_ms x i (counted_in x states here) n) parts.packets
      ∙ sym (several_report x.packing phase unit_ms x i states octets several)) in
      record {
        octets = octets;
        full = full;
        between = between;
        took = took;
        heard = heard;
        sent = subst (λ (l : List (List ℕ)). PacketsSent calls x.track l between heard) bytes parts.sent;
        told = told;
        hears = subst (λ (f : Option SlotFault). Hears calls x.track (first_unit phase + i) f heard told) (parts.fault ∙ sym (several_fault x.packing x.ticks octets several)) hears;
        reports = subst (λ (r : Option (List ℕ)). Reports calls x.track r told u) report reports;
        counted = counted
            ∙ (ap (λ (t : SenderState). set states x.track (behind_report unit_ms t i packets)) same
            ∙ (ap (λ (n : ℕ). set states x.track (behind_report unit_ms (counted_in x states here) i n)) parts.packets
            ∙ sym (several_states x.packing unit_ms x i states octets several)));
      }

  -- a report goes behind it
  pub reports_now : (state : SenderState) (packets : ℕ) (report : List ℕ) (s u : S) → 0 < packets → state.reports_from ≤ i
      → report ≡ unit_report (begun_at phase) unit_ms (sent_before phase) x i state → Reported calls x.track report s u → Reports calls x.track (report_due phase unit_ms x i state packets) s u
  reports_now state packets report s u some due is reported =
      let yes : is_reporting state i packets ≡ true = grind (arith, nat_tests) in
      let r = unit_report (begun_at phase) unit_ms (sent_before phase) x i state in
      subst (λ (b : Bool). Reports calls x.track (if b then Some r else None) s u) (sym yes) (subst (λ (l : List ℕ). Reported calls x.track l s u) is reported)
