-- What the reports of a play take: each raises by a second the unit from which its stream reports again.
use Rattle.std.proofs.Common.{◌≡◌, ◌≢◌, ℕ, zero, suc, ◌+◌, ◌-◌, ◌*◌, ◌<◌, ◌≤◌, Bool, true, false, ◌&&◌, if◌then◌else◌, List, [], ◌∷◌, length, set, get_or, replicate, refl, ap, sym, ◌∙◌, subst, inl, inr, ◌⊎◌, arith, Option, Some, None}
use Rattle.std.specs.Prelude.{All, Contains}
use Rattle.std.specs.List.{sum_by}
use Rattle.std.proofs.lemmas.List.Sums.{sum_by-cons}
use Rattle.std.proofs.lemmas.List.Elements.{All-contains}
use Rattle.std.proofs.lemmas.List.{get_or-set_other}
use Rattle.std.proofs.lemmas.Grind.{get_or-set_at}
use Rattle.std.proofs.lemmas.Bool.{cases_lt, leb-true, false≢true}
use Rattle.std.proofs.Math.ListN.{length-set}
use Rattle.std.proofs.Math.Nat.{mul-add, add-mul, suc-mul}
use Rattle.std.proofs.lemmas.Nat.{mul-le}
use Rattle.rtsp_record.specs.declared.phases.Phase.{Phase}
use Rattle.rtsp_record.specs.Moments.{sent_before}
use Rattle.rtsp_content.specs.declared.limits.TheConstants.{MAX_TRACKS}
use Rattle.rtsp_content.specs.declared.packing.Packing.{Packing}
use Rattle.rtsp_content.specs.declared.packing.Packing.TheVariants.{Single, Slots, Equal}
use Rattle.rtsp_rtp.specs.declared.source.Source.{Source}
use Rattle.rtsp_rtp.specs.declared.part.Part.{Part}
use Rattle.rtsp_rtp.specs.declared.sender_state.SenderState.{SenderState}
use Rattle.rtsp_rtp.specs.Packets.{timestamp_after}
use Rattle.rtsp_rtp.specs.Parts.{parts_of}
use Rattle.rtsp_rtp.specs.SenderStates.{unsent_state, unsent_states, state_of, counted, counted_all, report_every, is_reporting, behind_report}
use Rattle.rtsp_rtp.specs.UnitPackets.{counted_in, states_behind}
use Rattle.rtsp_rtp.specs.Reports.{unit_report}
use Rattle.rtsp_rtp.specs.Sinks.{Calls}
use Rattle.rtsp_rtp.specs.Pacing.{begun_at, IsSourceWithin}
use Rattle.rtsp_rtp.specs.Turns.{report_due, report_behind, UnitSent, AllSent}
use Rattle.rtsp_rtp.specs.Wire.{Way, wire_of, report_wire, behind_wire, all_behind_wire}
use Rattle.rtsp_rtp.proofs.Wiring.{beside_most}

not_single_slots : (m : ℕ) → Slots m ≡ Single → ⊥
not_single_slots m is = cc

not_single_equal : (m : ℕ) → Equal m ≡ Single → ⊥
not_single_equal m is = cc

-- what counts of a source: a single packet's reports nothing
abbrev pub if_reporting : Packing → ℕ → ℕ
if_reporting Single n = 0
if_reporting (Slots m) n = n
if_reporting (Equal m) n = n

if_more : (packing : Packing) (a b : ℕ) → a ≤ b → if_reporting packing a ≤ if_reporting packing b
if_more Single a b more = omega arith
if_more (Slots m) a b more = more
if_more (Equal m) a b more = more

if_by : (packing : Packing) (a b d : ℕ) → (packing ≡ Single → ⊥) → a + d ≤ b → if_reporting packing a + d ≤ if_reporting packing b
if_by Single a b d not more = absurd (not refl)
if_by (Slots m) a b d not more = more
if_by (Equal m) a b d not more = more

-- the units from which the sources report again, together
abbrev pub all_from : List Source → List SenderState → ℕ
all_from xs states = sum_by (λ x. if_reporting x.packing (state_of states x.track).reports_from) xs

abbrev pub at_most : List Source → ℕ → ℕ
at_most xs n = sum_by (λ x. if_reporting x.packing n) xs

-- each is at most so late
abbrev pub AreBefore : ℕ → List SenderState → Type 0
AreBefore n states = (t : ℕ) → (state_of states t).reports_from ≤ n

pub from_most : (xs : List Source) (states : List SenderState) (n : ℕ) → AreBefore n states → all_from xs states ≤ at_most xs n
from_most [] states n before = omega arith
from_most (x ∷ xs) states n before =
    let f : Source → ℕ = λ y. if_reporting y.packing (state_of states y.track).reports_from in
    let g : Source → ℕ = λ y. if_reporting y.packing n in
    omega (arith, sum_by-cons f x xs, sum_by-cons g x xs, if_more x.packing (state_of states x.track).reports_from n (before x.track), from_most xs states n before)

-- With another state of one track.
module _ (states : List SenderState) (t : ℕ) (s : SenderState) (within : t < length states) where
  at_it : (n : ℕ) → n ≡ t → state_of (set states t s) n ≡ s
  at_it n is = get_or-set_at states t n s unsent_state is within

  beside_it : (n : ℕ) → n ≢ t → state_of (set states t s) n ≡ state_of states n
  beside_it n other = get_or-set_other states t n s unsent_state other

  in_any : (n : ℕ) (P : SenderState → Type 0) → (n ≡ t → P s) → P (state_of states n) → P (state_of (set states t s) n)
  in_any n P new old =
      elim (cases_lt n t) [
        | inl below ↦ subst P (sym (beside_it n (λ e. absurd (omega (arith, e, below))))) old
        | inr not ↦ elim (cases_lt t n) [
          | inl above ↦ subst P (sym (beside_it n (λ e. absurd (omega (arith, e, above))))) old
          | inr same ↦ (let e : n ≡ t = omega (arith, not, same) in subst P (sym (at_it n e)) (new e))
        ]
      ]

  later : (state_of states t).reports_from ≤ s.reports_from → (n : ℕ) → (state_of states n).reports_from ≤ (state_of (set states t s) n).reports_from
  later more n = in_any n (λ r. (state_of states n).reports_from ≤ r.reports_from) (λ e. subst (λ (k : ℕ). (state_of states k).reports_from ≤ s.reports_from) (sym e) more) (omega arith)

  pub still_before : (n : ℕ) → AreBefore n states → s.reports_from ≤ n → AreBefore n (set states t s)
  still_before n before new k = in_any k (λ r. r.reports_from ≤ n) (λ e. new) (before k)

  pub from_more : (xs : List Source) → (state_of states t).reports_from ≤ s.reports_from → all_from xs states ≤ all_from xs (set states t s)
  from_more [] more = omega arith
  from_more (x ∷ xs) more =
      let f : Source → ℕ = λ y. if_reporting y.packing (state_of states y.track).reports_from in
      let g : Source → ℕ = λ y. if_reporting y.packing (state_of (set states t s) y.track).reports_from in
      omega (arith, sum_by-cons f x xs, sum_by-cons g x xs, if_more x.packing (state_of states x.track).reports_from (state_of (set states t s) x.track).reports_from (later more x.track), from_more xs more)

  pub from_by : (xs : List Source) (y : Source) (d : ℕ) → Contains xs y → y.track ≡ t → (y.packing ≡ Single → ⊥) → (state_of states t).reports_from + d ≤ s.reports_from → all_from xs states + d ≤ all_from xs (set states t s)
  from_by [] y d (k, inside, is) at not more = absurd (omega (arith, inside))
  from_by (x ∷ xs) y d (zero, inside, is) at not more =
      let f : Source → ℕ = λ z. if_reporting z.packing (state_of states z.track).reports_from in
      let g : Source → ℕ = λ z. if_reporting z.packing (state_of (set states t s) z.track).reports_from in
      let old : (state_of states y.track).reports_from ≡ (state_of states t).reports_from = ap (λ (k : ℕ). (state_of states k).reports_from) at in
      let new : (state_of (set states t s) y.track).reports_from ≡ s.reports_from = ap (λ (r : SenderState). r.reports_from) (at_it y.track at) in
      let it : f y + d ≤ g y = if_by y.packing (state_of states y.track).reports_from (state_of (set states t s) y.track).reports_from d not (omega (arith, old, new, more)) in
      let here : f x + d ≤ g x = subst (λ (z : Source). f z + d ≤ g z) (sym is) it in
      omega (arith, sum_by-cons f x xs, sum_by-cons g x xs, here, from_more xs (omega (arith, more)))
  from_by (x ∷ xs) y d (suc k, inside, is) at not more =
      let f : Source → ℕ = λ z. if_reporting z.packing (state_of states z.track).reports_from in
      let g : Source → ℕ = λ z. if_reporting z.packing (state_of (set states t s) z.track).reports_from in
      let here : f x ≤ g x = if_more x.packing (state_of states x.track).reports_from (state_of (set states t s) x.track).reports_from (later (omega (arith, more)) x.track) in
      omega (arith, sum_by-cons f x xs, sum_by-cons g x xs, here, from_by xs y d (k, omega (arith, inside), is) at not more)

-- to count packets moves no report
keeps_from : (s : SenderState) (ps : List Part) → (counted_all s ps).reports_from ≡ s.reports_from
keeps_from s [] = refl
keeps_from s (p ∷ ps) = keeps_from (counted s p) ps

and_second : (a b : Bool) → (a && b) ≡ true → b ≡ true
and_second true b h = h
and_second false b h = absurd (false≢true h)

-- a report is 72 bytes with the headers of IP and UDP
report_most : (way : Way) (begun unit_ms before i : ℕ) (x : Source) (s : SenderState) → wire_of way (unit_report begun unit_ms before x i s) ≤ 72
report_most way begun unit_ms before i x s = omega (arith, beside_most way)

-- the numbers of a play by the moment at which so many units are due
pub record Bounds (unit_ms n last : ℕ) : Type 0 where
  pub some : 1 ≤ report_every unit_ms
  pub is : last + 1 ≡ n + report_every unit_ms

-- what a unit adds
module _ (way : Way) (phase : Phase) (unit_ms n last : ℕ) (xs : List Source) (x : Source) (i : ℕ) (states : List SenderState) where
  abbrev every : ℕ
  every = report_every unit_ms

  pub record Adds (wire : ℕ) (after : List SenderState) : Type 0 where
    pub reports : every * wire + 72 * all_from xs states ≤ 72 * all_from xs after
    pub kept : length after ≡ length states
    pub before : AreBefore last after

  by_flag : (b : Bool) (r : List ℕ) (s : SenderState) → Bounds unit_ms n last → Contains xs x → x.track < length states → (x.packing ≡ Single → ⊥) → i < n → wire_of way r ≤ 72 → AreBefore last states
      → s.reports_from ≡ (state_of states x.track).reports_from → (b ≡ true → s.reports_from ≤ i)
      → Adds (report_wire way (if b then Some r else None)) (set states x.track (if b then record s { reports_from = i + every } else s))
  by_flag true r s bounds among within not due few before same reports =
      let new : SenderState = record s { reports_from = i + every } in
      let more : (state_of states x.track).reports_from + every ≤ new.reports_from = omega (arith, same, reports refl) in
      let total = from_by states x.track new within xs x every among refl not more in
      let wire : every * wire_of way r ≤ every * 72 = mul-le every (wire_of way r) every 72 (omega arith) few in
      record {
        reports = omega (arith, total, wire);
        kept = length-set states x.track new;
        before = still_before states x.track new within last before (omega (arith, bounds.is, due));
      }
  by_flag false r s bounds among within not due few before same reports =
      let total = from_more states x.track s within xs (omega (arith, same)) in
      record {
        reports = omega (arith, total);
        kept = length-set states x.track s;
        before = still_before states x.track s within last before (omega (arith, same, before x.track));
      }

  several : (s : SenderState) (packets : ℕ) → Bounds unit_ms n last → Contains xs x → x.track < length states → (x.packing ≡ Single → ⊥) → i < n → AreBefore last states
      → s.reports_from ≡ (state_of states x.track).reports_from → Adds (report_wire way (report_due phase unit_ms x i s packets)) (set states x.track (behind_report unit_ms s i packets))
  several s packets bounds among within not due before same =
      by_flag (is_reporting s i packets) (unit_report (begun_at phase) unit_ms (sent_before phase) x i s) s bounds among within not due
      (report_most way (begun_at phase) unit_ms (sent_before phase) i x s) before same
      (λ yes. leb-true s.reports_from i (and_second _ _ yes))

  none_behind : (packing : Packing) (octets : List ℕ) → packing ≡ Single → AreBefore last states → Adds (report_wire way (report_behind packing phase unit_ms x i states octets)) (states_behind packing unit_ms x i states octets)
  none_behind packing octets single before =
      subst (λ (p : Packing). Adds (report_wire way (report_behind p phase unit_ms x i states octets)) (states_behind p unit_ms x i states octets)) (sym single)
      (record { reports = omega arith; kept = refl; before = before })

  by_packing : (packing : Packing) (octets : List ℕ) → x.packing ≡ packing → Bounds unit_ms n last → Contains xs x → x.track < length states → i < n → AreBefore last states
      → Adds (report_wire way (report_behind packing phase unit_ms x i states octets)) (states_behind packing unit_ms x i states octets)
  by_packing Single octets is bounds among within due before = none_behind Single octets refl before
  by_packing (Slots m) octets is bounds among within due before =
      let ps = (parts_of (Slots m) x.ticks octets).parts in
      several (counted_in x states ps) (length ps) bounds among within (λ e. not_single_slots m (sym is ∙ e)) due before (keeps_from (state_of states x.track) ps)
  by_packing (Equal m) octets is bounds among within due before =
      let ps = (parts_of (Equal m) x.ticks octets).parts in
      several (counted_in x states ps) (length ps) bounds among within (λ e. not_single_equal m (sym is ∙ e)) due before (keeps_from (state_of states x.track) ps)

-- an entry of the schedule of a play
pub record IsEntry (xs : List Source) (n : ℕ) (e : ℕ × Source) : Type 0 where
  pub due : e.0 < n
  pub among : Contains xs e.1

module _ {S : Type 0} (calls : Calls S) (way : ℕ → Way) (phase : Phase) (unit_ms n last : ℕ) (xs : List Source) (bounds : Bounds unit_ms n last) (sources : All IsSourceWithin xs) where
  -- what all units add that were sent
  pub record AddAll (wire : ℕ) (states after : List SenderState) : Type 0 where
    pub reports : report_every unit_ms * wire + 72 * all_from xs states ≤ 72 * all_from xs after
    pub kept : length after ≡ length states
    pub before : AreBefore last after

  pub all_add : (es : List (ℕ × Source)) (states after : List SenderState) (s u : S) (all : AllSent calls phase unit_ms es states after s u)
      → All (IsEntry xs n) es → length states ≡ MAX_TRACKS → AreBefore last states → AddAll (all_behind_wire calls way phase unit_ms es states after s u all) states after
  all_add [] states after s u all entries long before =
      subst (λ (l : List SenderState). AddAll 0 states l) (sym all.0) (record { reports = omega arith; kept = refl; before = before })
  all_add (e ∷ es) states after s u all entries long before =
      let i = e.0 in
      let x = e.1 in
      let entry = entries 0 e (omega arith) in
      let unit = all.2 in
      let within : x.track < length states = omega (arith, long, (All-contains IsSourceWithin xs x sources entry.among).track) in
      let w = behind_wire calls way phase unit_ms i x states all.0 s all.1 unit in
      let one : Adds (way x.track) phase unit_ms n last xs x i states w all.0 =
      subst (λ (l : List SenderState). Adds (way x.track) phase unit_ms n last xs x i states w l) (sym unit.counted)
      (by_packing (way x.track) phase unit_ms n last xs x i states x.packing unit.octets refl bounds entry.among within entry.due before) in
      let rest = all_add es all.0 after all.1 u all.3 (λ k d inside. entries (suc k) d (omega (arith, inside))) (one.kept ∙ long) one.before in
      let v = all_behind_wire calls way phase unit_ms es all.0 after all.1 u all.3 in
      record {
        reports = omega (arith, one.reports, rest.reports, mul-add (report_every unit_ms) w v);
        kept = rest.kept ∙ one.kept;
        before = rest.before;
      }
