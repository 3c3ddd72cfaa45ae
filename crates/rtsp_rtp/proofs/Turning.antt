-- What a turn comes to.
use Rattle.std.proofs.Common.{◌≡◌, ℕ, ◌+◌, ◌-◌, ◌*◌, ◌≤◌, List, [], ◌∷◌, length, drop, take, refl, ap, ◌∙◌, subst, arith, length-drop, sym, Result, Ok, Err, Option, Some, None}
use Rattle.std.specs.Prelude.{OnErr}
use Rattle.std.proofs.lemmas.Option.{slice_get_within}
use Rattle.std.proofs.Math.Seq.{take-length}
use Rattle.std.proofs.Math.ListN.{length-set}
use Rattle.std.proofs.lemmas.Nat.{mul-le}
use Rattle.rtsp_record.specs.declared.phases.Phase.{Phase}
use Rattle.rtsp_record.specs.Counters.{raised}
use Rattle.rtsp_record.specs.Moments.{due}
use Rattle.rtsp_rtp.specs.declared.source.Source.{Source}
use Rattle.rtsp_content.specs.declared.limits.TheConstants.{MAX_TRACKS}
use Rattle.rtsp_content.specs.declared.packing.Packing.{Packing}
use Rattle.rtsp_content.specs.declared.packing.Packing.TheVariants.{Single, Slots, Equal}
use Rattle.rtsp_rtp.specs.declared.sender_state.SenderState.{SenderState}
use Rattle.rtsp_rtp.specs.UnitPackets.{states_behind}
use Rattle.rtsp_rtp.specs.Sinks.{Calls}
use Rattle.rtsp_rtp.specs.declared.part.SlotFault.{SlotFault}
use Rattle.rtsp_rtp.specs.Pacing.{Pacing, IsOfPlay, IsPacing, schedule, units_in, packets_in}
use Rattle.rtsp_rtp.specs.Turns.{unsent_at, PacketsSent, Hears, Reports, UnitSent, AllSent, SendsAll, SendsSome, Went, Failing}
use Rattle.rtsp_rtp.proofs.Dues.{due_most}
use Rattle.rtsp_rtp.proofs.Scheduling.{schedule-length}

-- what holds at every failure
pub on_err : {T E P : Type 0} (r : Result T E) → P → OnErr r P
on_err (Ok x) p = tt
on_err (Err e) p = p

going_on : (p : Pacing) (states : List SenderState) (done : ℕ) → IsPacing p → length states ≡ MAX_TRACKS → done ≤ packets_in p → IsPacing (record p { states = states; done = done })
going_on p states done is kept within = record { playing = is.playing; unit = is.unit; unit_most = is.unit_most; few = is.few; sources = is.sources; states = kept; sent = within }

module _ {S : Type 0} (calls : Calls S) where
  -- packets that were sent count no failure
  packets_count : (track : ℕ) (ps : List (List ℕ)) (s u : S) → PacketsSent calls track ps s u → calls.failures u ≡ calls.failures s
  packets_count track [] s u same = ap calls.failures same
  packets_count track (p ∷ ps) s u sent = packets_count track ps sent.0 u sent.2 ∙ sent.1.count

  -- nor does what is wrong with a unit
  hears_count : (track unit : ℕ) (fault : Option SlotFault) (s u : S) → Hears calls track unit fault s u → calls.failures u ≡ calls.failures s
  hears_count track unit None s u same = ap calls.failures same
  hears_count track unit (Some f) s u heard = heard.count

  -- nor does a report
  reports_count : (track : ℕ) (report : Option (List ℕ)) (s u : S) → Reports calls track report s u → calls.failures u ≡ calls.failures s
  reports_count track None s u same = ap calls.failures same
  reports_count track (Some r) s u reported = reported.count

  unit_count : (phase : Phase) (unit_ms i : ℕ) (x : Source) (c d : List SenderState) (s u : S) → UnitSent calls phase unit_ms i x c d s u → calls.failures u ≡ calls.failures s
  unit_count phase unit_ms i x c d s u sent =
      reports_count x.track _ sent.told u sent.reports
      ∙ (hears_count x.track _ _ sent.heard sent.told sent.hears ∙ (packets_count x.track _ sent.between sent.heard sent.sent ∙ sent.took.count))

  -- each stream keeps a state
  states_kept : (packing : Packing) (unit_ms : ℕ) (x : Source) (i : ℕ) (c : List SenderState) (octets : List ℕ) → length (states_behind packing unit_ms x i c octets) ≡ length c
  states_kept Single unit_ms x i c octets = refl
  states_kept (Slots m) unit_ms x i c octets = simp length-set
  states_kept (Equal m) unit_ms x i c octets = simp length-set

  all_kept : (phase : Phase) (unit_ms : ℕ) (xs : List (ℕ × Source)) (c e : List SenderState) (s u : S) → AllSent calls phase unit_ms xs c e s u → length e ≡ length c
  all_kept phase unit_ms [] c e s u same = ap (λ (l : List SenderState). length l) same.0
  all_kept phase unit_ms (x ∷ xs) c e s u sent =
      all_kept phase unit_ms xs sent.0 e sent.1 u sent.3
      ∙ (ap (λ (l : List SenderState). length l) sent.2.counted ∙ states_kept x.1.packing unit_ms x.1 x.0 c sent.2.octets)

  -- units that were sent count no failure
  pub all_count : (phase : Phase) (unit_ms : ℕ) (xs : List (ℕ × Source)) (c e : List SenderState) (s u : S) → AllSent calls phase unit_ms xs c e s u → calls.failures u ≡ calls.failures s
  all_count phase unit_ms [] c e s u same = ap calls.failures same.1
  all_count phase unit_ms (x ∷ xs) c e s u sent = all_count phase unit_ms xs sent.0 e sent.1 u sent.3 ∙ unit_count phase unit_ms x.0 x.1 c sent.0 s sent.1 sent.2

  pub some_count : (phase : Phase) (unit_ms : ℕ) (due : List (ℕ × Source)) (before after : ℕ) (c e : List SenderState) (s u : S) → SendsSome calls phase unit_ms due before after c e s u → calls.failures u ≡ raised (calls.failures s)
  some_count phase unit_ms due before after c e s u some =
      some.failed.count ∙ ap raised (all_count phase unit_ms (take some.count due) c e s some.between some.sent)

  -- what was sent is all that was left
  pub sends_all : (phase : Phase) (unit_ms : ℕ) (left : List (ℕ × Source)) (before now : ℕ) (c e : List SenderState) (s u : S) → before ≤ now → now - before ≡ length left → AllSent calls phase unit_ms (take (now - before) left) c e s u
      → SendsAll calls phase unit_ms left before now c e s u
  sends_all phase unit_ms left before now c e s u begun all sent =
      record { sent = subst (λ (l : List (ℕ × Source)). AllSent calls phase unit_ms l c e s u) (ap (λ (n : ℕ). take n left) all ∙ take-length left) sent; done = omega (arith, begun, all) }

  -- no more is sent than there is
  within : (p : Pacing) (moment sent after : ℕ) → IsPacing p → after ≡ p.done + sent → sent ≤ length (unsent_at p moment) → after ≤ packets_in p
  within p moment sent after is told most =
      let units = due p.phase p.unit_ms moment in
      let rows : units * length p.sources ≤ packets_in p = mul-le units (length p.sources) (units_in p.phase) (length p.sources) (due_most p.phase p.unit_ms moment) (omega arith) in
      omega (arith, rows, is.sent, told, most, length-drop p.done (schedule p.sources 0 units), schedule-length p.sources 0 units)

  pub all_within : (p : Pacing) (moment after : ℕ) (e : List SenderState) (s u : S) → IsPacing p → SendsAll calls p.phase p.unit_ms (unsent_at p moment) p.done after p.states e s u → after ≤ packets_in p
  all_within p moment after e s u is all = within p moment (length (unsent_at p moment)) after is all.done (omega arith)

  -- a pacer goes on with more packets sent
  pub all_on : (p : Pacing) (moment after : ℕ) (e : List SenderState) (s u : S) → IsPacing p → SendsAll calls p.phase p.unit_ms (unsent_at p moment) p.done after p.states e s u → IsPacing (record p { states = e; done = after })
  all_on p moment after e s u is all = going_on p e after is (all_kept p.phase p.unit_ms (unsent_at p moment) p.states e s u all.sent ∙ is.states) (all_within p moment after e s u is all)

  pub some_on : (p : Pacing) (moment after : ℕ) (e : List SenderState) (s u : S) → IsPacing p → SendsSome calls p.phase p.unit_ms (unsent_at p moment) p.done after p.states e s u → IsPacing (record p { states = e; done = after })
  some_on p moment after e s u is some =
      let there = slice_get_within (unsent_at p moment) some.count some.next some.is_next in
      going_on p e after is (all_kept p.phase p.unit_ms (take some.count (unsent_at p moment)) p.states e s some.between some.sent ∙ is.states) (within p moment some.count after is some.done (omega (arith, there)))

  -- a turn from what was sent in it
  pub went : (p old : Pacing) (session : ℕ) (phase : Phase) (moment units done : ℕ) (e : List SenderState) (s u : S) → p ≡ old → IsOfPlay old session phase → units ≡ due p.phase p.unit_ms moment
      → SendsAll calls p.phase p.unit_ms (drop p.done (schedule p.sources 0 units)) p.done done p.states e s u → Went calls old (record p { states = e; done = done }) session phase moment s u
  went p old session phase moment units done e s u is own at sends =
      subst (λ (o : Pacing). IsOfPlay o session phase → Went calls o (record p { states = e; done = done }) session phase moment s u) is
      (λ own'. record { own = own'; sends = subst (λ (n : ℕ). SendsAll calls p.phase p.unit_ms (drop p.done (schedule p.sources 0 n)) p.done done p.states e s u) at sends; pacer = refl })
      own

  pub failing : (p old : Pacing) (session : ℕ) (phase : Phase) (moment units done : ℕ) (e : List SenderState) (s u : S) → p ≡ old → IsOfPlay old session phase → units ≡ due p.phase p.unit_ms moment
      → SendsSome calls p.phase p.unit_ms (drop p.done (schedule p.sources 0 units)) p.done done p.states e s u → Failing calls old (record p { states = e; done = done }) session phase moment s u
  failing p old session phase moment units done e s u is own at sends =
      subst (λ (o : Pacing). IsOfPlay o session phase → Failing calls o (record p { states = e; done = done }) session phase moment s u) is
      (λ own'. record { own = own'; sends = subst (λ (n : ℕ). SendsSome calls p.phase p.unit_ms (drop p.done (schedule p.sources 0 n)) p.done done p.states e s u) at sends; pacer = refl })
      own
