-- What all turns of a play send together is within what is held for it.
use Rattle.std.proofs.Common.{◌≡◌, ℕ, zero, suc, ◌+◌, ◌-◌, ◌*◌, ◌/◌, ◌<◌, ◌≤◌, List, [], ◌∷◌, ◌++◌, length, map, take, drop, refl, ap, sym, ◌∙◌, subst, inl, inr, ◌⊎◌, arith}
use Rattle.std.specs.Prelude.{All, Contains, replicate, get_or, min, ◌%◌}
use Rattle.std.specs.List.{sum_by}
use Rattle.std.proofs.lemmas.List.Sums.{sum_by-cons, sum_by-append, sum_by-take-le}
use Rattle.std.proofs.lemmas.List.Elements.{All-append, All-map, All-take, All-drop, All-contains_itself}
use Rattle.std.proofs.lemmas.List.{append_assoc, take-append-le}
use Rattle.std.proofs.lemmas.Option.{slice_get_within}
use Rattle.std.proofs.lemmas.Nat.{mul-le}
use Rattle.std.proofs.lemmas.Grind.{div_ceil_times}
use Rattle.std.proofs.lemmas.Bool.{cases_lt}
use Rattle.std.proofs.Math.Seq.{take-add, take-length}
use Rattle.std.proofs.Math.Nat.{div-mul-le_self, min-le_right, min-le_left, add-mul, mul-add, suc-mul}
use Rattle.rtsp_record.specs.declared.phases.Phase.{Phase}
use Rattle.rtsp_record.specs.Moments.{due}
use Rattle.rtsp_content.specs.declared.limits.TheConstants.{MAX_TRACKS}
use Rattle.rtsp_content.specs.declared.packing.Packing.{Packing}
use Rattle.rtsp_content.specs.declared.packing.Packing.TheVariants.{Single, Slots, Equal}
use Rattle.rtsp_content.specs.PackingLimits.{packet_count, report_rate}
use Rattle.rtsp_content.specs.Rate.{rate_of, unit_bits}
use Rattle.rtsp_rtp.specs.declared.source.Source.{Source}
use Rattle.rtsp_rtp.specs.declared.sender_state.SenderState.{SenderState}
use Rattle.rtsp_rtp.specs.declared.turn.Turn.{Turn}
use Rattle.rtsp_rtp.specs.declared.turn.Turn.TheVariants as turns
use Rattle.rtsp_rtp.specs.declared.turn.LastTurn.{LastTurn}
use Rattle.rtsp_rtp.specs.declared.turn.LastTurn.TheVariants as last_turns
use Rattle.rtsp_rtp.specs.SenderStates.{unsent_state, unsent_states, state_of, report_every}
use Rattle.rtsp_rtp.specs.Sinks.{Calls}
use Rattle.rtsp_rtp.specs.Pacing.{Pacing, IsPacing, IsSourceWithin, begun_at, units_in, schedule}
use Rattle.rtsp_rtp.specs.Turns.{AllSent, SendsAll, SendsSome, Turned, unsent_at}
use Rattle.rtsp_rtp.specs.Leaving.{LastTurned}
use Rattle.rtsp_rtp.specs.Wire.{Way, reserve_of, held_rate, all_packets_wire, all_behind_wire, all_wire, turned_wire, last_turned_wire, AnyTurn, any_wire, AllTurns, turns_wire, IsPlayWithin}
use Rattle.rtsp_rtp.proofs.Dues.{due_is}
use Rattle.rtsp_rtp.proofs.Departing.{due_later}
use Rattle.rtsp_rtp.proofs.Scheduling.{right_pos}
use Rattle.rtsp_rtp.proofs.Wiring.{all_within}
use Rattle.rtsp_rtp.proofs.Reckoning.{AreBefore, Bounds, IsEntry, all_from, at_most, if_reporting, from_most, all_add}

abbrev reserve : ℕ × Source → ℕ
reserve y = reserve_of y.1

-- The schedule, as what it costs.

of_row : (i : ℕ) (xs : List Source) → sum_by reserve (map (λ (x : Source). (i, x)) xs) ≡ sum_by reserve_of xs
of_row i [] = refl
of_row i (x ∷ xs) =
    let here : sum_by reserve ((i, x) ∷ map (λ (z : Source). (i, z)) xs) ≡ reserve (i, x) + sum_by reserve (map (λ (z : Source). (i, z)) xs) = sum_by-cons reserve (i, x) (map (λ (z : Source). (i, z)) xs) in
    let there : sum_by reserve_of (x ∷ xs) ≡ reserve_of x + sum_by reserve_of xs = sum_by-cons reserve_of x xs in
    let same : reserve (i, x) ≡ reserve_of x = refl in
    omega (arith, here, there, same, of_row i xs)

-- each unit may take as much
of_schedule : (xs : List Source) (i n : ℕ) → sum_by reserve (schedule xs i n) ≡ n * sum_by reserve_of xs
of_schedule xs i zero = grind arith
of_schedule xs i (suc n) =
    sum_by-append reserve (map (λ (x : Source). (i, x)) xs) (schedule xs (i + 1) n)
    ∙ omega (arith, of_row i xs, of_schedule xs (i + 1) n, suc-mul n (sum_by reserve_of xs))

-- its entries are units that are due, of the sources
of_entries : (xs : List Source) (m i n : ℕ) → i + n ≤ m → All (IsEntry xs m) (schedule xs i n)
of_entries xs m i zero fits = λ k d inside. absurd (omega (arith, inside))
of_entries xs m i (suc n) fits =
    let row : All (λ (x : Source). IsEntry xs m (i, x)) xs = λ k d inside. record { due = omega (arith, fits); among = All-contains_itself xs k d inside } in
    All-append (IsEntry xs m) (map (λ (x : Source). (i, x)) xs) (schedule xs (i + 1) n)
    (All-map (IsEntry xs m) (λ (x : Source). (i, x)) xs row)
    (of_entries xs m (i + 1) n (omega (arith, fits)))

-- a longer schedule goes on from a shorter one
schedule_more : (xs : List Source) (i k r : ℕ) → schedule xs i (k + r) ≡ schedule xs i k ++ schedule xs (i + k) r
schedule_more xs i zero r =
    let here : i ≡ i + 0 = omega arith in
    let none : 0 + r ≡ r = omega arith in
    ap (schedule xs i) none ∙ ap (λ (n : ℕ). schedule xs n r) here
schedule_more xs i (suc k) r =
    let one : suc k + r ≡ suc (k + r) = omega arith in
    let on : (i + 1) + k ≡ i + suc k = omega arith in
    let here : List (ℕ × Source) = map (λ (x : Source). (i, x)) xs in
    let rest : schedule xs (i + 1) (k + r) ≡ schedule xs (i + 1) k ++ schedule xs (i + suc k) r =
    schedule_more xs (i + 1) k r ∙ ap (λ (n : ℕ). schedule xs (i + 1) k ++ schedule xs n r) on
    in
    ap (schedule xs i) one ∙ (ap (λ (l : List (ℕ × Source)). here ++ l) rest ∙ sym (append_assoc here (schedule xs (i + 1) k) (schedule xs (i + suc k) r)))

some_part : {A : Type 0} (n d : ℕ) (xs ys : List A) → n ≤ length (drop d xs) → take n (drop d (xs ++ ys)) ≡ take n (drop d xs)
some_part n zero xs ys most = take-append-le n xs ys most
some_part zero (suc d) [] ys most = refl
some_part (suc n) (suc d) [] ys most = absurd (omega (arith, most))
some_part n (suc d) (x ∷ xs) ys most = some_part n d xs ys most

-- what is left at an earlier moment is left at a later one, too
earlier_part : (xs : List Source) (k n c d : ℕ) → k ≤ n → c ≤ length (drop d (schedule xs 0 k)) → take c (drop d (schedule xs 0 k)) ≡ take c (drop d (schedule xs 0 n))
earlier_part xs k n c d fewer most =
    let parts : k + (n - k) ≡ n = omega (arith, fewer) in
    let whole : schedule xs 0 n ≡ schedule xs 0 k ++ schedule xs (0 + k) (n - k) = ap (schedule xs 0) (sym parts) ∙ schedule_more xs 0 k (n - k) in
    sym (ap (λ (l : List (ℕ × Source)). take c (drop d l)) whole ∙ some_part c d (schedule xs 0 k) (schedule xs (0 + k) (n - k)) most)

-- what the first k entries cost of all that is due by a moment
abbrev due_by : Pacing → ℕ → ℕ
due_by p m = due p.phase p.unit_ms m

abbrev cost : Pacing → ℕ → ℕ → ℕ
cost p m k = sum_by reserve (take k (schedule p.sources 0 (due_by p m)))

-- the last unit from which a stream reports again that has sent what is due by a moment
abbrev last_from : Pacing → ℕ → ℕ
last_from p m = due_by p m + report_every p.unit_ms - 1

-- what is so of a pacer between turns up to a moment
pub record Facts (m : ℕ) (p : Pacing) : Type 0 where
  pub unit : 0 < p.unit_ms
  pub sources : All IsSourceWithin p.sources
  pub states : length p.states ≡ MAX_TRACKS
  pub before : AreBefore (last_from p m) p.states

a_second : (unit_ms : ℕ) → 0 < unit_ms → 1000 ≤ report_every unit_ms * unit_ms
a_second unit_ms some = (div_ceil_times 1000 unit_ms some).0

every_some : (unit_ms : ℕ) → 0 < unit_ms → 1 ≤ report_every unit_ms
every_some unit_ms some =
    let turned : unit_ms * report_every unit_ms ≡ report_every unit_ms * unit_ms = grind arith in
    right_pos 0 unit_ms (report_every unit_ms) (omega (arith, turned, a_second unit_ms some))

-- what a turn adds to what was sent
pub record Spends (m : ℕ) (p q : Pacing) (wire : ℕ) : Type 0 where
  pub packets : ℕ
  pub reports : ℕ
  pub is : wire ≡ packets + reports
  pub by_packets : packets + cost p m p.done ≤ cost p m q.done
  pub by_reports : report_every p.unit_ms * reports + 72 * all_from p.sources p.states ≤ 72 * all_from p.sources q.states
  pub same : q ≡ record p { states = q.states; done = q.done }
  pub facts : Facts m q

-- what all turns that are left send
pub record Split (m : ℕ) (p : Pacing) (wire : ℕ) : Type 0 where
  pub packets : ℕ
  pub reports : ℕ
  pub is : wire ≡ packets + reports
  pub by_packets : packets + cost p m p.done ≤ sum_by reserve (schedule p.sources 0 (due_by p m))
  pub by_reports : report_every p.unit_ms * reports + 72 * all_from p.sources p.states ≤ 72 * at_most p.sources (last_from p m)

module _ {S : Type 0} (calls : Calls S) (way : ℕ → Way) (m : ℕ) (p q : Pacing) (facts : Facts m p) where
  spends : (t c : ℕ) (es : List (ℕ × Source)) → t ≤ m → es ≡ take c (unsent_at p t) → c ≤ length (unsent_at p t) → q.done ≡ p.done + c
      → q ≡ record p { states = q.states; done = q.done } → (s u : S) (all : AllSent calls p.phase p.unit_ms es p.states q.states s u) → Spends m p q (all_wire calls way p.phase p.unit_ms es p.states q.states s u all)
  spends t c es early is most done same s u all =
      let n = due_by p m in
      let k = due p.phase p.unit_ms t in
      let fewer : k ≤ n = due_later p.phase p.unit_ms t m facts.unit early in
      let bounds : Bounds p.unit_ms n (last_from p m) = record { some = every_some p.unit_ms facts.unit; is = omega (arith, every_some p.unit_ms facts.unit) } in
      let due_entries : All (IsEntry p.sources n) (take c (unsent_at p t)) = All-take (IsEntry p.sources n) c (unsent_at p t) (All-drop (IsEntry p.sources n) p.done (schedule p.sources 0 k) (of_entries p.sources n 0 k (omega (arith, fewer)))) in
      let entries : All (IsEntry p.sources n) es = subst (λ (l : List (ℕ × Source)). All (IsEntry p.sources n) l) (sym is) due_entries in
      let added = all_add calls way p.phase p.unit_ms n (last_from p m) p.sources bounds facts.sources es p.states q.states s u all entries facts.states facts.before in
      let within = all_within calls way p.phase p.unit_ms es p.states q.states s u all in
      let there : es ≡ take c (drop p.done (schedule p.sources 0 n)) = is ∙ earlier_part p.sources k n c p.done fewer most in
      let costs : cost p m (p.done + c) ≡ cost p m p.done + sum_by reserve (take c (drop p.done (schedule p.sources 0 n))) =
      ap (sum_by reserve) (take-add p.done c (schedule p.sources 0 n)) ∙ sum_by-append reserve (take p.done (schedule p.sources 0 n)) (take c (drop p.done (schedule p.sources 0 n)))
      in
      record {
        packets = all_packets_wire calls way p.phase p.unit_ms es p.states q.states s u all;
        reports = all_behind_wire calls way p.phase p.unit_ms es p.states q.states s u all;
        is = refl;
        by_packets = omega (arith, within, ap (sum_by reserve) there, costs, ap (λ (d : ℕ). cost p m d) done);
        by_reports = added.reports;
        same = same;
        facts = subst (λ (r : Pacing). Facts m r) (sym same) (record { unit = facts.unit; sources = facts.sources; states = added.kept ∙ facts.states; before = added.before });
      }

  all_spends : (t : ℕ) → t ≤ m → q ≡ record p { states = q.states; done = q.done } → (s u : S) (sends : SendsAll calls p.phase p.unit_ms (unsent_at p t) p.done q.done p.states q.states s u)
      → Spends m p q (all_wire calls way p.phase p.unit_ms (unsent_at p t) p.states q.states s u sends.sent)
  all_spends t early same s u sends = spends t (length (unsent_at p t)) (unsent_at p t) early (sym (take-length (unsent_at p t))) (omega arith) sends.done same s u sends.sent

  some_spends : (t : ℕ) → t ≤ m → q ≡ record p { states = q.states; done = q.done } → (s u : S) (sends : SendsSome calls p.phase p.unit_ms (unsent_at p t) p.done q.done p.states q.states s u)
      → Spends m p q (all_wire calls way p.phase p.unit_ms (take sends.count (unsent_at p t)) p.states q.states s sends.between sends.sent)
  some_spends t early same s u sends =
      let inside = slice_get_within (unsent_at p t) sends.count sends.next sends.is_next in
      spends t sends.count (take sends.count (unsent_at p t)) early refl (omega (arith, inside)) sends.done same s sends.between sends.sent

  none_spends : q ≡ p → Spends m p q 0
  none_spends same =
      subst (λ (r : Pacing). Spends m p r 0) (sym same)
      (record { packets = 0; reports = 0; is = refl; by_packets = omega arith; by_reports = omega arith; same = refl; facts = facts })

  turn_spends : (session : ℕ) (phase : Phase) (moment : ℕ) (answer : Turn) (s u : S) → moment ≤ m → (t : Turned calls p q session phase moment answer s u) → Spends m p q (turned_wire calls way p q session phase moment answer s u t)
  turn_spends session phase moment turns.More s u early t = all_spends moment early t.0.pacer s u t.0.sends
  turn_spends session phase moment turns.AtEnd s u early t = all_spends moment early t.0.pacer s u t.0.sends
  turn_spends session phase moment turns.OtherPlay s u early t = none_spends t.pacer
  turn_spends session phase moment turns.SinkFailed s u early t = some_spends moment early t.pacer s u t.sends

  last_spends : (session : ℕ) (phase : Phase) (moment : ℕ) (answer : LastTurn) (s u : S) → moment ≤ m → (t : LastTurned calls p q session phase moment answer s u) → Spends m p q (last_turned_wire calls way p q session phase moment answer s u t)
  last_spends session phase moment last_turns.Done s u early t = all_spends t.when (omega (arith, t.past, early)) t.pacer s u (t.sends t.when t.left)
  last_spends session phase moment last_turns.More s u early t = all_spends (min t.when moment) (omega (arith, min-le_right t.when moment, early)) t.pacer s u (t.sends t.when t.left)
  last_spends session phase moment last_turns.NotLeft s u early t = none_spends t.pacer
  last_spends session phase moment last_turns.SinkFailed s u early t = some_spends (min t.when moment) (omega (arith, min-le_right t.when moment, early)) t.pacer s u (t.sends t.when t.left)

  any_spends : (t : AnyTurn calls way m p q) → Spends m p q (any_wire calls way m p q t)
  any_spends (inl t) = turn_spends t.session t.phase t.moment t.answer t.sink t.after t.by t.turned
  any_spends (inr t) = last_spends t.session t.phase t.moment t.answer t.sink t.after t.by t.turned

module _ {S : Type 0} (calls : Calls S) (way : ℕ → Way) (m : ℕ) where
  all_split : (p : Pacing) (qs : List Pacing) (all : AllTurns calls way m p qs) → Facts m p → Split m p (turns_wire calls way m p qs all)
  all_split p [] all facts = record {
    packets = 0;
    reports = 0;
    is = refl;
    by_packets = omega (arith, sum_by-take-le reserve (schedule p.sources 0 (due_by p m)) p.done);
    by_reports = omega (arith, from_most p.sources p.states (last_from p m) facts.before);
  }
  all_split p (q ∷ qs) all facts =
      let one = any_spends calls way m p q facts all.0 in
      let rest = all_split q qs all.1 one.facts in
      let P : Pacing → Type 0 = λ r. rest.packets + cost r m q.done ≤ sum_by reserve (schedule r.sources 0 (due_by r m)) in
      let Q : Pacing → Type 0 = λ r. report_every r.unit_ms * rest.reports + 72 * all_from r.sources q.states ≤ 72 * at_most r.sources (last_from r m) in
      let packets : P (record p { states = q.states; done = q.done }) = subst P one.same rest.by_packets in
      let reports : Q (record p { states = q.states; done = q.done }) = subst Q one.same rest.by_reports in
      record {
        packets = one.packets + rest.packets;
        reports = one.reports + rest.reports;
        is = omega (arith, one.is, rest.is);
        by_packets = omega (arith, one.by_packets, packets);
        by_reports = omega (arith, one.by_reports, reports, mul-add (report_every p.unit_ms) one.reports rest.reports);
      }

-- Both against time.

-- no more units are due than have passed, and one
by_moment : (p : Phase) (unit_ms m : ℕ) → due p unit_ms m * unit_ms ≤ m - begun_at p + unit_ms
by_moment p unit_ms m =
    let d = (m - begun_at p) / unit_ms in
    let capped : due p unit_ms m ≤ d + 1 = rw (due_is p unit_ms m) (min-le_right (units_in p) (d + 1)) in
    let rows : due p unit_ms m * unit_ms ≤ (d + 1) * unit_ms = mul-le (due p unit_ms m) unit_ms (d + 1) unit_ms capped (omega arith) in
    omega (arith, rows, add-mul d 1 unit_ms, div-mul-le_self (m - begun_at p) unit_ms)

-- the last of them was due by then
by_last : (p : Phase) (unit_ms m : ℕ) → (due p unit_ms m - 1) * unit_ms ≤ m - begun_at p
by_last p unit_ms m =
    let d = (m - begun_at p) / unit_ms in
    let capped : due p unit_ms m ≤ d + 1 = rw (due_is p unit_ms m) (min-le_right (units_in p) (d + 1)) in
    let rows : (due p unit_ms m - 1) * unit_ms ≤ d * unit_ms = mul-le (due p unit_ms m - 1) unit_ms d unit_ms (omega (arith, capped)) (omega arith) in
    omega (arith, rows, div-mul-le_self (m - begun_at p) unit_ms)

-- how many of the sources report
abbrev reporters : List Source → ℕ
reporters xs = sum_by (λ x. if_reporting x.packing 1) xs

times_reporting : (packing : Packing) (n : ℕ) → if_reporting packing n ≡ if_reporting packing 1 * n
times_reporting Single n = grind arith
times_reporting (Slots k) n = grind arith
times_reporting (Equal k) n = grind arith

at_most_is : (xs : List Source) (n : ℕ) → at_most xs n ≡ reporters xs * n
at_most_is [] n = grind arith
at_most_is (x ∷ xs) n =
    let f : Source → ℕ = λ y. if_reporting y.packing n in
    let g : Source → ℕ = λ y. if_reporting y.packing 1 in
    let h : (reporters (x ∷ xs)) * n ≡ (g x + reporters xs) * n = ap (λ (k : ℕ). k * n) (sum_by-cons g x xs) in
    omega (arith, sum_by-cons f x xs, h, add-mul (g x) (reporters xs) n, times_reporting x.packing n, at_most_is xs n)

rate_reporting : (packing : Packing) → report_rate packing ≡ 576 * if_reporting packing 1
rate_reporting Single = refl
rate_reporting (Slots k) = refl
rate_reporting (Equal k) = refl

rates_are : (xs : List Source) → sum_by (λ x. report_rate x.packing) xs ≡ 576 * reporters xs
rates_are [] = refl
rates_are (x ∷ xs) =
    let f : Source → ℕ = λ y. report_rate y.packing in
    let g : Source → ℕ = λ y. if_reporting y.packing 1 in
    omega (arith, sum_by-cons f x xs, sum_by-cons g x xs, rate_reporting x.packing, rates_are xs)

-- the rate that is held for packets carries their units
abbrev packet_rates : ℕ → List Source → ℕ
packet_rates unit_ms xs = sum_by (λ x. held_rate unit_ms x - report_rate x.packing) xs

rates_split : (unit_ms : ℕ) (xs : List Source) → sum_by (held_rate unit_ms) xs ≡ packet_rates unit_ms xs + sum_by (λ x. report_rate x.packing) xs
rates_split unit_ms [] = refl
rates_split unit_ms (x ∷ xs) =
    let f : Source → ℕ = λ y. held_rate unit_ms y - report_rate y.packing in
    let g : Source → ℕ = λ y. report_rate y.packing in
    omega (arith, sum_by-cons (held_rate unit_ms) x xs, sum_by-cons f x xs, sum_by-cons g x xs, rates_split unit_ms xs)

rates_carry : (unit_ms : ℕ) (xs : List Source) → 0 < unit_ms → sum_by reserve_of xs * 8000 ≤ packet_rates unit_ms xs * unit_ms
rates_carry unit_ms [] some = omega arith
rates_carry unit_ms (x ∷ xs) some =
    let f : Source → ℕ = λ y. held_rate unit_ms y - report_rate y.packing in
    let bits = (x.octets + packet_count x.packing * 40) * 8000 in
    let enough = (div_ceil_times bits unit_ms some).0 in
    let here : f x * unit_ms ≡ (bits / unit_ms + min 1 (bits % unit_ms)) * unit_ms = ap (λ (k : ℕ). k * unit_ms) (omega arith) in
    let all : packet_rates unit_ms (x ∷ xs) * unit_ms ≡ f x * unit_ms + packet_rates unit_ms xs * unit_ms = ap (λ (k : ℕ). k * unit_ms) (sum_by-cons f x xs) ∙ add-mul (f x) (packet_rates unit_ms xs) unit_ms in
    omega (arith, sum_by-cons reserve_of x xs, enough, here, all, rates_carry unit_ms xs some)

-- reports, counted by units, against time
reports_in_time : (b every k n unit_ms passed : ℕ) → every * b ≤ 72 * (k * (n + every - 1)) → (n - 1) * unit_ms ≤ passed → 1000 ≤ every * unit_ms → b * 1000 ≤ 72 * k * (passed + 1000)
reports_in_time b every k n unit_ms passed by last second =
    let whole : 72 * k * (passed + 1000) ≡ 72 * k * passed + 72 * k * 1000 = mul-add (72 * k) passed 1000 in
    elim (cases_lt (72 * k) b) [
      | inl more ↦
          (let e = b - 72 * k in
          let is : b ≡ 72 * k + e = omega (arith, more) in
          let left : every * b ≡ every * (72 * k) + every * e = ap (λ (z : ℕ). every * z) is ∙ mul-add every (72 * k) e in
          let units : k * (n + every - 1) ≤ k * (n - 1 + every) = mul-le k (n + every - 1) k (n - 1 + every) (omega arith) (omega arith) in
          let parts : k * (n - 1 + every) ≡ k * (n - 1) + k * every = mul-add k (n - 1) every in
          let turned : every * (72 * k) ≡ 72 * (k * every) = grind arith in
          let few : every * e ≤ 72 * (k * (n - 1)) = omega (arith, by, left, units, parts, turned) in
          let scaled : every * e * unit_ms ≤ 72 * (k * (n - 1)) * unit_ms = mul-le (every * e) unit_ms (72 * (k * (n - 1))) unit_ms few (omega arith) in
          let there : 72 * (k * (n - 1)) * unit_ms ≡ 72 * k * ((n - 1) * unit_ms) = grind arith in
          let time : 72 * k * ((n - 1) * unit_ms) ≤ 72 * k * passed = mul-le (72 * k) ((n - 1) * unit_ms) (72 * k) passed (omega arith) last in
          let here : every * e * unit_ms ≡ e * (every * unit_ms) = grind arith in
          let seconds : e * 1000 ≤ e * (every * unit_ms) = mul-le e 1000 e (every * unit_ms) (omega arith) second in
          let sum : b * 1000 ≡ 72 * k * 1000 + e * 1000 = ap (λ (z : ℕ). z * 1000) is ∙ add-mul (72 * k) e 1000 in
          omega (arith, whole, scaled, there, time, here, seconds, sum))
      | inr few ↦ omega (arith, whole, mul-le b 1000 (72 * k) 1000 few (omega arith))
    ]

-- a replicated state is what it is of
all_unsent : (k n : ℕ) → get_or (replicate k unsent_state) n unsent_state ≡ unsent_state
all_unsent zero n = refl
all_unsent (suc k) zero = refl
all_unsent (suc k) (suc n) = all_unsent k n

module _ {S : Type 0} (calls : Calls S) (way : ℕ → Way) (p : Pacing) (is : IsPacing p) where
  at_first : p.states ≡ unsent_states → (m : ℕ) → Facts m p
  at_first none m = record {
    unit = is.unit;
    sources = is.sources;
    states = is.states;
    before = λ t.
        let zero_from : (state_of p.states t).reports_from ≡ 0 = ap (λ (l : List SenderState). (state_of l t).reports_from) none ∙ ap (λ (s : SenderState). s.reports_from) (all_unsent MAX_TRACKS t) in
        omega (arith, zero_from);
  }

  pub play_within : IsPlayWithin calls way p
  play_within begun none m qs all =
      let xs = p.sources in
      let ms = p.unit_ms in
      let passed = m - begun_at p.phase in
      let time = passed + ms in
      let n = due_by p m in
      let split = all_split calls way m p qs all (at_first none m) in
      let a = split.packets in
      let b = split.reports in
      let few : a ≤ n * sum_by reserve_of xs = omega (arith, split.by_packets, of_schedule xs 0 n) in
      let eight : a * 8000 ≤ n * sum_by reserve_of xs * 8000 = mul-le a 8000 (n * sum_by reserve_of xs) 8000 few (omega arith) in
      let turned : n * sum_by reserve_of xs * 8000 ≡ n * (sum_by reserve_of xs * 8000) = grind arith in
      let carried : n * (sum_by reserve_of xs * 8000) ≤ n * (packet_rates ms xs * ms) = mul-le n (sum_by reserve_of xs * 8000) n (packet_rates ms xs * ms) (omega arith) (rates_carry ms xs is.unit) in
      let order : n * (packet_rates ms xs * ms) ≡ packet_rates ms xs * (n * ms) = grind arith in
      let timed : packet_rates ms xs * (n * ms) ≤ packet_rates ms xs * time = mul-le (packet_rates ms xs) (n * ms) (packet_rates ms xs) time (omega arith) (by_moment p.phase ms m) in
      let counted : report_every ms * b ≤ 72 * (reporters xs * (n + report_every ms - 1)) = omega (arith, split.by_reports, at_most_is xs (n + report_every ms - 1)) in
      let reported = reports_in_time b (report_every ms) (reporters xs) n ms passed counted (by_last p.phase ms m) (a_second ms is.unit) in
      let more : 72 * reporters xs * (passed + 1000) ≤ 72 * reporters xs * (time + 1000) = mul-le (72 * reporters xs) (passed + 1000) (72 * reporters xs) (time + 1000) (omega arith) (omega arith) in
      let spread : 72 * reporters xs * (time + 1000) ≡ 72 * reporters xs * time + 72 * reporters xs * 1000 = mul-add (72 * reporters xs) time 1000 in
      let scaled : 576 * reporters xs * time ≡ 8 * (72 * reporters xs * time) = grind arith in
      let rates : sum_by (held_rate ms) xs * time ≡ packet_rates ms xs * time + sum_by (λ x. report_rate x.packing) xs * time =
      ap (λ (z : ℕ). z * time) (rates_split ms xs) ∙ add-mul (packet_rates ms xs) (sum_by (λ x. report_rate x.packing) xs) time
      in
      let held : sum_by (λ x. report_rate x.packing) xs * time ≡ 576 * reporters xs * time = ap (λ (z : ℕ). z * time) (rates_are xs) in
      omega (arith, split.is, eight, turned, carried, order, timed, reported, more, spread, scaled, rates, held, rates_are xs)
