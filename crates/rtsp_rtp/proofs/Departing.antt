-- The moments at which a session may have left a play.
use Rattle.std.proofs.Common.{List, ◌≡◌, ℕ, ◌+◌, ◌-◌, ◌*◌, ◌/◌, ◌%◌, ◌^◌, ◌<◌, ◌≤◌, min, refl, ap, sym, ◌∙◌, arith, ⊎_elim, subst, drop}
use Rattle.std.proofs.lemmas.Nat.{div-mul-add, le-div}
use Rattle.std.proofs.lemmas.Bool.{cases_lt}
use Rattle.std.proofs.Math.Nat.{div-mul-le_self}
use Rattle.rtsp_record.specs.declared.phases.Phase.{Phase}
use Rattle.rtsp_record.specs.declared.phases.Phase.TheVariants.{Ended}
use Rattle.rtsp_record.specs.Moments.{due, sent_before, sent_with_due}
use Rattle.rtsp_rtp.specs.declared.sender_state.SenderState.{SenderState}
use Rattle.rtsp_rtp.specs.Sinks.{Calls}
use Rattle.rtsp_rtp.specs.Pacing.{Pacing, begun_at, units_in, schedule}
use Rattle.rtsp_rtp.specs.Turns.{unsent_at, SendsAll, SendsSome}
use Rattle.std.specs.Prelude.{IfNone, Option, Some, None}
use Rattle.rtsp_rtp.specs.Leaving.{IsLeftFor, IsLeftAt, IsNeverLeft, Completed, Continued, Interrupted}
use Rattle.rtsp_rtp.proofs.Dues.{due_is, due_most}

-- no fewer are due later
pub due_later : (p : Phase) (unit_ms m n : ℕ) → 0 < unit_ms → m ≤ n → due p unit_ms m ≤ due p unit_ms n
due_later p unit_ms m n some later =
    let b = begun_at p in
    let whole : (m - b) / unit_ms * unit_ms ≤ n - b = omega (arith, div-mul-le_self (m - b) unit_ms, later) in
    let fewer : (m - b) / unit_ms ≤ (n - b) / unit_ms = le-div ((m - b) / unit_ms) (n - b) unit_ms some whole in
    omega (arith, fewer, due_is p unit_ms m, due_is p unit_ms n)

-- as many are due at the first moment at which so many are
at_first : (p : Phase) (unit_ms m n : ℕ) → 0 < unit_ms → n ≡ due p unit_ms m → due p unit_ms (begun_at p + (n - 1) * unit_ms) ≡ n
at_first p unit_ms m n some is =
    let b = begun_at p in
    let k = n - 1 in
    let passed : b + k * unit_ms - b ≡ k * unit_ms + 0 = omega arith in
    let units : (b + k * unit_ms - b) / unit_ms ≡ k = ap (λ (x : ℕ). x / unit_ms) passed ∙ div-mul-add k unit_ms 0 some in
    omega (arith, is, units, due_is p unit_ms (b + k * unit_ms), due_is p unit_ms m)

-- and where that is beyond the end, at the end
pub first_due : (p : Phase) (unit_ms m end last n : ℕ) → 0 < unit_ms → n ≡ due p unit_ms m → m ≤ end → end < 2 ^ 64 → last ≡ min (begun_at p + (n - 1) * unit_ms) (2 ^ 64 - 1) → due p unit_ms (min last end) ≡ n
first_due p unit_ms m end last n some is begun fits at =
    let f = begun_at p + (n - 1) * unit_ms in
    let x = min last end in
    let first : due p unit_ms f ≡ n = at_first p unit_ms m n some is in
    ⊎_elim
    (λ (before : x < f).
    let past : m ≤ x = omega (arith, before, begun, fits, at) in
    let more : due p unit_ms m ≤ due p unit_ms x = due_later p unit_ms m x some past in
    let less : due p unit_ms x ≤ due p unit_ms f = due_later p unit_ms x f some (omega (arith, before)) in
    omega (arith, more, less, first, is))
    (λ (not : f ≤ x). let same : x ≡ f = omega (arith, not, at) in ap (λ (y : ℕ). due p unit_ms y) same ∙ first)
    (cases_lt x f)

-- how many were counted is told by the sum
pub wraps : (s n sent : ℕ) → s < 2 ^ 32 → n < 2 ^ 32 → sent ≡ (s + n) % 2 ^ 32 → (sent + (2 ^ 32 - s)) % 2 ^ 32 ≡ n
wraps s n sent small few is = omega (arith, small, few, is)

same_count : (s m n : ℕ) → m < 2 ^ 32 → n < 2 ^ 32 → (s + m) % 2 ^ 32 ≡ (s + n) % 2 ^ 32 → m ≡ n
same_count s m n few small is = omega (arith, few, small, is)

counted : (p q : Phase) (unit_ms m : ℕ) → IsLeftFor p unit_ms m q → sent_before q ≡ sent_with_due p unit_ms m
counted p (Ended at sent) unit_ms m is = absurd is
counted p q unit_ms m is = is.1

-- whenever a play was left for a phase, as many units were due
pub same_due : (p q : Phase) (unit_ms m n : ℕ) → units_in p < 2 ^ 32 → IsLeftFor p unit_ms m q → IsLeftFor p unit_ms n q → due p unit_ms m ≡ due p unit_ms n
same_due p q unit_ms m n few left right =
    same_count (sent_before p) (due p unit_ms m) (due p unit_ms n) (omega (arith, due_most p unit_ms m, few)) (omega (arith, due_most p unit_ms n, few))
    (sym (counted p q unit_ms m left) ∙ counted p q unit_ms n right)

-- the earlier of two moments has as many due as the one at which fewer are
due_least : (p : Phase) (unit_ms m n : ℕ) → 0 < unit_ms → due p unit_ms (min m n) ≡ min (due p unit_ms m) (due p unit_ms n)
due_least p unit_ms m n some =
    ⊎_elim
    (λ (before : m < n).
    let same : min m n ≡ m = omega (arith, before) in
    let less : due p unit_ms m ≤ due p unit_ms n = due_later p unit_ms m n some (omega (arith, before)) in
    ap (λ (k : ℕ). due p unit_ms k) same ∙ omega (arith, less))
    (λ (not : n ≤ m).
    let same : min m n ≡ n = omega (arith, not) in
    let less : due p unit_ms n ≤ due p unit_ms m = due_later p unit_ms n m some not in
    ap (λ (k : ℕ). due p unit_ms k) same ∙ omega (arith, less))
    (cases_lt m n)

-- so it is by another moment, where that is earlier
pub same_until : (p q : Phase) (unit_ms m n moment : ℕ) → 0 < unit_ms → units_in p < 2 ^ 32 → IsLeftFor p unit_ms m q → IsLeftFor p unit_ms n q → due p unit_ms (min m moment) ≡ due p unit_ms (min n moment)
same_until p q unit_ms m n moment some few left right =
    due_least p unit_ms m moment some
    ∙ (ap (λ (k : ℕ). min k (due p unit_ms moment)) (same_due p q unit_ms m n few left right)
    ∙ sym (due_least p unit_ms n moment some))

-- a pacer whose session left the play at a moment, as it is seen from outside
pub record HasLeft (p old : Pacing) (session : ℕ) (phase : Phase) (left : ℕ) : Type 0 where
  pub is : p ≡ old
  pub unit : 0 < p.unit_ms
  pub few : units_in p.phase < 2 ^ 32
  pub at : IsLeftAt old session phase left

module _ {S : Type 0} (calls : Calls S) (p old : Pacing) (session : ℕ) (phase : Phase) (left moment done : ℕ) (e : List SenderState) (s u : S) where
  -- at another moment at which it may have left, as much was to be sent by then
  alike : 0 < p.unit_ms → units_in p.phase < 2 ^ 32 → IsLeftAt p session phase left → (m : ℕ) → IsLeftAt p session phase m
      → due p.phase p.unit_ms (min left moment) ≡ due p.phase p.unit_ms (min m moment)
  alike some few at m other = same_until p.phase phase p.unit_ms left m moment some few at.left other.left

  -- a last turn from what was sent in it
  pub completed : HasLeft p old session phase left → left ≤ moment → SendsAll calls p.phase p.unit_ms (unsent_at p (min left moment)) p.done done p.states e s u
      → Completed calls old (record p { states = e; done = done }) session phase moment s u
  completed is past sends =
      subst (λ (o : Pacing). IsLeftAt o session phase left → Completed calls o (record p { states = e; done = done }) session phase moment s u) is.is
      (λ at. record {
        when = left;
        left = at;
        past = past;
        sends = λ m other.
            let all : min left moment ≡ left = omega (arith, past) in
            subst (λ (n : ℕ). SendsAll calls p.phase p.unit_ms (drop p.done (schedule p.sources 0 n)) p.done done p.states e s u)
            (ap (λ (k : ℕ). due p.phase p.unit_ms k) all ∙ same_due p.phase phase p.unit_ms left m is.few at.left other.left) sends;
        pacer = refl;
      })
      is.at

  pub continued : HasLeft p old session phase left → moment < left → SendsAll calls p.phase p.unit_ms (unsent_at p (min left moment)) p.done done p.states e s u
      → Continued calls old (record p { states = e; done = done }) session phase moment s u
  continued is later sends =
      subst (λ (o : Pacing). IsLeftAt o session phase left → Continued calls o (record p { states = e; done = done }) session phase moment s u) is.is
      (λ at. record {
        when = left;
        left = at;
        later = later;
        sends = λ m other. subst (λ (n : ℕ). SendsAll calls p.phase p.unit_ms (drop p.done (schedule p.sources 0 n)) p.done done p.states e s u) (alike is.unit is.few at m other) sends;
        pacer = refl;
      })
      is.at

  pub interrupted : HasLeft p old session phase left → SendsSome calls p.phase p.unit_ms (unsent_at p (min left moment)) p.done done p.states e s u
      → Interrupted calls old (record p { states = e; done = done }) session phase moment s u
  interrupted is sends =
      subst (λ (o : Pacing). IsLeftAt o session phase left → Interrupted calls o (record p { states = e; done = done }) session phase moment s u) is.is
      (λ at. record {
        when = left;
        left = at;
        sends = λ m other. subst (λ (n : ℕ). SendsSome calls p.phase p.unit_ms (drop p.done (schedule p.sources 0 n)) p.done done p.states e s u) (alike is.unit is.few at m other) sends;
        pacer = refl;
      })
      is.at

-- no more are due than can be counted
pub due_few : (p : Phase) (unit_ms m : ℕ) → units_in p < 2 ^ 32 → due p unit_ms m < 2 ^ 32
due_few p unit_ms m few = omega (arith, due_most p unit_ms m, few)

-- where no moment is found there is none
pub never_left : (p : Pacing) (session : ℕ) (phase : Phase) (o : Option ℕ) → IfNone o ((m : ℕ) → m < 2 ^ 64 → IsLeftFor p.phase p.unit_ms m phase → ⊥) → IfNone o (IsNeverLeft p session phase)
never_left p session phase None none = λ m is. none m is.moment is.left
never_left p session phase (Some m) none = tt
