-- A gate that has counted wrong responses lets through no more than before.
use Rattle.std.proofs.Common.{◌≡◌, ◌≤◌, ◌<◌, ◌+◌, ℕ, Bool, true, false, cond, Result, Ok, Err, refl, sym, ◌∙◌, ap, subst, arith}
use Rattle.std.specs.Prelude.{nat_lt}
use Rattle.std.proofs.lemmas.Bool.Decides.{nat_tests}
use Rattle.rtsp_text.specs.Results.{◌>>=◌}
use Rattle.rtsp_grammar.specs.declared.message.Request.{Request}
use Rattle.rtsp_credentials.specs.Verdict.{must, judged_by, judged, is_free, passed, counted, after}
use Rattle.rtsp_credentials.specs.declared.gate.Gate.{Gate}
use Rattle.rtsp_credentials.specs.declared.users.Users.{Users}
use Rattle.rtsp_credentials.specs.declared.refusal.Refusal.{Refusal}
use Rattle.rtsp_credentials.specs.declared.refusal.Refusal.TheVariants as refusals
use Rattle.rtsp_guard.specs.Quiet.{OnlyCounted}

pub same_gate : (g h : Gate) → h ≡ g → OnlyCounted g h
same_gate g h e = subst (λ (z : Gate). OnlyCounted g z) (sym e) (record { same = refl; more = omega arith })

counted_more : (n : ℕ) (b : Bool) → n ≤ cond b (n + 1) n
counted_more n true = omega arith
counted_more n false = omega arith

wrong_counted : (g : Gate) → OnlyCounted g (record g { wrong = counted g.wrong })
wrong_counted g = record { same = refl; more = counted_more g.wrong (nat_lt g.wrong 8) }

pub after_counted : (refusal : Refusal) (g : Gate) → OnlyCounted g (after refusal g)
after_counted refusals.Wrong g = wrong_counted g
after_counted refusals.Missing g = same_gate g g refl
after_counted refusals.Repeated g = same_gate g g refl
after_counted refusals.OtherScheme g = same_gate g g refl
after_counted refusals.Malformed g = same_gate g g refl
after_counted refusals.OtherUri g = same_gate g g refl
after_counted refusals.OtherRealm g = same_gate g g refl
after_counted refusals.OtherAlgorithm g = same_gate g g refl
after_counted refusals.OtherProtection g = same_gate g g refl
after_counted refusals.Stale g = same_gate g g refl
after_counted refusals.Replayed g = same_gate g g refl
after_counted refusals.TooManyWrong g = same_gate g g refl

pub counted_again : (g h k : Gate) → OnlyCounted g h → OnlyCounted h k → OnlyCounted g k
counted_again g h k first second =
    record { same = second.same ∙ ap (λ (z : Gate). record z { wrong = k.wrong }) first.same; more = omega (arith, first.more, second.more) }

-- ---- a refusal stays one

abbrev onward : Gate → ℕ → Result Gate Refusal
onward gate last = Ok (record gate { last = last })

abbrev verdict : Bool → Bool → Gate → Result ℕ Refusal → Result Gate Refusal
verdict free few gate last = cond free (Ok gate) (must few refusals.TooManyWrong >>= (λ (m : Unit {0}). last >>= onward gate))

still : (old new : ℕ) (a b : Bool) → a ≡ nat_lt old 8 → b ≡ nat_lt new 8 → old ≤ new → b ≡ true → a ≡ true
still old new true b e f more h = refl
still old new false true e f more h = absurd (grind (arith, nat_tests))
still old new false false e f more h = absurd cc

closed : (free a b : Bool) (g h : Gate) (last : Result ℕ Refusal) (refusal : Refusal) → (b ≡ true → a ≡ true) → verdict free a g last ≡ Err refusal
    → (other : Refusal) × (verdict free b h last ≡ Err other)
closed true a b g h last refusal s e = absurd cc
closed false a false g h last refusal s e = (refusals.TooManyWrong, refl)
closed false true true g h (Ok n) refusal s e = absurd cc
closed false true true g h (Err other) refusal s e = (other, refl)
closed false false true g h last refusal s e = absurd (cc (s refl))

judged_same : (users : Users) (g : Gate) (wrong : ℕ) (request : Request) → judged users (record g { wrong = wrong }) request ≡ judged users g request
unfolding judged judged_by
judged_same users g wrong request = refl

pub stays_refused : (users : Users) (g h : Gate) (request : Request) (refusal : Refusal) → OnlyCounted g h → passed users g request ≡ Err refusal
    → (other : Refusal) × (passed users h request ≡ Err other)
unfolding passed
stays_refused users g h request refusal c e =
    let same : judged users h request ≡ judged users g request = ap (λ (z : Gate). judged users z request) c.same ∙ judged_same users g h.wrong request in
    let found = closed (is_free request) (nat_lt g.wrong 8) (nat_lt h.wrong 8) g h (judged users g request) refusal
    (still g.wrong h.wrong (nat_lt g.wrong 8) (nat_lt h.wrong 8) refl refl c.more) e in
    (found.0, ap (λ (r : Result ℕ Refusal). verdict (is_free request) (nat_lt h.wrong 8) h r) same ∙ found.1)
