-- What stands under the admissions of a session.
use Rattle.std.proofs.Common.{◌≡◌, ◌≢◌, ℕ, ◌+◌, cond, refl, sym, ◌∙◌, ap, subst, arith}
use Rattle.std.specs.Prelude.{Option, Some, None}
use Rattle.std.specs.FinMap.{get}
use Rattle.rtsp_record.specs.declared.holdings.Thing.{Thing}
use Rattle.rtsp_record.specs.declared.streams.Stream.{Stream}
use Rattle.rtsp_record.specs.Tables.{Table, set, total}
use Rattle.rtsp_record.specs.declared.holdings.Admission.{Admission}
use Rattle.rtsp_record.specs.Books.{Session, row, kept, bare, or_bare, under, with_under}
use Rattle.rtsp_record.specs.Sound.{Normal}
use Rattle.rtsp_record.proofs.Tables.{weigh, at_key, get-set, get-set_own, get-set_else, set-twice, set-same, total-set}

or_bare_row : (r : Option ℕ) (x : Option Thing) (v : Option Stream) → or_bare (row r x v) ≡ record { rate = r; address = x; stream = v }
or_bare_row None None None = refl
or_bare_row r x v = refl

pub or_bare_kept : (d : Admission) → or_bare (kept d) ≡ d
or_bare_kept d = or_bare_row d.rate d.address d.stream

pub under-own : (f : Session) (a : ℕ) (d : Admission) → under (with_under f a d) a ≡ d
under-own f a d = ap or_bare (get-set_own f.admissions a (kept d)) ∙ or_bare_kept d

pub under-else : (f : Session) (a b : ℕ) (d : Admission) → b ≢ a → under (with_under f a d) b ≡ under f b
under-else f a b d apart = ap or_bare (get-set_else f.admissions a b (kept d) apart)

-- what is put back as it was leaves the session as it was
pub with_under-back : (f : Session) (a : ℕ) (d e : Admission) → Normal f → e ≡ under f a → with_under (with_under f a d) a e ≡ f
with_under-back f a d e normal is =
    ap (λ (t : Table Admission). record f { admissions = t })
    (set-twice f.admissions a (kept d) (kept e) ∙ ap (set f.admissions a) (ap kept is ∙ normal a) ∙ set-same f.admissions a)

weigh_kept : (u : ℕ × Admission → ℕ) (a : ℕ) (r : Option ℕ) (x : Option Thing) (v : Option Stream) → u (a, bare) ≡ 0 → weigh u a (row r x v) ≡ u (a, record { rate = r; address = x; stream = v })
weigh_kept u a None None None z = sym z
weigh_kept u a r x v z = refl

weigh_bare : (u : ℕ × Admission → ℕ) (a : ℕ) (o : Option Admission) → u (a, bare) ≡ 0 → weigh u a o ≡ u (a, or_bare o)
weigh_bare u a None z = sym z
weigh_bare u a (Some d) z = refl

-- one equation for every sum over the admissions in which nothing counts nothing
pub total-under : (u : ℕ × Admission → ℕ) (f : Session) (a : ℕ) (d : Admission) → u (a, bare) ≡ 0 → total u (with_under f a d).admissions + u (a, under f a) ≡ total u f.admissions + u (a, d)
total-under u f a d z =
    omega (arith, total-set u f.admissions a (kept d) (get f.admissions a) refl, weigh_kept u a d.rate d.address d.stream z, weigh_bare u a (get f.admissions a) z)

-- by cases on whether it is the admission that changed
pub at_under : (f : Session) (a : ℕ) (d : Admission) (b : ℕ) (P : Admission → Type 0) → (b ≡ a → P d) → P (under f b) → P (under (with_under f a d) b)
at_under f a d b P here other =
    subst P (sym (ap or_bare (get-set f.admissions a b (kept d))))
    (at_key a b (λ t. P (or_bare (cond t (kept d) (get f.admissions b)))) (λ _ e. subst P (sym (or_bare_kept d)) (here e)) (λ _. other))

pub normal-under : (f : Session) (a : ℕ) (d : Admission) → Normal f → Normal (with_under f a d)
normal-under f a d normal b =
    ap (λ o. kept (or_bare o)) (get-set f.admissions a b (kept d))
    ∙ at_key a b (λ t. kept (or_bare (cond t (kept d) (get f.admissions b))) ≡ cond t (kept d) (get f.admissions b)) (λ _ _. ap kept (or_bare_kept d)) (λ _. normal b)
    ∙ sym (get-set f.admissions a b (kept d))
