-- What is right is let through at a gate.
use Rattle.std.proofs.Common.{◌≡◌, ◌<◌, ℕ, Bool, true, false, cond, List, [], ◌∷◌, Option, Some, None, Result, Ok, Err, refl, sym, ◌∙◌, ap, arith}
use Rattle.std.specs.Prelude.{codes, bytes_eq, nat_lt}
use Rattle.std.proofs.lemmas.Bool.Decides.{nat_tests}
use Rattle.std.proofs.lemmas.Slice.Eq.{bytes_eq-Decides}
use Rattle.rtsp_text.specs.Results.{◌>>=◌}
use Rattle.rtsp_grammar.specs.Header.{values_of}
use Rattle.rtsp_grammar.specs.Method.{method_name}
use Rattle.rtsp_grammar.specs.declared.message.Request.{Request}
use Rattle.rtsp_credentials.specs.Digest.{CountText, response_of}
use Rattle.rtsp_credentials.specs.Credentials.{CredentialTexts, authorization_of, credentials_in, credentials_among, count_number}
use Rattle.rtsp_credentials.specs.Users.{secret_in}
use Rattle.rtsp_credentials.specs.Verdict.{must, number_rule, last_uncounted, last_after, is_response, judged_by, judged, passed, IsNext, IsRight}
use Rattle.rtsp_credentials.specs.declared.gate.Gate.{Gate}
use Rattle.rtsp_credentials.specs.declared.protection.Protection.{Protection}
use Rattle.rtsp_credentials.specs.declared.users.Users.{Users}
use Rattle.rtsp_credentials.specs.declared.refusal.Refusal.{Refusal}
use Rattle.rtsp_credentials.specs.declared.refusal.Refusal.TheVariants.{OtherUri, OtherRealm, Stale, Replayed, Wrong, TooManyWrong}
use Rattle.rtsp_credentials.specs.Laws.{RightfulPass}

same : (xs ys : List ℕ) → xs ≡ ys → bytes_eq xs ys ≡ true
same xs ys e = (bytes_eq-Decides xs ys).1 e

steps : (b1 b2 b3 : Bool) (r : Result ℕ Refusal) (b5 : Bool) (last : ℕ) → b1 ≡ true → b2 ≡ true → b3 ≡ true → r ≡ Ok last → b5 ≡ true
    → (must b1 OtherUri >>= (λ (m : Unit {0}). must b2 OtherRealm >>= (λ (o : Unit {0}). must b3 Stale >>= (λ (n : Unit {0}). r >>= (λ (l : ℕ). must b5 Wrong >>= (λ (w : Unit {0}). Ok l)))))) ≡ Ok last
steps true true true (Ok l) true last e1 e2 e3 er e5 = er
steps true true true (Ok l) false last e1 e2 e3 er e5 = absurd cc
steps true true true (Err e) b5 last e1 e2 e3 er e5 = absurd cc
steps true true false r b5 last e1 e2 e3 er e5 = absurd cc
steps true false b3 r b5 last e1 e2 e3 er e5 = absurd cc
steps false b2 b3 r b5 last e1 e2 e3 er e5 = absurd cc

greater : (last n : ℕ) (b : Bool) → b ≡ nat_lt last n → last < n → cond b (Ok n) (Err Replayed) ≡ Ok n
greater last n true e lt = refl
greater last n false e lt = absurd (grind (arith, nat_tests))

numbered : (last : ℕ) (number : Option ℕ) (n : ℕ) → number ≡ Some n → last < n → number_rule last number ≡ Ok n
numbered last number n e lt = ap (number_rule last) e ∙ greater last n (nat_lt last n) refl lt

next : (gate : Gate) (count : Option CountText) (last : ℕ) → IsNext gate count last → last_after gate count ≡ Ok last
next gate None last h = ap (λ (p : Protection). last_uncounted p gate.last) h.0 ∙ ap (λ (n : ℕ). Ok n) (sym h.1)
next gate (Some count) last h = numbered gate.last (count_number count.nc) last h.0 h.1

answered : (c : CredentialTexts) (secret : Option (List ℕ)) (s : List ℕ) (method : List ℕ) → secret ≡ Some s → c.response ≡ response_of c.algorithm s c.nonce c.count method c.uri → is_response secret c method ≡ true
answered c secret s method e r = ap (λ (o : Option (List ℕ)). is_response o c method) e ∙ same (response_of c.algorithm s c.nonce c.count method c.uri) c.response (sym r)

-- the response, in the words of the credentials
in_words : (users : Users) (gate : Gate) (request : Request) (last : ℕ) (h : IsRight users gate request last)
    → h.credentials.response ≡ response_of h.credentials.algorithm h.secret h.credentials.nonce h.credentials.count (method_name request.method) h.credentials.uri
in_words users gate request last h =
    h.response ∙ ap (λ (n : List ℕ). response_of h.credentials.algorithm h.secret n h.credentials.count (method_name request.method) request.uri) (sym h.nonce)
    ∙ ap (λ (u : List ℕ). response_of h.credentials.algorithm h.secret h.credentials.nonce h.credentials.count (method_name request.method) u) (sym h.uri)

by_right : (users : Users) (gate : Gate) (request : Request) (last : ℕ) (h : IsRight users gate request last) → judged_by users gate (method_name request.method) request.uri h.credentials ≡ Ok last
unfolding judged_by
by_right users gate request last h =
    steps (bytes_eq h.credentials.uri request.uri) (bytes_eq h.credentials.realm users.realm) (bytes_eq h.credentials.nonce gate.nonce) (last_after gate h.credentials.count)
    (is_response (secret_in users.users h.credentials.username h.credentials.algorithm) h.credentials (method_name request.method)) last
    (same h.credentials.uri request.uri h.uri) (same h.credentials.realm users.realm h.realm) (same h.credentials.nonce gate.nonce h.nonce) (next gate h.credentials.count last h.next)
    (answered h.credentials (secret_in users.users h.credentials.username h.credentials.algorithm) h.secret (method_name request.method) h.has (in_words users gate request last h))

one_value : (values : List (List ℕ)) (value : List ℕ) → values ≡ value ∷ [] → authorization_of values ≡ Ok value
unfolding authorization_of
one_value values value e = ap authorization_of e

judges : (users : Users) (gate : Gate) (request : Request) (last : ℕ) → IsRight users gate request last → judged users gate request ≡ Ok last
unfolding judged credentials_among
judges users gate request last h =
    let value = one_value (values_of (codes "Authorization") request.headers) h.value h.only in
    ap (λ (r : Result (List ℕ) Refusal). (r >>= credentials_in) >>= (λ (c : CredentialTexts). judged_by users gate (method_name request.method) request.uri c)) value
    ∙ ap (λ (r : Result CredentialTexts Refusal). r >>= (λ (c : CredentialTexts). judged_by users gate (method_name request.method) request.uri c)) h.says
    ∙ by_right users gate request last h

still_open : (n : ℕ) (b : Bool) → b ≡ nat_lt n 8 → n < 8 → b ≡ true
still_open n true e lt = refl
still_open n false e lt = absurd (grind (arith, nat_tests))

abbrev onward : Gate → ℕ → Result Gate Refusal
onward gate last = Ok (record gate { last = last })

pub rightful_pass : RightfulPass
unfolding passed
rightful_pass users gate request last free h =
    ap (λ (b : Bool). cond b (Ok gate) (must (nat_lt gate.wrong 8) TooManyWrong >>= (λ (m : Unit {0}). judged users gate request >>= onward gate))) free
    ∙ ap (λ (b : Bool). must b TooManyWrong >>= (λ (m : Unit {0}). judged users gate request >>= onward gate)) (still_open gate.wrong (nat_lt gate.wrong 8) refl h.few)
    ∙ ap (λ (r : Result ℕ Refusal). r >>= onward gate) (judges users gate request last h)
