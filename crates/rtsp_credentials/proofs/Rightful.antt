-- What is let through at a gate is right.
use Rattle.std.proofs.Common.{◌≡◌, ◌<◌, ℕ, Bool, true, false, cond, List, [], ◌∷◌, Option, Some, None, Result, Ok, Err, refl, sym, ◌∙◌, ap, subst, inl, inr, arith}
use Rattle.std.specs.Prelude.{◌⊎◌, codes, bytes_eq, nat_lt}
use Rattle.std.proofs.lemmas.Bool.Decides.{nat_tests}
use Rattle.std.proofs.lemmas.Slice.Eq.{bytes_eq-Decides}
use Rattle.rtsp_text.specs.Results.{◌>>=◌}
use Rattle.rtsp_grammar.specs.Header.{values_of}
use Rattle.rtsp_grammar.specs.Method.{method_name}
use Rattle.rtsp_grammar.specs.declared.message.Request.{Request}
use Rattle.rtsp_credentials.specs.Digest.{CountText, response_of}
use Rattle.rtsp_credentials.specs.Credentials.{CredentialTexts, authorization_of, credentials_in, credentials_among, count_number}
use Rattle.rtsp_credentials.specs.Users.{secret_in}
use Rattle.rtsp_credentials.specs.Verdict.{must, number_rule, last_uncounted, last_after, is_response, judged_by, judged, is_free, passed, IsNext, IsRight}
use Rattle.rtsp_credentials.specs.declared.gate.Gate.{Gate}
use Rattle.rtsp_credentials.specs.declared.protection.Protection.{Protection}
use Rattle.rtsp_credentials.specs.declared.protection.Protection.TheVariants.{Auth, AuthOrNone}
use Rattle.rtsp_credentials.specs.declared.users.Users.{Users}
use Rattle.rtsp_credentials.specs.declared.refusal.Refusal.{Refusal}
use Rattle.rtsp_credentials.specs.declared.refusal.Refusal.TheVariants.{OtherUri, OtherRealm, Stale, Replayed, Wrong, TooManyWrong}
use Rattle.rtsp_credentials.specs.Laws.{OnlyRightful}

bind_ok : {A B : Type 0} (r : Result A Refusal) (f : A → Result B Refusal) (y : B) → (r >>= f) ≡ Ok y → (x : A) × ((r ≡ Ok x) × (f x ≡ Ok y))
bind_ok (Ok x) f y h = (x, (refl, h))
bind_ok (Err e) f y h = absurd cc

must_ok : (b : Bool) (e : Refusal) (u : Unit {0}) → must b e ≡ Ok u → b ≡ true
must_ok true e u h = refl
must_ok false e u h = absurd cc

equal : (xs ys : List ℕ) → bytes_eq xs ys ≡ true → xs ≡ ys
equal xs ys h = (bytes_eq-Decides xs ys).0 h

one_value : (values : List (List ℕ)) (value : List ℕ) → authorization_of values ≡ Ok value → values ≡ value ∷ []
unfolding authorization_of
one_value [] value h = absurd cc
one_value (v ∷ []) value h = cc
one_value (v ∷ w ∷ values) value h = absurd cc

abbrev picked : Bool → ℕ → Refusal → Result ℕ Refusal
picked b n refusal = cond b (Ok n) (Err refusal)

greater : (last n l : ℕ) (b : Bool) → b ≡ nat_lt last n → picked b n Replayed ≡ Ok l → (n ≡ l) × (last < l)
greater last n l true b h = let e : n ≡ l = cc in (e, subst (λ (k : ℕ). last < k) e (grind (arith, nat_tests)))
greater last n l false b h = absurd cc

numbered : (last : ℕ) (number : Option ℕ) (l : ℕ) → number_rule last number ≡ Ok l → (number ≡ Some l) × (last < l)
numbered last None l h = absurd cc
numbered last (Some n) l h = let g = greater last n l (nat_lt last n) refl h in (ap (λ (k : ℕ). Some k) g.0, g.1)

uncounted : (p : Protection) (last l : ℕ) → last_uncounted p last ≡ Ok l → (p ≡ AuthOrNone) × (l ≡ last)
uncounted AuthOrNone last l h = (refl, cc)
uncounted Auth last l h = absurd cc

is_next : (gate : Gate) (count : Option CountText) (l : ℕ) → last_after gate count ≡ Ok l → IsNext gate count l
is_next gate None l h = uncounted gate.protection gate.last l h
is_next gate (Some count) l h = numbered gate.last (count_number count.nc) l h

answered : (secret : Option (List ℕ)) (c : CredentialTexts) (method : List ℕ) → is_response secret c method ≡ true
    → (s : List ℕ) × ((secret ≡ Some s) × (response_of c.algorithm s c.nonce c.count method c.uri ≡ c.response))
answered None c method h = absurd cc
answered (Some s) c method h = (s, (refl, equal (response_of c.algorithm s c.nonce c.count method c.uri) c.response h))

steps : (b1 b2 b3 : Bool) (r : Result ℕ Refusal) (b5 : Bool) (last : ℕ)
    → (must b1 OtherUri >>= (λ (m : Unit {0}). must b2 OtherRealm >>= (λ (o : Unit {0}). must b3 Stale >>= (λ (n : Unit {0}). r >>= (λ (l : ℕ). must b5 Wrong >>= (λ (w : Unit {0}). Ok l)))))) ≡ Ok last
    → (b1 ≡ true) × (b2 ≡ true) × (b3 ≡ true) × (r ≡ Ok last) × (b5 ≡ true)
steps true true true (Ok l) true last h = (refl, refl, refl, h, refl)
steps true true true (Ok l) false last h = absurd cc
steps true true true (Err e) b5 last h = absurd cc
steps true true false r b5 last h = absurd cc
steps true false b3 r b5 last h = absurd cc
steps false b2 b3 r b5 last h = absurd cc

right_by : (users : Users) (gate : Gate) (request : Request) (value : List ℕ) (c : CredentialTexts) (last : ℕ) → gate.wrong < 8 → values_of (codes "Authorization") request.headers ≡ value ∷ [] → credentials_in value ≡ Ok c
    → judged_by users gate (method_name request.method) request.uri c ≡ Ok last → IsRight users gate request last
unfolding judged_by
right_by users gate request value c last few only says h =
    let s = steps (bytes_eq c.uri request.uri) (bytes_eq c.realm users.realm) (bytes_eq c.nonce gate.nonce) (last_after gate c.count)
    (is_response (secret_in users.users c.username c.algorithm) c (method_name request.method)) last h in
    let uri = equal c.uri request.uri s.0 in
    let nonce = equal c.nonce gate.nonce s.2 in
    let found = answered (secret_in users.users c.username c.algorithm) c (method_name request.method) s.4 in
    record {
      few = few;
      value = value;
      only = only;
      credentials = c;
      says = says;
      uri = uri;
      realm = equal c.realm users.realm s.1;
      nonce = nonce;
      next = is_next gate c.count last s.3;
      secret = found.0;
      has = found.1.0;
      response = sym found.1.1 ∙ ap (λ (n : List ℕ). response_of c.algorithm found.0 n c.count (method_name request.method) c.uri) nonce
          ∙ ap (λ (u : List ℕ). response_of c.algorithm found.0 gate.nonce c.count (method_name request.method) u) uri;
    }

right : (users : Users) (gate : Gate) (request : Request) (last : ℕ) → gate.wrong < 8 → judged users gate request ≡ Ok last → IsRight users gate request last
unfolding judged credentials_among
right users gate request last few h =
    let s = bind_ok (credentials_among request.headers) (λ (c : CredentialTexts). judged_by users gate (method_name request.method) request.uri c) last h in
    let t = bind_ok (authorization_of (values_of (codes "Authorization") request.headers)) credentials_in s.0 s.1.0 in
    right_by users gate request t.0 s.0 last few (one_value (values_of (codes "Authorization") request.headers) t.0 t.1.0) t.1.1 s.1.1

abbrev onward : Gate → ℕ → Result Gate Refusal
onward gate last = Ok (record gate { last = last })

still_open : (n : ℕ) (b : Bool) → b ≡ nat_lt n 8 → b ≡ true → n < 8
still_open n true e t = grind (arith, nat_tests)
still_open n false e t = absurd cc

abbrev tried : Users → Gate → Request → Result Gate Refusal
tried users gate request = judged users gate request >>= onward gate

through : (users : Users) (gate next : Gate) (request : Request) (free : Bool) → free ≡ is_free request
    → cond free (Ok gate) (must (nat_lt gate.wrong 8) TooManyWrong >>= (λ (m : Unit {0}). tried users gate request)) ≡ Ok next
    → ((is_free request ≡ true) × (next ≡ gate)) ⊎ (IsRight users gate request next.last × (next ≡ (record gate { last = next.last })))
through users gate next request true f h = inl (sym f, cc)
through users gate next request false f h =
    let o = bind_ok (must (nat_lt gate.wrong 8) TooManyWrong) (λ (m : Unit {0}). tried users gate request) next h in
    let few = still_open gate.wrong (nat_lt gate.wrong 8) refl (must_ok (nat_lt gate.wrong 8) TooManyWrong o.0 o.1.0) in
    let s = bind_ok (judged users gate request) (onward gate) next o.1.1 in
    let e : record gate { last = s.0 } ≡ next = cc (s.1.1) in
    let l : s.0 ≡ next.last = ap (λ (g : Gate). g.last) e in
    inr (subst (λ (n : ℕ). IsRight users gate request n) l (right users gate request s.0 few s.1.0), sym e ∙ ap (λ (n : ℕ). record gate { last = n }) l)

pub only_rightful : OnlyRightful
unfolding passed
only_rightful users gate next request h = through users gate next request (is_free request) refl h
