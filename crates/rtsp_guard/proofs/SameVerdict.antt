-- A repair changes no verdict: neither the method nor the URI, nor what Authorization says, nor how many headers name a session.
use Rattle.std.proofs.Common.{◌≡◌, ℕ, Bool, true, false, cond, List, [], ◌∷◌, length, map, suc, Result, Ok, Err, refl, sym, ap, ◌∙◌}
use Rattle.std.specs.Prelude.{codes, ◌&&◌, ◌==◌, nat_lt}
use Rattle.std.specs.Char.{to_ascii_lowercase}
use Rattle.std.specs.Cmp.Lexicographic.{same_text}
use Rattle.std.proofs.lemmas.List.{length-map}
use Rattle.rtsp_text.specs.Results.{◌>>=◌}
use Rattle.rtsp_grammar.specs.Header.{HeaderText, is_named, values_of}
use Rattle.rtsp_grammar.specs.Method.{method_name}
use Rattle.rtsp_grammar.specs.declared.message.Request.{Request}
use Rattle.rtsp_credentials.specs.Credentials.{CredentialTexts, authorization_of, credentials_in, credentials_among}
use Rattle.rtsp_credentials.specs.Verdict.{must, judged_by, judged, is_options, is_free, passed}
use Rattle.rtsp_credentials.specs.declared.gate.Gate.{Gate}
use Rattle.rtsp_credentials.specs.declared.users.Users.{Users}
use Rattle.rtsp_credentials.specs.declared.refusal.Refusal.{Refusal}
use Rattle.rtsp_credentials.specs.declared.refusal.Refusal.TheVariants.{TooManyWrong}
use Rattle.rtsp_dialect.specs.Repair.{repaired_value, repaired_header, repaired}
use Rattle.rtsp_dialect.proofs.NameLengths.{other_length}
use Rattle.rtsp_dialect.proofs.Staying.{value_stays}
use Rattle.rtsp_guard.specs.Repaired.{SameVerdict}

named_length : (name other : List ℕ) → is_named name other ≡ true → length name ≡ length other
named_length name other h = sym (length-map name to_ascii_lowercase) ∙ ap length (same_text (map to_ascii_lowercase name) (map to_ascii_lowercase other) (sym h)) ∙ length-map other to_ascii_lowercase

authorization_stays : (h : HeaderText) → is_named h.name (codes "Authorization") ≡ true → repaired_value h ≡ h.value
authorization_stays h e =
    let n = named_length h.name (codes "Authorization") e in
    value_stays h (other_length h (λ long. absurd cc) (λ short. absurd cc))

same_values : (name : List ℕ) → ((h : HeaderText) → is_named h.name name ≡ true → repaired_value h ≡ h.value) → (hs : List HeaderText) → values_of name (map repaired_header hs) ≡ values_of name hs
unfolding values_of
same_values name stays [] = refl
same_values name stays (h ∷ hs) = go (is_named h.name name) refl (same_values name stays hs) where
  go : (x : Bool) → is_named h.name name ≡ x → values_of name (map repaired_header hs) ≡ values_of name hs
      → cond x (repaired_value h ∷ values_of name (map repaired_header hs)) (values_of name (map repaired_header hs)) ≡ cond x (h.value ∷ values_of name hs) (values_of name hs)
  go true q rest = ap (λ (v : List ℕ). v ∷ values_of name (map repaired_header hs)) (stays h q) ∙ ap (λ (vs : List (List ℕ)). h.value ∷ vs) rest
  go false q rest = rest

same_count : (name : List ℕ) (hs : List HeaderText) → length (values_of name (map repaired_header hs)) ≡ length (values_of name hs)
unfolding values_of
same_count name [] = refl
same_count name (h ∷ hs) = go (is_named h.name name) (same_count name hs) where
  go : (x : Bool) → length (values_of name (map repaired_header hs)) ≡ length (values_of name hs)
      → length (cond x (repaired_value h ∷ values_of name (map repaired_header hs)) (values_of name (map repaired_header hs))) ≡ length (cond x (h.value ∷ values_of name hs) (values_of name hs))
  go true rest = ap (λ (n : ℕ). suc n) rest
  go false rest = rest

abbrev by_values : Users → Gate → Request → List (List ℕ) → ℕ → ℕ → Result Gate Refusal
by_values users gate request values sessions startups =
    cond (is_options request.method && ((sessions == 0) && (startups == 0))) (Ok gate)
    (must (nat_lt gate.wrong 8) TooManyWrong >>= (λ (m : Unit {0}).
    ((authorization_of values >>= credentials_in) >>= (λ (c : CredentialTexts). judged_by users gate (method_name request.method) request.uri c)) >>= (λ (last : ℕ). Ok (record gate { last = last }))))

pub same_verdict : SameVerdict
unfolding passed is_free judged credentials_among
same_verdict users gate request =
    let sessions = codes "Session" in
    let startups = codes "Pipelined-Requests" in
    let new = map repaired_header request.headers in
    ap (λ (vs : List (List ℕ)). by_values users gate request vs (length (values_of sessions new)) (length (values_of startups new))) (same_values (codes "Authorization") authorization_stays request.headers)
    ∙ ap (λ (n : ℕ). by_values users gate request (values_of (codes "Authorization") request.headers) n (length (values_of startups new))) (same_count sessions request.headers)
    ∙ ap (λ (n : ℕ). by_values users gate request (values_of (codes "Authorization") request.headers) (length (values_of sessions request.headers)) n) (same_count startups request.headers)
