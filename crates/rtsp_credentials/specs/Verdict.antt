-- Whether a request is let through at the gate of a connection.
use Rattle.std.specs.Prelude.{◌≡◌, ◌<◌, ◌+◌, ℕ, Bool, true, false, ◌==◌, ◌&&◌, nat_lt, List, [], ◌∷◌, length, codes, bytes_eq, Option, Some, None, Result, Ok, Err, if◌then◌else◌}
use Rattle.rtsp_text.specs.Results.{◌>>=◌}
use Rattle.rtsp_grammar.specs.Header.{values_of}
use Rattle.rtsp_grammar.specs.Method.{method_name}
use Rattle.rtsp_grammar.specs.declared.method.Method.{Method}
use Rattle.rtsp_grammar.specs.declared.method.Method.TheVariants.{Options}
use Rattle.rtsp_grammar.specs.declared.message.Request.{Request}
use Rattle.rtsp_credentials.specs.Digest.{CountText, response_of}
use Rattle.rtsp_credentials.specs.Credentials.{CredentialTexts, credentials_in, credentials_among, count_number}
use Rattle.rtsp_credentials.specs.Users.{secret_in}
use Rattle.rtsp_credentials.specs.declared.gate.Gate.{Gate}
use Rattle.rtsp_credentials.specs.declared.protection.Protection.{Protection}
use Rattle.rtsp_credentials.specs.declared.protection.Protection.TheVariants.{Auth, AuthOrNone}
use Rattle.rtsp_credentials.specs.declared.users.Users.{Users}
use Rattle.rtsp_credentials.specs.declared.refusal.Refusal.{Refusal}
use Rattle.rtsp_credentials.specs.declared.refusal.Refusal.TheVariants as refusals

-- ---- as it is computed

abbrev pub must : Bool → Refusal → Result (Unit {0}) Refusal
must holds refusal = if holds then Ok tt else Err refusal

abbrev pub number_rule : ℕ → Option ℕ → Result ℕ Refusal
number_rule last None = Err refusals.Malformed
number_rule last (Some n) = if nat_lt last n then Ok n else Err refusals.Replayed

-- without qop there is no nc, so the greatest stays
abbrev pub last_uncounted : Protection → ℕ → Result ℕ Refusal
last_uncounted AuthOrNone last = Ok last
last_uncounted Auth last = Err refusals.OtherProtection

-- the greatest nc after a request
abbrev pub last_after : Gate → Option CountText → Result ℕ Refusal
last_after gate None = last_uncounted gate.protection gate.last
last_after gate (Some count) = number_rule gate.last (count_number count.nc)

-- the response is the one that a secret makes
abbrev pub is_right : List ℕ → CredentialTexts → List ℕ → Bool
is_right secret c method = bytes_eq (response_of c.algorithm secret c.nonce c.count method c.uri) c.response

-- the response is the one that the user's password makes
abbrev pub is_response : Option (List ℕ) → CredentialTexts → List ℕ → Bool
is_response None c method = false
is_response (Some secret) c method = is_right secret c method

-- the greatest nc after a request with these credentials
unfoldable pub judged_by : Users → Gate → List ℕ → List ℕ → CredentialTexts → Result ℕ Refusal
judged_by users gate method uri c = do
  matches ← must (bytes_eq c.uri uri) refusals.OtherUri
  ours ← must (bytes_eq c.realm users.realm) refusals.OtherRealm
  new ← must (bytes_eq c.nonce gate.nonce) refusals.Stale
  last ← last_after gate c.count
  right ← must (is_response (secret_in users.users c.username c.algorithm) c method) refusals.Wrong
  Ok last

unfoldable pub judged : Users → Gate → Request → Result ℕ Refusal
judged users gate request = do
  c ← credentials_among request.headers
  judged_by users gate (method_name request.method) request.uri c

-- an OPTIONS that names no session: it tells the server's methods, and nothing else
abbrev pub is_options : Method → Bool
is_options Options = true
is_options method = false

unfoldable pub is_free : Request → Bool
is_free request =
    is_options request.method && ((length (values_of (codes "Session") request.headers) == 0) && (length (values_of (codes "Pipelined-Requests") request.headers) == 0))

-- the gate after a request that is let through, or why it isn't; after eight wrong responses none is
unfoldable pub passed : Users → Gate → Request → Result Gate Refusal
passed users gate request =
    if is_free request then Ok gate
    else (must (nat_lt gate.wrong 8) refusals.TooManyWrong >>= (λ few. judged users gate request >>= (λ last. Ok (record gate { last = last }))))

abbrev pub name_in : Result CredentialTexts Refusal → Option (List ℕ)
name_in (Ok c) = Some c.username
name_in (Err refusal) = None

-- the user that a request says it is from; an OPTIONS that is free is from nobody
unfoldable pub user_asking : Request → Option (List ℕ)
user_asking request = if is_free request then None else name_in (credentials_among request.headers)

-- one wrong response more, as far as they are counted
abbrev pub counted : ℕ → ℕ
counted wrong = if nat_lt wrong 8 then wrong + 1 else wrong

-- the gate after a refusal: wrong responses are counted
abbrev pub after : Refusal → Gate → Gate
after refusals.Wrong gate = record gate { wrong = counted gate.wrong }
after refusal gate = gate

-- ---- as RFC 7616 has it

-- nc is greater than that of each request before; without qop, as RFC 2069 had it, there is none, and a gate may take that
abbrev pub IsNext : Gate → Option CountText → ℕ → Type 0
IsNext gate None last = (gate.protection ≡ AuthOrNone) × (last ≡ gate.last)
IsNext gate (Some count) last = (count_number count.nc ≡ Some last) × (gate.last < last)

-- Fewer than eight responses of the connection were wrong. The request has one Authorization header. It is of the request's URI, of the realm and of the connection's nonce; and its
-- response is the one that the digest of a user's password makes, which the file has (RFC 7616 section 3.4.1).
pub record IsRight (users : Users) (gate : Gate) (request : Request) (last : ℕ) : Type 0 where
  pub few : gate.wrong < 8
  pub value : List ℕ
  pub only : values_of (codes "Authorization") request.headers ≡ value ∷ []
  pub credentials : CredentialTexts
  pub says : credentials_in value ≡ Ok credentials
  pub uri : credentials.uri ≡ request.uri
  pub realm : credentials.realm ≡ users.realm
  pub nonce : credentials.nonce ≡ gate.nonce
  pub next : IsNext gate credentials.count last
  pub secret : List ℕ
  pub has : secret_in users.users credentials.username credentials.algorithm ≡ Some secret
  pub response : credentials.response ≡ response_of credentials.algorithm secret gate.nonce credentials.count (method_name request.method) request.uri
