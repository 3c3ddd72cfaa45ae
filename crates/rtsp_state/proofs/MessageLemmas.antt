-- A header's line is its beginning, its value and its end.
use Rattle.std.proofs.Common.{◌≡◌, ℕ, List, [], ◌∷◌, ◌++◌, refl, sym, ap, ◌∙◌, append_assoc, append-nil}
use Rattle.rtsp_grammar.specs.Header.{HeaderText}
use Rattle.rtsp_grammar.specs.Writing.{header_text, headers_text}
use Rattle.rtsp_state.specs.declared.words.Field.{Field}
use Rattle.rtsp_state.specs.Words.{name_of_field}
use Rattle.rtsp_grammar.specs.Writing.{start_line_text, response_text}
use Rattle.rtsp_grammar.specs.declared.start_line.StartLine.TheVariants as starts
use Rattle.rtsp_grammar.specs.declared.version.Version.TheVariants.{Rtsp2}
use Rattle.rtsp_state.specs.Status.{code, reason}
use Rattle.rtsp_state.specs.declared.status.Status.TheVariants as statuses
use Rattle.rtsp_state.specs.declared.status.Status.{Status}
use Rattle.rtsp_state.specs.Response.{response}
use Rattle.rtsp_state.specs.FixedText.{header_name, status_line}

pub line_of : (field : Field) (value old a b new : List ℕ) → a ≡ old ++ header_name field → b ≡ a ++ value → new ≡ b ++ 13 ∷ 10 ∷ [] → new ≡ old ++ header_text (record { name = name_of_field field; value = value })
unfolding header_name
line_of field value old a b new x y z =
    let end : List ℕ = 13 ∷ 10 ∷ [] in
    let whole : header_name field ++ value ≡ name_of_field field ++ 58 ∷ 32 ∷ value = append_assoc (name_of_field field) (58 ∷ 32 ∷ []) value in
    let start : b ≡ old ++ (name_of_field field ++ 58 ∷ 32 ∷ value) = y ∙ ap (λ (l : List ℕ). l ++ value) x ∙ append_assoc old (header_name field) value ∙ ap (λ (l : List ℕ). old ++ l) whole in
    z ∙ ap (λ (l : List ℕ). l ++ end) start ∙ append_assoc old (name_of_field field ++ 58 ∷ 32 ∷ value) end

-- headers after headers
pub headers_append : (xs ys : List HeaderText) → headers_text (xs ++ ys) ≡ headers_text xs ++ headers_text ys
unfolding headers_text
headers_append [] ys = refl
headers_append (x ∷ xs) ys = ap (λ (l : List ℕ). header_text x ++ l) (headers_append xs ys) ∙ sym (append_assoc (header_text x) (headers_text xs) (headers_text ys))

pub headers_none : headers_text [] ≡ []
unfolding headers_text
headers_none = refl

pub headers_more : (x : HeaderText) (xs : List HeaderText) → headers_text (x ∷ xs) ≡ header_text x ++ headers_text xs
unfolding headers_text
headers_more x xs = refl

pub headers_one : (old new : List ℕ) (x : HeaderText) → new ≡ old ++ header_text x → new ≡ old ++ headers_text (x ∷ [])
headers_one old new x e = e ∙ ap (λ (l : List ℕ). old ++ l) (sym (headers_more x [] ∙ ap (λ (l : List ℕ). header_text x ++ l) headers_none ∙ append-nil (header_text x)))

pub headers_nothing : (old new : List ℕ) (hs : List HeaderText) → hs ≡ [] → new ≡ old → new ≡ old ++ headers_text hs
headers_nothing old new hs h e = e ∙ sym (append-nil old) ∙ ap (λ (l : List ℕ). old ++ l) (sym (ap headers_text h ∙ headers_none))

pub headers_first : (old a new : List ℕ) (x : HeaderText) (xs : List HeaderText) → a ≡ old ++ header_text x → new ≡ a ++ headers_text xs → new ≡ old ++ headers_text (x ∷ xs)
headers_first old a new x xs p q = q ∙ ap (λ (l : List ℕ). l ++ headers_text xs) p ∙ append_assoc old (header_text x) (headers_text xs) ∙ ap (λ (l : List ℕ). old ++ l) (sym (headers_more x xs))

pub headers_only : (old new : List ℕ) (x : HeaderText) (hs : List HeaderText) → hs ≡ x ∷ [] → new ≡ old ++ header_text x → new ≡ old ++ headers_text hs
headers_only old new x hs h e = headers_one old new x e ∙ ap (λ (l : List HeaderText). old ++ headers_text l) (sym h)

pub headers_two : (old a new : List ℕ) (xs ys : List HeaderText) → a ≡ old ++ headers_text xs → new ≡ a ++ headers_text ys → new ≡ old ++ headers_text (xs ++ ys)
headers_two old a new xs ys p q = q ∙ ap (λ (l : List ℕ). l ++ headers_text ys) p ∙ append_assoc old (headers_text xs) (headers_text ys) ∙ ap (λ (l : List ℕ). old ++ l) (sym (headers_append xs ys))

pub headers_three : (old a b new : List ℕ) (x y z : HeaderText) → a ≡ old ++ header_text x → b ≡ a ++ header_text y → new ≡ b ++ header_text z → new ≡ old ++ headers_text (x ∷ y ∷ z ∷ [])
headers_three old a b new x y z p q r = headers_two old b new (x ∷ y ∷ []) (z ∷ []) (headers_two old a b (x ∷ []) (y ∷ []) (headers_one old a x p) (headers_one a b y q)) (headers_one b new z r)

-- the first line is the one that is written
status_is : (status : Status) → status_line status ≡ start_line_text (starts.Status Rtsp2 (code status) (reason status))
unfolding status_line
status_is statuses.Success = refl
status_is statuses.BadRequest = refl
status_is statuses.NotFound = refl
status_is statuses.ParameterNotUnderstood = refl
status_is statuses.NotEnoughBandwidth = refl
status_is statuses.SessionNotFound = refl
status_is statuses.MethodNotValid = refl
status_is statuses.HeaderNotValid = refl
status_is statuses.InvalidRange = refl
status_is statuses.AggregateNotAllowed = refl
status_is statuses.OnlyAggregateAllowed = refl
status_is statuses.UnsupportedTransport = refl
status_is statuses.DestinationProhibited = refl
status_is statuses.ServerError = refl
status_is statuses.NotImplemented = refl
status_is statuses.Unavailable = refl
status_is statuses.VersionNotSupported = refl
status_is statuses.OptionNotSupported = refl

-- a response: its first line, its headers, an empty line and its body
pub message : (status : Status) (hs : List HeaderText) (body old a b c new : List ℕ) → a ≡ old ++ status_line status → b ≡ a ++ headers_text hs → c ≡ b ++ 13 ∷ 10 ∷ [] → new ≡ c ++ body → new ≡ old ++ response_text (response status hs body)
message status hs body old a b c new p q r s =
    let end : List ℕ = 13 ∷ 10 ∷ [] in
    let first : List ℕ = start_line_text (starts.Status Rtsp2 (code status) (reason status)) in
    let whole : new ≡ a ++ (headers_text hs ++ (end ++ body)) = s ∙ ap (λ (l : List ℕ). l ++ body) r ∙ append_assoc b end body ∙ ap (λ (l : List ℕ). l ++ (end ++ body)) q ∙ append_assoc a (headers_text hs) (end ++ body) in
    whole ∙ ap (λ (l : List ℕ). l ++ (headers_text hs ++ (end ++ body))) (p ∙ ap (λ (l : List ℕ). old ++ l) (status_is status)) ∙ append_assoc old first (headers_text hs ++ (end ++ body))

-- without a body
pub message_one : (status : Status) (hs : List HeaderText) (old a b new : List ℕ) → a ≡ old ++ status_line status → b ≡ a ++ headers_text hs → new ≡ b ++ 13 ∷ 10 ∷ [] → new ≡ old ++ response_text (response status hs [])
message_one status hs old a b new p q r = message status hs [] old a b new new p q r (sym (append-nil new))

-- with two lots of headers and no body
pub message_two : (status : Status) (xs ys : List HeaderText) (old a b c new : List ℕ) → a ≡ old ++ status_line status → b ≡ a ++ headers_text xs → c ≡ b ++ headers_text ys → new ≡ c ++ 13 ∷ 10 ∷ [] → new ≡ old ++ response_text (response status (xs ++ ys) [])
message_two status xs ys old a b c new p q r s = message_one status (xs ++ ys) old a c new p (headers_two a b c xs ys q r) s

-- a text in two parts, after another
pub in_two : (old first rest new : List ℕ) → new ≡ old ++ (first ++ rest) → new ≡ (old ++ first) ++ rest
in_two old first rest new e = e ∙ sym (append_assoc old first rest)

-- the first line with the line of the number begun, and the lines after it
pub done_start : (line : List ℕ) (field : Field) (value old a b c new : List ℕ) (xs : List HeaderText) → a ≡ old ++ (line ++ header_name field) → b ≡ a ++ value → c ≡ b ++ 13 ∷ 10 ∷ [] → new ≡ c ++ headers_text xs
    → new ≡ old ++ (line ++ headers_text (record { name = name_of_field field; value = value } ∷ xs))
done_start line field value old a b c new xs p q r s =
    let first : HeaderText = record { name = name_of_field field; value = value } in
    headers_first (old ++ line) c new first xs (line_of field value (old ++ line) a b c (in_two old line (header_name field) a p) q r) s ∙ append_assoc old line (headers_text (first ∷ xs))
