-- An item that is written is read back.
use Rattle.std.proofs.Common.{◌≡◌, ℕ, ◌+◌, ◌/◌, ◌%◌, ◌<◌, List, [], ◌∷◌, ◌++◌, length, take, map, refl, sym, ap, subst, ◌∙◌, append_assoc, arith, Bool, true, false, Ok, nat_eq, eqb, eq-eqb}
use Rattle.std.specs.Prelude.{not, ◌&&◌, codes}
use Rattle.std.specs.List.{list_all, AllByRecursion, starts_with}
use Rattle.std.proofs.lemmas.List.{take_all, append-nil, length-append, length-map, take-append-le}
use Rattle.std.proofs.lemmas.Bool.{eqb-true, and_parts, not-true}
use Rattle.rtsp_text.specs.Bytes.{is_token_byte, is_token}
use Rattle.rtsp_text.specs.Decimal.{three_digits}
use Rattle.rtsp_text.proofs.ByteLemmas.{some_parts}
use Rattle.rtsp_grammar.specs.Answer.{Decides}
use Rattle.rtsp_grammar.specs.Bytes.{is_uri_byte, is_value_byte}
use Rattle.rtsp_grammar.specs.Folds.{begins_blank, AreJoined}
use Rattle.rtsp_grammar.specs.Frame.{frame_text, IsFrame, BeginsFrame}
use Rattle.rtsp_grammar.specs.Header.{HeaderText}
use Rattle.rtsp_grammar.specs.HeaderLine.{IsHeader, SpellsHeader, AreHeaders}
use Rattle.rtsp_grammar.specs.Item.{SpellsFrame, SpellsMessage, request_head, response_head}
use Rattle.rtsp_grammar.specs.Lines.{IsLine, lines_text}
use Rattle.rtsp_grammar.specs.Method.{method_name}
use Rattle.rtsp_grammar.specs.StartLine.{start_text, IsStart, SpellsStart}
use Rattle.rtsp_grammar.specs.Version.{IsVersion, version_text, IsCanonicalVersion}
use Rattle.rtsp_grammar.specs.declared.version.Version.{Version}
use Rattle.rtsp_grammar.specs.Words.{is_method}
use Rattle.rtsp_grammar.specs.Writing.{header_line, header_text, headers_text, start_line_text, message_text, item_text, HasPlainReason, IsMessage, IsItem}
use Rattle.rtsp_grammar.specs.declared.head.Head.{Head}
use Rattle.rtsp_grammar.specs.declared.message.Item.{Item}
use Rattle.rtsp_grammar.specs.declared.message.Item.TheVariants as items
use Rattle.rtsp_grammar.specs.declared.message.Frame.{Frame}
use Rattle.rtsp_grammar.specs.declared.start_line.StartLine.{StartLine}
use Rattle.rtsp_grammar.specs.declared.start_line.StartLine.TheVariants as starts
use Rattle.rtsp_grammar.proofs.ClassLemmas.{method_token, class_line, joined, AreLineBytes, no_blank}
use Rattle.rtsp_grammar.proofs.MethodLemmas.{name_is_token}
use Rattle.rtsp_grammar.proofs.VersionLemmas.{version_line, version_written, spelling_is_version}

-- ---- the lines that are written are lines

-- a digit is no line end
digit_line : (n : ℕ) → n < 10 → AreLineBytes ((48 + n) ∷ [])
digit_line n lt = go (eqb (48 + n) 13) (eqb (48 + n) 10) refl refl where
  go : (x y : Bool) → eqb (48 + n) 13 ≡ x → eqb (48 + n) 10 ≡ y → AreLineBytes ((48 + n) ∷ [])
  go true y e d = let same : 48 + n ≡ 13 = eqb-true (48 + n) 13 e in absurd (omega arith)
  go false true e d = let same : 48 + n ≡ 10 = eqb-true (48 + n) 10 d in absurd (omega arith)
  go false false e d = rw (e, d) refl

digits_line : (a b c : ℕ) → a < 10 → b < 10 → c < 10 → AreLineBytes ((48 + a) ∷ (48 + b) ∷ (48 + c) ∷ [])
digits_line a b c p q r = joined ((48 + a) ∷ []) ((48 + b) ∷ (48 + c) ∷ []) (digit_line a p) (joined ((48 + b) ∷ []) ((48 + c) ∷ []) (digit_line b q) (digit_line c r))

version_some : (v : List ℕ) → IsVersion v → 0 < length v
version_some v s = omega (arith, ap length s.parts, length-append (codes "RTSP/") (s.major ++ 46 ∷ s.minor))

written_version : (version : Version) → IsCanonicalVersion version → IsVersion (version_text version)
written_version version h = spelling_is_version (version_text version) version (version_written version h)

start_is_line : (start : StartLine) → IsStart start → HasPlainReason start → IsLine (start_text start)
start_is_line (starts.Request method u version) h plain =
    let m : List ℕ = method_name method in
    let v : List ℕ = version_text version in
    let a = some_parts is_token_byte m (method_token m (name_is_token method h.method_is)) in
    let b = some_parts is_uri_byte u h.uri_is in (
      joined m (32 ∷ (u ++ 32 ∷ v)) (class_line is_token_byte m refl refl a.1) (joined u (32 ∷ v) (class_line is_uri_byte u refl refl b.1) (version_line v (written_version version h.version_is))),
      omega (arith, a.0, length-append m (32 ∷ (u ++ 32 ∷ v))),
    )
start_is_line (starts.Status version s r) h plain =
    let v : List ℕ = version_text version in
    let is = written_version version h.version_is in
    let some = version_some v is in (
      joined v (32 ∷ (three_digits s ++ 32 ∷ r)) (version_line v is) (joined (three_digits s) (32 ∷ r) (digits_line (s / 100 % 10) (s / 10 % 10) (s % 10) (omega arith) (omega arith) (omega arith)) plain),
      omega (arith, some, length-append v (32 ∷ (three_digits s ++ 32 ∷ r))),
    )

header_is_line : (x : HeaderText) → IsHeader x → IsLine (header_line x)
header_is_line x h =
    let m = some_parts is_token_byte x.name h.name in
    (joined x.name (58 ∷ 32 ∷ x.value) (class_line is_token_byte x.name refl refl m.1) (class_line is_value_byte x.value refl refl h.value), omega (arith, m.0, length-append x.name (58 ∷ 32 ∷ x.value)))

each_line : (xs : List HeaderText) → AllByRecursion IsHeader xs → AllByRecursion IsLine (map header_line xs)
each_line [] h = tt
each_line (x ∷ xs) h = (header_is_line x h.0, each_line xs h.1)

headers_lines : (xs : List HeaderText) → headers_text xs ≡ lines_text (map header_line xs)
unfolding headers_text
headers_lines [] = refl
headers_lines (x ∷ xs) = ap (λ (t : List ℕ). header_text x ++ t) (headers_lines xs)

-- ---- they keep the rules

-- a header's line continues none
token_first : (name rest : List ℕ) → is_token name ≡ true → begins_blank (name ++ rest) ≡ false
token_first [] rest e = absurd cc
token_first (b ∷ name) rest e = no_blank b (and_parts (is_token_byte b) (list_all is_token_byte name) (some_parts is_token_byte (b ∷ name) e).1).0

none_folded : (xs : List HeaderText) → AllByRecursion IsHeader xs → AreJoined (map header_line xs) (map header_line xs)
none_folded [] h = refl
none_folded (x ∷ xs) h = (
  map header_line xs,
  record { line = header_line x; folds = []; parts = refl; begins = token_first x.name (58 ∷ 32 ∷ x.value) h.0.name; continues = refl; joined = sym (append-nil (header_line x)) },
  none_folded xs h.1,
)

header_parts : (name value : List ℕ) → name ++ 58 ∷ 32 ∷ value ≡ name ++ [] ++ 58 ∷ 32 ∷ [] ++ value ++ []
header_parts name value = simp (append-nil, append_assoc)

spells_header : (x : HeaderText) → IsHeader x → SpellsHeader (header_line x) x
spells_header x h = record { pad = []; before = 32 ∷ []; behind = []; parts = header_parts x.name x.value; fits = h; pad_blank = refl; before_blank = refl; behind_blank = refl }

are_headers : (xs : List HeaderText) → AllByRecursion IsHeader xs → AreHeaders (map header_line xs) xs
are_headers [] h = tt
are_headers (x ∷ xs) h = (spells_header x h.0, are_headers xs h.1)

-- ---- no message begins as a frame

method_no_frame : (m rest : List ℕ) → is_method m ≡ true → ¬ BeginsFrame (m ++ rest)
method_no_frame [] rest e = λ h. absurd cc
method_no_frame (b ∷ m) rest e = λ h. differ (eqb 36 b) (eq-eqb 36 b (sym h)) (not-true (starts_with nat_eq (b ∷ m) (36 ∷ [])) (and_parts (is_token (b ∷ m)) (not (starts_with nat_eq (b ∷ m) (36 ∷ []))) e).1) where
  differ : (x : Bool) → x ≡ true → (x && true) ≡ false → ⊥
  differ true p q = absurd cc
  differ false p q = absurd cc

start_no_frame : (start : StartLine) (rest : List ℕ) → IsStart start → ¬ BeginsFrame (start_line_text start ++ rest)
start_no_frame (starts.Request method u version) rest h = λ b.
    let m : List ℕ = method_name method in
    method_no_frame m (32 ∷ (u ++ 32 ∷ version_text version ++ (13 ∷ 10 ∷ rest))) (name_is_token method h.method_is) (subst BeginsFrame (simp append_assoc) b)
start_no_frame (starts.Status version s r) rest h = λ b.
    let is = written_version version h.version_is in
    let at : BeginsFrame (((codes "RTSP/" ++ (is.major ++ 46 ∷ is.minor)) ++ 32 ∷ (three_digits s ++ 32 ∷ r)) ++ 13 ∷ 10 ∷ [] ++ rest) = subst (λ (t : List ℕ). BeginsFrame ((t ++ 32 ∷ (three_digits s ++ 32 ∷ r)) ++ 13 ∷ 10 ∷ [] ++ rest)) is.parts b in
    absurd (omega (arith, at))

-- a first line that is written is spelled
start_spelled : (start : StartLine) → IsStart start → SpellsStart (start_text start) start
start_spelled (starts.Request method u version) h = record { spelling = version_text version; parts = refl; method_is = h.method_is; uri_is = h.uri_is; version_is = version_written version h.version_is }
start_spelled (starts.Status version s r) h = record { spelling = version_text version; parts = refl; version_is = version_written version h.version_is; three = h.three }

-- ---- the text

split : (first headers body : List ℕ) → first ++ (headers ++ 13 ∷ 10 ∷ body) ≡ (first ++ (headers ++ 13 ∷ 10 ∷ [])) ++ body
split first headers body = simp append_assoc

gathered : (first headers : List ℕ) → first ++ (headers ++ 13 ∷ 10 ∷ []) ≡ (first ++ headers) ++ 13 ∷ 10 ∷ []
gathered first headers = sym (append_assoc first headers (13 ∷ 10 ∷ []))

front_of : (text more : List ℕ) → take (length text) (text ++ more) ≡ text
front_of text more = take-append-le (length text) text more (omega arith) ∙ take_all (length text) text (omega arith)

message_back : (head : Head) (body more : List ℕ) → IsMessage head body → SpellsMessage (take (length (message_text head body)) (message_text head body ++ more)) head body
message_back head body more h = record {
  front = message_text head [];
  parts = front_of (message_text head body) more ∙ split (start_line_text head.start) (headers_text head.headers) body;
  lines = start_text head.start ∷ map header_line head.headers;
  head_text = record {
    blank = 0;
    parts = ap (λ (t : List ℕ). start_line_text head.start ++ (t ++ 13 ∷ 10 ∷ [])) (headers_lines head.headers) ∙ gathered (start_line_text head.start) (lines_text (map header_line head.headers));
    each = (start_is_line head.start h.start h.reason, each_line head.headers h.headers);
    some = λ e. absurd cc;
    no_frame = start_no_frame head.start (lines_text (map header_line head.headers)) h.start;
    short = h.short;
  };
  rules = record {
    unfolded_lines = map header_line head.headers;
    start = (start_spelled head.start h.start, h.uri);
    folds = (none_folded head.headers h.headers, omega (arith, length-map head.headers header_line, h.count));
    headers = are_headers head.headers h.headers;
    length = h.announces;
  };
}

frame_back : (frame : Frame) (more : List ℕ) → IsFrame frame → SpellsFrame (take (length (frame_text frame)) (frame_text frame ++ more)) frame
frame_back frame more h = record { blank = 0; few = omega arith; parts = front_of (frame_text frame) more; fits = h }

pub reads_back : (item : Item) (more : List ℕ) → IsItem item → Decides (item_text item ++ more) (Ok (item, length (item_text item)))
reads_back (items.Frame frame) more h = (omega (arith, length-append (frame_text frame) more), frame_back frame more h)
reads_back (items.Request r) more h = (omega (arith, length-append (item_text (items.Request r)) more), message_back (request_head r) r.body more h)
reads_back (items.Response r) more h = (omega (arith, length-append (item_text (items.Response r)) more), message_back (response_head r) r.body more h)
