-- What is read of a first line is what the first rule says.
use Rattle.std.proofs.Common.{◌≡◌, ℕ, ◌+◌, ◌-◌, ◌*◌, ◌/◌, ◌%◌, ◌<◌, ◌≤◌, ◌⊎◌, List, [], ◌∷◌, ◌++◌, length, drop, refl, sym, ap, ◌∙◌, arith, inl, inr, Bool, true, false, cond, eqb, Option, Some, None, Result, Ok, Err, nat_lt}
use Rattle.std.specs.Prelude.{◌&&◌, codes, nat_eq, not}
use Rattle.std.specs.List.{starts_with, list_all}
use Rattle.std.specs.Char.{is_ascii_digit}
use Rattle.std.proofs.lemmas.Bool.{eqb-true, ltb-false, ltb-true, le-ltb, lt-ltb, le-leb, leb-true, and_parts, and_from, both_ways}
use Rattle.rtsp_text.specs.Bytes.{is_token_byte}
use Rattle.rtsp_text.specs.Decimal.{three_digits}
use Rattle.rtsp_text.proofs.ByteLemmas.{some_other, some_parts}
use Rattle.rtsp_grammar.specs.Bytes.{is_uri_byte}
use Rattle.rtsp_text.specs.SplitOnce.{split_once, IsSplitAt}
use Rattle.rtsp_text.proofs.SplitLemmas.{split_found, split_is}
use Rattle.rtsp_grammar.specs.Method.{method_name, method_of}
use Rattle.rtsp_grammar.specs.Reading.{is_version, version_of, request_of, request_of_halves, request_line_of, status_of, status_of_halves, status_line_of, start_of}
use Rattle.rtsp_grammar.specs.Splitting.{where_all}
use Rattle.rtsp_grammar.specs.StartLine.{request_line, SpellsRequestLine, SpellsStatusLine, SpellsStart, HasLongUri, uri_len, StartRule}
use Rattle.rtsp_grammar.specs.Version.{IsVersion}
use Rattle.rtsp_grammar.specs.Words.{is_method, is_uri}
use Rattle.rtsp_grammar.specs.declared.method.Method.{Method}
use Rattle.rtsp_grammar.specs.declared.version.Version.{Version}
use Rattle.rtsp_grammar.specs.declared.start_line.StartLine.{StartLine}
use Rattle.rtsp_grammar.specs.declared.start_line.StartLine.TheVariants.{Request, Status}
use Rattle.rtsp_grammar.specs.declared.fault.MessageFault.{MessageFault}
use Rattle.rtsp_grammar.specs.declared.fault.MessageFault.TheVariants.{BadLine, UriTooLong}
use Rattle.rtsp_grammar.proofs.ClassLemmas.{method_token}
use Rattle.rtsp_grammar.proofs.MethodLemmas.{name_of_method, method_canonical, method_again, name_is_token}
use Rattle.rtsp_grammar.proofs.SpanLemmas.{where_none}
use Rattle.rtsp_grammar.proofs.VersionLemmas.{prefix_parts, version_tested, version_no_space, version_spelled, version_again, spelling_is_version}

-- what is read of a first line with these parts
abbrev pub limited : StartLine → Result StartLine MessageFault
limited start = cond (nat_lt 1024 (uri_len start)) (Err UriTooLong) (Ok start)

-- ---- a line with known parts

-- what is before the byte that a text is split at
abbrev front_of : Option (List ℕ × List ℕ) → List ℕ
front_of None = []
front_of (Some halves) = halves.0

split_prefix : (method rest after : List ℕ) → split_once 32 (codes "RTSP/" ++ after) ≡ Some (method, rest) → is_method method ≡ true → ⊥
split_prefix method rest after e is = go (split_once 32 after) refl where
  go : (halves : Option (List ℕ × List ℕ)) → split_once 32 after ≡ halves → ⊥
  go None s = let none : split_once 32 (codes "RTSP/" ++ after) ≡ None = rw s refl in absurd cc
  go (Some halves) s =
      let some : split_once 32 (codes "RTSP/" ++ after) ≡ Some (codes "RTSP/" ++ halves.0, halves.1) = rw s refl in
      let begins : method ≡ codes "RTSP/" ++ halves.0 = ap front_of (sym e ∙ some) in
      both_ways (list_all is_token_byte method) (ap (list_all is_token_byte) begins) (some_parts is_token_byte method (method_token method is)).1

-- a method doesn't begin with the protocol's name and a slash
no_prefix : (method rest : List ℕ) → is_method method ≡ true → starts_with nat_eq (method ++ 32 ∷ rest) (codes "RTSP/") ≡ false
no_prefix method rest e = go (starts_with nat_eq (method ++ 32 ∷ rest) (codes "RTSP/")) refl where
  go : (b : Bool) → starts_with nat_eq (method ++ 32 ∷ rest) (codes "RTSP/") ≡ b → b ≡ false
  go false h = refl
  go true h =
      let line : List ℕ = method ++ 32 ∷ rest in
      let at : split_once 32 line ≡ Some (method, rest) = split_found 32 method rest (some_other is_token_byte 32 method refl (method_token method e)) in
      absurd (split_prefix method rest (drop 5 line) (sym (ap (split_once 32) (prefix_parts line h)) ∙ at) e)

request_read : (line : List ℕ) (method : Method) (uri : List ℕ) (version : Version) → SpellsRequestLine line method uri version → start_of line ≡ limited (Request method uri version)
unfolding start_of request_line_of
request_read line m u v s =
    let name : List ℕ = method_name m in
    let m_is : is_method name ≡ true = name_is_token m s.method_is in
    let u_is = s.uri_is in
    let v_is = version_tested s.spelling (spelling_is_version s.spelling v s.version_is) in
    let m_again : method_of name ≡ m = method_again m s.method_is in
    let v_again = version_again s.spelling v s.version_is in
    let p : starts_with nat_eq line (codes "RTSP/") ≡ false = ap (λ (l : List ℕ). starts_with nat_eq l (codes "RTSP/")) s.parts ∙ no_prefix name (u ++ 32 ∷ s.spelling) m_is in
    let a : split_once 32 line ≡ Some (name, u ++ 32 ∷ s.spelling) = ap (split_once 32) s.parts ∙ split_found 32 name (u ++ 32 ∷ s.spelling) (some_other is_token_byte 32 name refl (method_token name m_is)) in
    let b : split_once 32 (u ++ 32 ∷ s.spelling) ≡ Some (u, s.spelling) = split_found 32 u s.spelling (some_other is_uri_byte 32 u refl u_is) in
    rw (p, a, b, m_is, u_is, v_is) (ap (λ (x : Method). cond (nat_lt 1024 (length u)) (Err UriTooLong) (Ok (Request x u (version_of s.spelling)))) m_again ∙ ap (λ (x : Version). cond (nat_lt 1024 (length u)) (Err UriTooLong) (Ok (Request m u x))) v_again)

digit_is : (d : ℕ) → d < 10 → is_ascii_digit (48 + d) ≡ true
digit_is d lt = and_from _ _ (le-leb 48 (48 + d) (omega arith)) (le-leb (48 + d) 57 (omega arith))

status_again : (s : ℕ) → s < 1000 → 100 * (48 + s / 100 % 10 - 48) + 10 * (48 + s / 10 % 10 - 48) + (48 + s % 10 - 48) ≡ s
status_again s lt = omega arith

abbrev made_status : Version → List ℕ → ℕ → Result StartLine MessageFault
made_status version reason status = Ok (Status version status reason)

status_read : (version : List ℕ) (reason : List ℕ) (status : ℕ) → status < 1000 → status_of version (three_digits status ++ 32 ∷ reason) ≡ Ok (Status (version_of version) status reason)
status_read v r s lt =
    let a = digit_is (s / 100 % 10) (omega arith) in
    let b = digit_is (s / 10 % 10) (omega arith) in
    let c = digit_is (s % 10) (omega arith) in
    rw (a, b, c) (ap (made_status (version_of v) r) (status_again s lt))

status_line_read : (line : List ℕ) (version : Version) (status : ℕ) (reason : List ℕ) → SpellsStatusLine line version status reason → start_of line ≡ limited (Status version status reason)
unfolding start_of status_line_of
status_line_read line v n r s =
    let text : List ℕ = s.spelling in
    let is : IsVersion text = spelling_is_version text v s.version_is in
    let v_is = version_tested text is in
    let p : starts_with nat_eq line (codes "RTSP/") ≡ true = ap (λ (l : List ℕ). starts_with nat_eq l (codes "RTSP/")) (s.parts ∙ ap (λ (l : List ℕ). l ++ 32 ∷ (three_digits n ++ 32 ∷ r)) is.parts) in
    let a : split_once 32 line ≡ Some (text, three_digits n ++ 32 ∷ r) = ap (split_once 32) s.parts ∙ split_found 32 text (three_digits n ++ 32 ∷ r) (version_no_space text is) in
    let again = status_read text r n s.three ∙ ap (λ (x : Version). made_status x r n) (version_again text v s.version_is) in
    rw (p, a, v_is) again

start_read : (line : List ℕ) (start : StartLine) → SpellsStart line start → start_of line ≡ limited start
start_read line (Request m u v) s = request_read line m u v s
start_read line (Status v n r) s = status_line_read line v n r s

-- ---- a line that was read

-- the line spells what was read of it, and a URI that is too long is one
abbrev Read : List ℕ → Result StartLine MessageFault → Type 0
Read line (Ok start) = SpellsStart line start × (uri_len start ≤ 1024)
Read line (Err fault) = ((fault ≡ UriTooLong) × HasLongUri line) ⊎ (fault ≡ BadLine)

request_spelled : (line name uri spelling : List ℕ) → line ≡ request_line name uri spelling → (is_method name && is_uri uri && is_version spelling) ≡ true → SpellsRequestLine line (method_of name) uri (version_of spelling)
request_spelled line name uri spelling parts e =
    let outer = and_parts (is_method name && is_uri uri) (is_version spelling) e in
    let inner = and_parts (is_method name) (is_uri uri) outer.0 in
    record {
      spelling = spelling;
      parts = parts ∙ ap (λ (m : List ℕ). request_line m uri spelling) (sym (name_of_method name));
      method_is = method_canonical name inner.0;
      uri_is = inner.1;
      version_is = version_spelled spelling outer.1;
    }

request_tested : (line name uri spelling : List ℕ) → line ≡ request_line name uri spelling → Read line (request_of name (Some (uri, spelling)))
request_tested line name uri spelling parts = go (is_method name && is_uri uri && is_version spelling) (nat_lt 1024 (length uri)) refl refl where
  go : (x y : Bool) → (is_method name && is_uri uri && is_version spelling) ≡ x → nat_lt 1024 (length uri) ≡ y → Read line (cond x (cond y (Err UriTooLong) (Ok (Request (method_of name) uri (version_of spelling)))) (Err BadLine))
  go true true e l = inl (
    refl,
    record {
      start = Request (method_of name) uri (version_of spelling);
      spelled = request_spelled line name uri spelling parts e;
      long = ltb-true _ _ l;
    },
  )
  go true false e l = (request_spelled line name uri spelling parts e, ltb-false _ _ l)
  go false y e l = inr refl

request_reads : (line : List ℕ) → Read line (request_line_of line)
unfolding request_line_of
request_reads line = first (split_once 32 line) (split_is 32 line) where
  second : (name rest : List ℕ) → line ≡ name ++ 32 ∷ rest → (halves : Option (List ℕ × List ℕ)) → IsSplitAt 32 rest halves → Read line (request_of name halves)
  second name rest e None s = inr refl
  second name rest e (Some (uri, spelling)) s = request_tested line name uri spelling (e ∙ ap (λ (t : List ℕ). name ++ 32 ∷ t) s.0)

  first : (halves : Option (List ℕ × List ℕ)) → IsSplitAt 32 line halves → Read line (request_of_halves halves)
  first None s = inr refl
  first (Some (name, rest)) s = second name rest s.0 (split_once 32 rest) (split_is 32 rest)

digit_from : (a : ℕ) → is_ascii_digit a ≡ true → (48 ≤ a) × (a ≤ 57)
digit_from a e = let s = and_parts _ _ e in (leb-true 48 a s.0, leb-true a 57 s.1)

digits_again : (a b c : ℕ) → 48 ≤ a → a ≤ 57 → 48 ≤ b → b ≤ 57 → 48 ≤ c → c ≤ 57 → a ∷ b ∷ c ∷ [] ≡ three_digits (100 * (a - 48) + 10 * (b - 48) + (c - 48))
digits_again a b c p q r s t u =
    let n : ℕ = 100 * (a - 48) + 10 * (b - 48) + (c - 48) in
    let x : 48 + n / 100 % 10 ≡ a = omega arith in
    let y : 48 + n / 10 % 10 ≡ b = omega arith in
    let z : 48 + n % 10 ≡ c = omega arith in
    sym (ap (λ (k : ℕ). k ∷ (48 + n / 10 % 10) ∷ (48 + n % 10) ∷ []) x ∙ ap (λ (k : ℕ). a ∷ k ∷ (48 + n % 10) ∷ []) y ∙ ap (λ (k : ℕ). a ∷ b ∷ k ∷ []) z)

status_reads : (line version rest : List ℕ) → line ≡ version ++ 32 ∷ rest → is_version version ≡ true → Read line (status_of version rest)
status_reads line v [] parts is = inr refl
status_reads line v (a ∷ []) parts is = inr refl
status_reads line v (a ∷ b ∷ []) parts is = inr refl
status_reads line v (a ∷ b ∷ c ∷ []) parts is = inr refl
status_reads line v (a ∷ b ∷ c ∷ d ∷ reason) parts is = go (is_ascii_digit a && is_ascii_digit b && is_ascii_digit c && eqb d 32) refl where
  n : ℕ
  n = 100 * (a - 48) + 10 * (b - 48) + (c - 48)

  spelled : (is_ascii_digit a && is_ascii_digit b && is_ascii_digit c && eqb d 32) ≡ true → SpellsStart line (Status (version_of v) (100 * (a - 48) + 10 * (b - 48) + (c - 48)) reason)
  spelled e =
      let e1 = and_parts (is_ascii_digit a && is_ascii_digit b && is_ascii_digit c) (eqb d 32) e in
      let e2 = and_parts (is_ascii_digit a && is_ascii_digit b) (is_ascii_digit c) e1.0 in
      let e3 = and_parts (is_ascii_digit a) (is_ascii_digit b) e2.0 in
      let x = digit_from a e3.0 in let y = digit_from b e3.1 in let z = digit_from c e2.1 in
      let digits = digits_again a b c x.0 x.1 y.0 y.1 z.0 z.1 in
      let space : d ≡ 32 = eqb-true d 32 e1.1 in
      record {
        spelling = v;
        parts = parts ∙ ap (λ (k : ℕ). v ++ 32 ∷ (a ∷ b ∷ c ∷ k ∷ reason)) space ∙ ap (λ (ds : List ℕ). v ++ 32 ∷ (ds ++ 32 ∷ reason)) digits;
        version_is = version_spelled v is;
        three = omega arith;
      }

  go : (t : Bool) → (is_ascii_digit a && is_ascii_digit b && is_ascii_digit c && eqb d 32) ≡ t → Read line (cond t (Ok (Status (version_of v) (100 * (a - 48) + 10 * (b - 48) + (c - 48)) reason)) (Err BadLine))
  go true e = (spelled e, omega arith)
  go false e = inr refl

status_line_reads : (line : List ℕ) → Read line (status_line_of line)
unfolding status_line_of
status_line_reads line = first (split_once 32 line) (split_is 32 line) where
  second : (version rest : List ℕ) → line ≡ version ++ 32 ∷ rest → (t : Bool) → is_version version ≡ t → Read line (cond t (status_of version rest) (Err BadLine))
  second version rest parts true e = status_reads line version rest parts e
  second version rest parts false e = inr refl

  first : (halves : Option (List ℕ × List ℕ)) → IsSplitAt 32 line halves → Read line (status_of_halves halves)
  first None s = inr refl
  first (Some (version, rest)) s = second version rest s.0 (is_version version) refl

start_is_read : (line : List ℕ) → Read line (start_of line)
unfolding start_of
start_is_read line = go (starts_with nat_eq line (codes "RTSP/")) where
  go : (t : Bool) → Read line (cond t (status_line_of line) (request_line_of line))
  go true = status_line_reads line
  go false = request_reads line

-- ---- the rule

no_start : (start : StartLine) → limited start ≡ Err BadLine → ⊥
no_start start e = go (nat_lt 1024 (uri_len start)) e where
  go : (t : Bool) → ◌≡◌ {A = Result StartLine MessageFault} (cond t (Err UriTooLong) (Ok start)) (Err BadLine) → ⊥
  go true h = absurd cc
  go false h = absurd cc

pub start_reads : (line : List ℕ) → StartRule line (start_of line)
start_reads line = go (start_of line) refl (start_is_read line) where
  go : (r : Result StartLine MessageFault) → start_of line ≡ r → Read line r → StartRule line r
  go (Ok start) e h = h
  go (Err fault) e (inl h) = inl h
  go (Err fault) e (inr h) = inr (h, λ start s. no_start start (sym (start_read line start s) ∙ e ∙ ap Err h))

pub start_only : (line : List ℕ) (r : Result StartLine MessageFault) → StartRule line r → start_of line ≡ r
start_only line (Ok start) h = let short : nat_lt 1024 (uri_len start) ≡ false = le-ltb 1024 (uri_len start) h.1 in start_read line start h.0 ∙ rw short refl
start_only line (Err fault) (inl h) =
    let start = h.1.start in
    let long : nat_lt 1024 (uri_len start) ≡ true = lt-ltb 1024 (uri_len start) h.1.long in
    start_read line start h.1.spelled ∙ rw long (ap Err (sym h.0))
start_only line (Err fault) (inr h) = go (start_of line) refl (start_is_read line) where
  go : (r : Result StartLine MessageFault) → start_of line ≡ r → Read line r → r ≡ Err fault
  go (Ok start) e s = absurd (h.1 start s.0)
  go (Err other) e (inl s) = absurd (h.1 s.1.start s.1.spelled)
  go (Err other) e (inr s) = ap Err (s ∙ sym h.0)

-- ---- a request line whose second part isn't followed by a space, or has other bytes than those of a URI

pub no_uri : (line method rest : List ℕ) → split_once 32 line ≡ Some (method, rest) → None ≡ where_all is_uri_byte (split_once 32 rest) → request_line_of line ≡ Err BadLine
unfolding request_line_of
no_uri line method rest e none = rw e (go (split_once 32 rest) none) where
  bad : (x y z : Bool) (start : Result StartLine MessageFault) → cond ((x && (y && false)) && z) start (Err BadLine) ≡ Err BadLine
  bad true true z start = refl
  bad true false z start = refl
  bad false y z start = refl

  go : (halves : Option (List ℕ × List ℕ)) → None ≡ where_all is_uri_byte halves → request_of method halves ≡ Err BadLine
  go None n = refl
  go (Some (uri, version)) n =
      let fails = where_none is_uri_byte (uri, version) n in
      rw fails (bad (is_method method) (not (eqb (length uri) 0)) (is_version version) (cond (nat_lt 1024 (length uri)) (Err UriTooLong) (Ok (Request (method_of method) uri (version_of version)))))
