-- What is read of a head's lines is what the rules say, in their order.
use Rattle.std.proofs.Common.{◌≡◌, ◌≢◌, ℕ, List, [], ◌∷◌, refl, sym, ap, inl, inr, Bool, true, false, cond, nat_lt, Result, Ok, Err}
use Rattle.std.specs.Prelude.{codes}
use Rattle.std.proofs.lemmas.Bool.{ltb-false, ltb-true, le-ltb, lt-ltb}
use Rattle.rtsp_text.specs.Results.{◌>>=◌}
use Rattle.rtsp_grammar.specs.Folds.{FoldRule}
use Rattle.rtsp_grammar.specs.Head.{HeadRule}
use Rattle.rtsp_grammar.specs.Header.{HeaderText, values_of}
use Rattle.rtsp_grammar.specs.HeaderLine.{HeadersRule}
use Rattle.rtsp_grammar.specs.Length.{is_length, ValueRule, ValuesRule, LengthRule}
use Rattle.rtsp_grammar.specs.Number.{number_of}
use Rattle.rtsp_grammar.specs.Reading.{start_of, unfold_lines, headers_of, header_lines_of, length_of_value, length_of_values, body_length, head_of}
use Rattle.rtsp_grammar.specs.StartLine.{StartRule}
use Rattle.rtsp_grammar.specs.declared.head.Head.{Head}
use Rattle.rtsp_grammar.specs.declared.start_line.StartLine.{StartLine}
use Rattle.rtsp_grammar.specs.declared.fault.MessageFault.{MessageFault}
use Rattle.rtsp_grammar.specs.declared.fault.MessageFault.TheVariants.{BodyTooLong, BadLength}
use Rattle.rtsp_grammar.proofs.FoldRules.{folds_reads, folds_only}
use Rattle.rtsp_grammar.proofs.HeaderRules.{headers_reads, headers_only}
use Rattle.rtsp_grammar.proofs.StartLemmas.{start_reads, start_only}

-- ---- the fourth rule

value_reads : (value : List ℕ) → ValueRule value (length_of_value value)
value_reads value = go (is_length value) (nat_lt 65536 (number_of value)) refl refl where
  go : (x y : Bool) → is_length value ≡ x → nat_lt 65536 (number_of value) ≡ y → ValueRule value (cond x (cond y (Err BodyTooLong) (Ok (number_of value))) (Err BadLength))
  go true true e l = inl (refl, record { written = e; many = ltb-true _ _ l })
  go true false e l = record { written = e; number = refl; few = ltb-false _ _ l }
  go false y e l = inr (refl, e)

value_only : (value : List ℕ) (r : Result ℕ MessageFault) → ValueRule value r → length_of_value value ≡ r
value_only value (Ok n) h =
    let is = h.written in
    let short : nat_lt 65536 (number_of value) ≡ false = le-ltb 65536 (number_of value) h.few in
    rw (is, short) (ap Ok (sym h.number))
value_only value (Err fault) (inl h) =
    let is = h.1.written in
    let long : nat_lt 65536 (number_of value) ≡ true = lt-ltb 65536 (number_of value) h.1.many in
    rw (is, long) (ap Err (sym h.0))
value_only value (Err fault) (inr h) = let is = h.1 in rw is (ap Err (sym h.0))

values_reads : (values : List (List ℕ)) → ValuesRule values (length_of_values values)
values_reads [] = refl
values_reads (value ∷ []) = value_reads value
values_reads (value ∷ other ∷ values) = refl

values_only : (values : List (List ℕ)) (r : Result ℕ MessageFault) → ValuesRule values r → length_of_values values ≡ r
values_only [] (Ok n) h = ap Ok (sym h)
values_only [] (Err fault) h = absurd h
values_only (value ∷ []) r h = value_only value r h
values_only (value ∷ other ∷ values) (Ok n) h = absurd h
values_only (value ∷ other ∷ values) (Err fault) h = ap Err (sym h)

length_reads : (headers : List HeaderText) → LengthRule headers (body_length headers)
unfolding body_length
length_reads headers = values_reads (values_of (codes "Content-Length") headers)

length_only : (headers : List HeaderText) (r : Result ℕ MessageFault) → LengthRule headers r → body_length headers ≡ r
unfolding body_length
length_only headers r h = values_only (values_of (codes "Content-Length") headers) r h

-- ---- all rules

abbrev made_head : StartLine → List HeaderText → ℕ → Result (Head × ℕ) MessageFault
made_head start headers n = Ok (record { start = start; headers = headers }, n)

pub head_reads : (lines : List (List ℕ)) → lines ≢ [] → HeadRule lines (head_of lines)
unfolding head_of header_lines_of
head_reads [] some = absurd (some refl)
head_reads (first ∷ others) some = go_start (start_of first) (start_reads first) where
  go_length : (start : StartLine) (unfolded_lines : List (List ℕ)) (headers : List HeaderText) (r : Result ℕ MessageFault) → StartRule first (Ok start) → FoldRule others (Ok unfolded_lines) → HeadersRule unfolded_lines (Ok headers) → LengthRule headers r
      → HeadRule (first ∷ others) (r >>= made_head start headers)
  go_length start unfolded_lines headers (Ok n) s f h l = record { unfolded_lines = unfolded_lines; start = s; folds = f; headers = h; length = l }
  go_length start unfolded_lines headers (Err fault) s f h l = inr (inr (record { start_line = start; unfolded_lines = unfolded_lines; values = headers; start = s; folds = f; headers = h; broken = l }))

  go_headers : (start : StartLine) (unfolded_lines : List (List ℕ)) (r : Result (List HeaderText) MessageFault) → StartRule first (Ok start) → FoldRule others (Ok unfolded_lines) → HeadersRule unfolded_lines r
      → HeadRule (first ∷ others) (r >>= λ headers. body_length headers >>= made_head start headers)
  go_headers start unfolded_lines (Ok headers) s f h = go_length start unfolded_lines headers (body_length headers) s f h (length_reads headers)
  go_headers start unfolded_lines (Err fault) s f h = inr (inl (record { start_line = start; unfolded_lines = unfolded_lines; start = s; folds = f; broken = h }))

  go_folds : (start : StartLine) (r : Result (List (List ℕ)) MessageFault) → StartRule first (Ok start) → FoldRule others r
      → HeadRule (first ∷ others) ((r >>= headers_of) >>= λ headers. body_length headers >>= made_head start headers)
  go_folds start (Ok unfolded_lines) s f = go_headers start unfolded_lines (headers_of unfolded_lines) s f (headers_reads unfolded_lines)
  go_folds start (Err fault) s f = inl (inr (record { start_line = start; start = s; broken = f }))

  go_start : (r : Result StartLine MessageFault) → StartRule first r
      → HeadRule (first ∷ others) (r >>= λ start. (unfold_lines others >>= headers_of) >>= λ headers. body_length headers >>= made_head start headers)
  go_start (Ok start) s = go_folds start (unfold_lines others) s (folds_reads others)
  go_start (Err fault) s = inl (inl s)

pub head_only : (lines : List (List ℕ)) (r : Result (Head × ℕ) MessageFault) → HeadRule lines r → head_of lines ≡ r
unfolding head_of header_lines_of
head_only [] r h = absurd h
head_only (first ∷ others) (Ok found) h =
    let a = start_only first (Ok found.0.start) h.start in
    let b = folds_only others (Ok h.unfolded_lines) h.folds in
    let c = headers_only h.unfolded_lines (Ok found.0.headers) h.headers in
    let d = length_only found.0.headers (Ok found.1) h.length in
    rw (a, b, c, d) refl
head_only (first ∷ others) (Err fault) (inl (inl h)) = let a = start_only first (Err fault) h in rw a refl
head_only (first ∷ others) (Err fault) (inl (inr h)) =
    let a = start_only first (Ok h.start_line) h.start in
    let b = folds_only others (Err fault) h.broken in
    rw (a, b) refl
head_only (first ∷ others) (Err fault) (inr (inl h)) =
    let a = start_only first (Ok h.start_line) h.start in
    let b = folds_only others (Ok h.unfolded_lines) h.folds in
    let c = headers_only h.unfolded_lines (Err fault) h.broken in
    rw (a, b, c) refl
head_only (first ∷ others) (Err fault) (inr (inr h)) =
    let a = start_only first (Ok h.start_line) h.start in
    let b = folds_only others (Ok h.unfolded_lines) h.folds in
    let c = headers_only h.unfolded_lines (Ok h.values) h.headers in
    let d = length_only h.values (Err fault) h.broken in
    rw (a, b, c, d) refl
