-- What is read of header lines is what the third rule says.
use Rattle.std.proofs.Common.{◌≡◌, List, ℕ, [], ◌∷◌, ◌++◌, drop, refl, sym, ap, ◌∙◌, append_assoc, inl, inr, Bool, true, false, cond, Option, Some, None, Result, Ok, Err}
use Rattle.std.specs.Prelude.{◌&&◌}
use Rattle.std.specs.List.{list_all}
use Rattle.std.proofs.lemmas.Bool.{and_parts}
use Rattle.std.proofs.lemmas.List.{take-append-drop}
use Rattle.rtsp_text.specs.Bytes.{is_blank, is_other, is_token, is_token_byte}
use Rattle.rtsp_text.specs.Results.{◌>>=◌}
use Rattle.rtsp_text.specs.SplitOnce.{split_once, IsSplitAt}
use Rattle.rtsp_text.specs.Trim.{trim_end, trimmed}
use Rattle.rtsp_text.proofs.ByteLemmas.{all_joined, all_other, some_parts}
use Rattle.rtsp_text.proofs.PaddingLemmas.{back_blank, kept, padded_only, trim_end_pad, trimmed_padded}
use Rattle.rtsp_text.proofs.SplitLemmas.{split_found, split_is}
use Rattle.rtsp_grammar.specs.Bytes.{is_value_byte}
use Rattle.rtsp_grammar.specs.Header.{HeaderText}
use Rattle.rtsp_grammar.specs.HeaderLine.{SpellsHeader, AreHeaders, HasNoHeader, HeadersRule}
use Rattle.rtsp_grammar.specs.Reading.{header_of_halves, header_of, headers_of}
use Rattle.rtsp_grammar.specs.declared.fault.MessageFault.{MessageFault}
use Rattle.rtsp_grammar.specs.declared.fault.MessageFault.TheVariants.{BadHeader}
use Rattle.rtsp_grammar.proofs.ClassLemmas.{token_end}

regroup : (name pad before value behind : List ℕ) → name ++ pad ++ 58 ∷ before ++ value ++ behind ≡ (name ++ pad) ++ 58 ∷ (before ++ (value ++ behind))
regroup name pad before value behind = simp append_assoc

-- ---- one line

header_only : (line : List ℕ) (h : HeaderText) → SpellsHeader line h → header_of line ≡ Ok h
unfolding header_of
header_only line h s =
    let m = some_parts is_token_byte h.name s.fits.name in
    let back : List ℕ = s.before ++ (h.value ++ s.behind) in
    let a : split_once 58 line ≡ Some (h.name ++ s.pad, back) = ap (split_once 58) (s.parts ∙ regroup h.name s.pad s.before h.value s.behind) ∙ split_found 58 (h.name ++ s.pad) back (all_joined (is_other 58) h.name s.pad (all_other is_token_byte 58 h.name refl m.1) (all_other is_blank 58 s.pad refl s.pad_blank)) in
    let n : trim_end (h.name ++ s.pad) ≡ h.name = trim_end_pad h.name s.pad s.pad_blank (token_end h.name m.1) in
    let v : trimmed back ≡ h.value = padded_only back h.value (record { before = s.before; behind = s.behind; parts = refl; before_blank = s.before_blank; behind_blank = s.behind_blank; ends = s.fits.ends }) in
    let name = s.fits.name in
    let value = s.fits.value in
    rw (a, n, v, name, value) refl

header_spelled : (line name value : List ℕ) → line ≡ name ++ 58 ∷ value → (is_token (trim_end name) && list_all is_value_byte (trimmed value)) ≡ true → SpellsHeader line (record { name = trim_end name; value = trimmed value })
header_spelled line name value parts e =
    let tests = and_parts (is_token (trim_end name)) (list_all is_value_byte (trimmed value)) e in
    let core = trimmed_padded value in
    let front : name ≡ trim_end name ++ drop (kept name) name = sym (take-append-drop (kept name) name) in
    record {
      pad = drop (kept name) name;
      before = core.before;
      behind = core.behind;
      parts = parts ∙ ap (λ (x : List ℕ). x ++ 58 ∷ value) front ∙ ap (λ (x : List ℕ). (trim_end name ++ drop (kept name) name) ++ 58 ∷ x) core.parts ∙ sym (regroup (trim_end name) (drop (kept name) name) core.before (trimmed value) core.behind);
      fits = record { name = tests.0; value = tests.1; ends = core.ends };
      pad_blank = back_blank name;
      before_blank = core.before_blank;
      behind_blank = core.behind_blank;
    }

-- a line that is read is a header
abbrev pub Found : List ℕ → Result HeaderText MessageFault → Type 0
Found line (Ok h) = SpellsHeader line h
Found line (Err fault) = fault ≡ BadHeader

pub header_found : (line : List ℕ) → Found line (header_of line)
unfolding header_of
header_found line = first (split_once 58 line) (split_is 58 line) where
  second : (name value : List ℕ) → line ≡ name ++ 58 ∷ value → (t : Bool) → (is_token (trim_end name) && list_all is_value_byte (trimmed value)) ≡ t → Found line (cond t (Ok (record { name = trim_end name; value = trimmed value })) (Err BadHeader))
  second name value parts true e = header_spelled line name value parts e
  second name value parts false e = refl

  first : (halves : Option (List ℕ × List ℕ)) → IsSplitAt 58 line halves → Found line (header_of_halves halves)
  first None s = refl
  first (Some (name, value)) s = second name value s.0 (is_token (trim_end name) && list_all is_value_byte (trimmed value)) refl

abbrev Read : List ℕ → Result HeaderText MessageFault → Type 0
Read line (Ok h) = SpellsHeader line h
Read line (Err fault) = (fault ≡ BadHeader) × ((h : HeaderText) → ¬ SpellsHeader line h)

header_reads : (line : List ℕ) → Read line (header_of line)
header_reads line = go (header_of line) refl (header_found line) where
  go : (r : Result HeaderText MessageFault) → header_of line ≡ r → Found line r → Read line r
  go (Ok h) e s = s
  go (Err fault) e s = (s, λ h k. let other : Ok h ≡ Err fault = sym (header_only line h k) ∙ e in absurd cc)

-- ---- all lines

pub headers_reads : (lines : List (List ℕ)) → HeadersRule lines (headers_of lines)
unfolding headers_of
headers_reads [] = tt
headers_reads (line ∷ lines) = first (header_of line) (headers_of lines) (header_reads line) (headers_reads lines) where
  second : (h : HeaderText) (r : Result (List HeaderText) MessageFault) → SpellsHeader line h → HeadersRule lines r → HeadersRule (line ∷ lines) (r >>= λ hs. Ok (h ∷ hs))
  second h (Ok hs) s k = (s, k)
  second h (Err fault) s k = (k.0, inr k.1)

  first : (x : Result HeaderText MessageFault) (r : Result (List HeaderText) MessageFault) → Read line x → HeadersRule lines r → HeadersRule (line ∷ lines) (x >>= λ h. r >>= λ hs. Ok (h ∷ hs))
  first (Ok h) r s k = second h r s k
  first (Err fault) r s k = (s.0, inl s.1)

all_headers : (lines : List (List ℕ)) (hs : List HeaderText) → AreHeaders lines hs → headers_of lines ≡ Ok hs
unfolding headers_of
all_headers [] [] h = refl
all_headers [] (x ∷ hs) h = absurd h
all_headers (line ∷ lines) [] h = absurd h
all_headers (line ∷ lines) (x ∷ hs) h =
    let a = header_only line x h.0 in
    let b = all_headers lines hs h.1 in
    rw (a, b) refl

no_header : (lines : List (List ℕ)) (hs : List HeaderText) → HasNoHeader lines → AreHeaders lines hs → ⊥
no_header [] hs n a = n
no_header (line ∷ lines) [] n a = a
no_header (line ∷ lines) (h ∷ hs) (inl n) a = n h a.0
no_header (line ∷ lines) (h ∷ hs) (inr n) a = no_header lines hs n a.1

pub headers_only : (lines : List (List ℕ)) (r : Result (List HeaderText) MessageFault) → HeadersRule lines r → headers_of lines ≡ r
headers_only lines (Ok hs) h = all_headers lines hs h
headers_only lines (Err fault) h = go (headers_of lines) (headers_reads lines) where
  go : (r : Result (List HeaderText) MessageFault) → HeadersRule lines r → r ≡ Err fault
  go (Ok hs) a = absurd (no_header lines hs h.1 a)
  go (Err other) a = ap Err (a.0 ∙ sym h.0)
