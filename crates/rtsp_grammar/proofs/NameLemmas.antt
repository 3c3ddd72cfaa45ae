-- A header line read by the span of its name.
use Rattle.std.proofs.Common.{◌≡◌, ℕ, ◌<◌, List, [], ◌∷◌, ◌++◌, length, get_or, take, drop, refl, sym, ap, subst, ◌∙◌, append_assoc, arith, Bool, true, false, cond, eqb, Result, Ok, Err, Some}
use Rattle.std.specs.Prelude.{◌&&◌, not}
use Rattle.std.specs.List.{list_all, prefix_len}
use Rattle.std.proofs.lemmas.Bool.{eqb-true, and_parts, both_ways}
use Rattle.std.proofs.lemmas.List.{take-append-drop, drop_at}
use Rattle.rtsp_text.specs.Bytes.{is_blank, is_other, is_token_byte}
use Rattle.rtsp_text.specs.SplitOnce.{split_once}
use Rattle.rtsp_text.specs.Trim.{trim_start, trim_end, trimmed}
use Rattle.rtsp_text.proofs.ByteLemmas.{all_joined, all_other, some_parts}
use Rattle.rtsp_text.proofs.PaddingLemmas.{front_blank, trim_start_pad, trim_end_pad}
use Rattle.rtsp_text.proofs.SplitLemmas.{split_found}
use Rattle.rtsp_grammar.specs.Bytes.{is_value_byte}
use Rattle.rtsp_grammar.specs.Header.{HeaderText}
use Rattle.rtsp_grammar.specs.HeaderLine.{SpellsHeader}
use Rattle.rtsp_grammar.specs.HeaderSteps.{named_header}
use Rattle.rtsp_grammar.specs.Reading.{header_of}
use Rattle.rtsp_text.specs.Span.{IsSpan}
use Rattle.rtsp_grammar.specs.declared.fault.MessageFault.{MessageFault}
use Rattle.rtsp_grammar.specs.declared.fault.MessageFault.TheVariants.{BadHeader}
use Rattle.rtsp_grammar.proofs.ClassLemmas.{no_blank, token_end}
use Rattle.rtsp_grammar.proofs.HeaderRules.{Found, header_found}
use Rattle.rtsp_grammar.proofs.SpanLemmas.{span_only}

-- a name, blanks, a colon and what follows
named : (name pad value : List ℕ) → list_all is_token_byte name ≡ true → list_all is_blank pad ≡ true → header_of (name ++ (pad ++ 58 ∷ value)) ≡ named_header name (58 ∷ value)
unfolding header_of
named name pad value token blank =
    let a : split_once 58 (name ++ (pad ++ 58 ∷ value)) ≡ Some (name ++ pad, value) = ap (split_once 58) (sym (append_assoc name pad (58 ∷ value))) ∙ split_found 58 (name ++ pad) value (all_joined (is_other 58) name pad (all_other is_token_byte 58 name refl token) (all_other is_blank 58 pad refl blank)) in
    let n : trim_end (name ++ pad) ≡ name = trim_end_pad name pad blank (token_end name token) in
    rw (a, n, token) (go (eqb (length name) 0) (list_all is_value_byte (trimmed value)) (Ok (record { name = name; value = trimmed value })))
  where
    go : (x y : Bool) (h : Result HeaderText MessageFault) → cond ((not x && true) && y) h (Err BadHeader) ≡ cond (not x && y) h (Err BadHeader)
    go true y h = refl
    go false y h = refl

regrouped : (name pad before value behind : List ℕ) → name ++ pad ++ 58 ∷ before ++ value ++ behind ≡ name ++ (pad ++ 58 ∷ (before ++ (value ++ behind)))
regrouped name pad before value behind = simp append_assoc

-- in a line that is a header a colon comes after its token and blanks
colon : (line : List ℕ) (n : ℕ) (h : HeaderText) → IsSpan is_token_byte line n → SpellsHeader line h → (value : List ℕ) × (trim_start (drop n line) ≡ 58 ∷ value)
colon line n h span s = found (s.before ++ (h.value ++ s.behind)) (s.parts ∙ regrouped h.name s.pad s.before h.value s.behind)
  where
    some : (pad value : List ℕ) → 0 < length (pad ++ 58 ∷ value)
    some [] value = omega arith
    some (b ∷ pad) value = omega arith

    stops : (pad value : List ℕ) → list_all is_blank pad ≡ true → is_token_byte (get_or (pad ++ 58 ∷ value) 0 0) ≡ false
    stops [] value blank = refl
    stops (b ∷ pad) value blank = go (is_token_byte b) refl where
      go : (t : Bool) → is_token_byte b ≡ t → t ≡ false
      go true e = absurd (both_ways (is_blank b) (no_blank b e) (and_parts (is_blank b) (list_all is_blank pad) blank).0)
      go false e = refl

    token : list_all is_token_byte h.name ≡ true
    token = (some_parts is_token_byte h.name s.fits.name).1

    found : (value : List ℕ) → line ≡ h.name ++ (s.pad ++ 58 ∷ value) → (value : List ℕ) × (trim_start (drop n line) ≡ 58 ∷ value)
    found value parts =
        let at : n ≡ length h.name = span_only is_token_byte h.name (s.pad ++ 58 ∷ value) n token (some s.pad value) (stops s.pad value s.pad_blank) (subst (λ (l : List ℕ). IsSpan is_token_byte l n) parts span) in
        let rest : drop n line ≡ s.pad ++ 58 ∷ value = ap (drop n) parts ∙ ap (λ (k : ℕ). drop k (h.name ++ (s.pad ++ 58 ∷ value))) at ∙ drop_at h.name (s.pad ++ 58 ∷ value) (length h.name) refl in
        (value, ap trim_start rest ∙ trim_start_pad s.pad (58 ∷ value) s.pad_blank (λ _. refl))

no_colon : (line : List ℕ) (n : ℕ) → IsSpan is_token_byte line n → ((value : List ℕ) → trim_start (drop n line) ≡ 58 ∷ value → ⊥) → header_of line ≡ Err BadHeader
no_colon line n span none = go (header_of line) refl (header_found line) where
  go : (r : Result HeaderText MessageFault) → header_of line ≡ r → Found line r → header_of line ≡ Err BadHeader
  go (Ok h) e s = let c = colon line n h span s in absurd (none c.0 c.1)
  go (Err fault) e s = e ∙ ap Err s

pub header_by_span : (line : List ℕ) (n : ℕ) → IsSpan is_token_byte line n → header_of line ≡ named_header (take n line) (trim_start (drop n line))
header_by_span line n span = go (trim_start (drop n line)) refl where
  at : (c : ℕ) (value : List ℕ) (t : Bool) → eqb c 58 ≡ t → trim_start (drop n line) ≡ c ∷ value → header_of line ≡ named_header (take n line) (c ∷ value)
  at c value true t e =
      let pad : List ℕ = take (prefix_len is_blank (drop n line)) (drop n line) in
      let colon : c ≡ 58 = eqb-true c 58 t in
      let parts : line ≡ take n line ++ (pad ++ 58 ∷ value) = sym (take-append-drop n line) ∙ ap (λ (l : List ℕ). take n line ++ l) (sym (take-append-drop (prefix_len is_blank (drop n line)) (drop n line)) ∙ ap (λ (l : List ℕ). pad ++ l) (e ∙ ap (λ (b : ℕ). b ∷ value) colon)) in
      ap header_of parts ∙ named (take n line) pad value span.passes (front_blank (drop n line)) ∙ ap (λ (b : ℕ). named_header (take n line) (b ∷ value)) (sym colon)
  at c value false t e = no_colon line n span (λ v k. both_ways (eqb c 58) t (ap (λ (l : List ℕ). eqb (get_or l 0 0) 58) (sym e ∙ k))) ∙ rw t refl

  go : (l : List ℕ) → trim_start (drop n line) ≡ l → header_of line ≡ named_header (take n line) l
  go [] e = no_colon line n span (λ v k. let z : [] ≡ 58 ∷ v = sym e ∙ k in absurd cc)
  go (c ∷ value) e = at c value (eqb c 58) refl e

-- the same by the parts of the line
pub header_by_parts : (line name rest trimmed_rest : List ℕ) (n : ℕ) → IsSpan is_token_byte line n → name ≡ take n line → rest ≡ drop n line → trimmed_rest ≡ trim_start rest → header_of line ≡ named_header name trimmed_rest
header_by_parts line name rest trimmed_rest n span front back after =
    header_by_span line n span ∙ ap (λ (l : List ℕ). named_header l (trim_start (drop n line))) (sym front) ∙ ap (λ (l : List ℕ). named_header name (trim_start l)) (sym back) ∙ ap (named_header name) (sym after)
