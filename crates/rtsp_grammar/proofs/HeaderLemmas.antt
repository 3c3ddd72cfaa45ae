-- Reading header lines one after the other, as a loop does.
use Rattle.std.proofs.Common.{◌≡◌, ℕ, ◌<◌, ◌≤◌, List, [], ◌∷◌, ◌++◌, length, Result, Ok, Err, refl, sym, ap, ◌∙◌, append_assoc, arith, ◌⊎◌, inl, inr, true, false}
use Rattle.std.specs.Borrow.{Bor}
use Rattle.std.proofs.lemmas.List.{append-nil}
use Rattle.rtsp_text.specs.Results.{Gives, ◌>>=◌}
use Rattle.std.proofs.lemmas.Bool.{both_ways}
use Rattle.rtsp_grammar.specs.Folds.{begins_blank}
use Rattle.rtsp_grammar.specs.Header.{HeaderText}
use Rattle.rtsp_grammar.specs.HeaderSteps.{ReadsHeader}
use Rattle.rtsp_grammar.specs.Lines.{AreLines}
use Rattle.rtsp_grammar.specs.Reading.{folded, after_folds, header_of, headers_of, header_lines_of}
use Rattle.rtsp_grammar.specs.declared.fault.MessageFault.{MessageFault}
use Rattle.rtsp_grammar.specs.declared.fault.MessageFault.TheVariants.{BadHeader, OutOfMemory}
use Rattle.rtsp_grammar.proofs.FoldLemmas.{first_continues, folded_line, folded_none, after_plain, after_same, is_plain, read_folded}
use Rattle.rtsp_grammar.proofs.LinesLemmas.{begins_same, no_lines}

-- what was read before, and what is still read
abbrev pub with_front : List HeaderText → Result (List HeaderText) MessageFault → Result (List HeaderText) MessageFault
with_front front read = read >>= λ hs. Ok (front ++ hs)

with_none : (read : Result (List HeaderText) MessageFault) → with_front [] read ≡ read
with_none (Ok hs) = refl
with_none (Err f) = refl

regroup : (front : List HeaderText) (h : HeaderText) (read : Result (List HeaderText) MessageFault) → with_front front (read >>= λ hs. Ok (h ∷ hs)) ≡ with_front (front ++ h ∷ []) read
regroup front h (Ok hs) = ap Ok (simp append_assoc)
regroup front h (Err f) = refl

goes_on : (front : List HeaderText) (line : List ℕ) (rest : List (List ℕ)) (h : HeaderText) → header_of line ≡ Ok h → with_front front (headers_of (line ∷ rest)) ≡ with_front (front ++ h ∷ []) (headers_of rest)
unfolding headers_of
goes_on front line rest h e = rw e (regroup front h (headers_of rest))

ends : (front : List HeaderText) (line : List ℕ) (rest : List (List ℕ)) (f : MessageFault) → header_of line ≡ Err f → with_front front (headers_of (line ∷ rest)) ≡ Err f
unfolding headers_of
ends front line rest f e = rw e refl

is_done : (front : List HeaderText) → with_front front (headers_of []) ≡ Ok front
unfolding headers_of
is_done front = ap Ok (append-nil front)

-- a fault of one line is that of the line itself
pub not_read : (read again : Result HeaderText MessageFault) (fault : MessageFault) → read ≡ again → (fault ≡ OutOfMemory) ⊎ (read ≡ Err fault) → (fault ≡ OutOfMemory) ⊎ (again ≡ Err fault)
not_read read again fault e (inl memory) = inl memory
not_read read again fault e (inr bad) = inr (sym e ∙ bad)

-- headers of the first lines were read, and these lines are left, of which the first continues none
pub record IsReading (lines : List (List ℕ)) (done : List HeaderText) (left : List ℕ) : Type 0 where
  pub more : List (List ℕ)
  pub are : AreLines left more
  pub plain : (folded more).0 ≡ []
  pub so_far : with_front done (headers_of (folded more).1) ≡ headers_of (folded lines).1

pub nothing_folded : (text : List ℕ) (lines : List (List ℕ)) → AreLines text lines → begins_blank text ≡ false → (folded lines).0 ≡ []
nothing_folded text [] a plain = ap (λ (r : List ℕ × List (List ℕ)). r.0) folded_none
nothing_folded text (line ∷ lines) a plain = ap (λ (r : List ℕ × List (List ℕ)). r.0) (folded_line line lines (sym (begins_same text line lines a) ∙ plain))

pub reading_starts : (text : List ℕ) (lines : List (List ℕ)) (done : List HeaderText) → AreLines text lines → begins_blank text ≡ false → done ≡ [] → IsReading lines done text
reading_starts text lines done a plain none = record {
  more = lines;
  are = a;
  plain = nothing_folded text lines a plain;
  so_far = ap (λ (hs : List HeaderText). with_front hs (headers_of (folded lines).1)) none ∙ with_none (headers_of (folded lines).1);
}

pub reading_goes_on : (lines : List (List ℕ)) (done new : List HeaderText) (left : List ℕ) (rest : Bor (List ℕ)) → IsReading lines done left → 0 < length left
    → ((l : List ℕ) (ls : List (List ℕ)) → AreLines left (l ∷ ls) → ReadsHeader (Ok rest) done new l ls) → IsReading lines new rest.now
reading_goes_on lines done new left rest r some step = go r.more r.are r.plain r.so_far where
  go : (more : List (List ℕ)) → AreLines left more → (folded more).0 ≡ [] → with_front done (headers_of (folded more).1) ≡ headers_of (folded lines).1 → IsReading lines new rest.now
  go [] a plain so_far = absurd (omega (arith, some, ap length a.parts))
  go (line ∷ more) a plain so_far =
      let s = step line more a in
      let h = s.0.0 in
      let e = folded_line line more (is_plain line more plain) in
      record {
        more = after_folds more;
        are = s.1;
        plain = after_plain more;
        so_far = ap (λ (ls : List (List ℕ)). with_front new (headers_of ls)) (after_same more) ∙ ap (λ (hs : List HeaderText). with_front hs (headers_of (folded more).1)) s.0.2
            ∙ sym (goes_on done (line ++ (folded more).0) (folded more).1 h s.0.1) ∙ ap (λ (p : List ℕ × List (List ℕ)). with_front done (headers_of p.1)) (sym e) ∙ so_far;
      }

pub reading_breaks : (lines : List (List ℕ)) (done new : List HeaderText) (left : List ℕ) (fault : MessageFault) → IsReading lines done left → 0 < length left
    → ((l : List ℕ) (ls : List (List ℕ)) → AreLines left (l ∷ ls) → ReadsHeader (Err fault) done new l ls) → (folded lines).0 ≡ [] → length (folded lines).1 ≤ 64 → Gives OutOfMemory (Err fault) (header_lines_of lines)
reading_breaks lines done new left fault r some step none few = go r.more r.are r.plain r.so_far where
  broken : (more : List (List ℕ)) (line : List ℕ) → (folded (line ∷ more)).0 ≡ [] → with_front done (headers_of (folded (line ∷ more)).1) ≡ headers_of (folded lines).1 → (fault ≡ OutOfMemory) ⊎ (header_of (line ++ (folded more).0) ≡ Err fault) → Gives OutOfMemory (Err fault) (header_lines_of lines)
  broken more line plain so_far (inl memory) = inl memory
  broken more line plain so_far (inr bad) =
      let e = folded_line line more (is_plain line more plain) in
      inr (read_folded lines none few ∙ sym so_far ∙ ap (λ (p : List ℕ × List (List ℕ)). with_front done (headers_of p.1)) e ∙ ends done (line ++ (folded more).0) (folded more).1 fault bad)

  go : (more : List (List ℕ)) → AreLines left more → (folded more).0 ≡ [] → with_front done (headers_of (folded more).1) ≡ headers_of (folded lines).1 → Gives OutOfMemory (Err fault) (header_lines_of lines)
  go [] a plain so_far = absurd (omega (arith, some, ap length a.parts))
  go (line ∷ more) a plain so_far = broken more line plain so_far (step line more a).0

pub reading_ends : (lines : List (List ℕ)) (done : List HeaderText) (left : List ℕ) → IsReading lines done left → length left ≡ 0 → (folded lines).0 ≡ [] → length (folded lines).1 ≤ 64 → header_lines_of lines ≡ Ok done
reading_ends lines done left r empty none few =
    let e : r.more ≡ [] = no_lines left r.more r.are empty in
    read_folded lines none few ∙ sym r.so_far ∙ ap (λ (ls : List (List ℕ)). with_front done (headers_of (folded ls).1)) e ∙ ap (λ (p : List ℕ × List (List ℕ)). with_front done (headers_of p.1)) folded_none ∙ is_done done

pub starts_in_fold : (text : List ℕ) (lines : List (List ℕ)) → AreLines text lines → begins_blank text ≡ true → header_lines_of lines ≡ Err BadHeader
starts_in_fold text [] a blank = absurd (both_ways (begins_blank text) (ap begins_blank a.parts) blank)
starts_in_fold text (line ∷ lines) a blank = first_continues line lines (sym (begins_same text line lines a) ∙ blank)
