-- The answer of a longer text, and a text without one.
use Rattle.std.proofs.Common.{◌≡◌, ◌≢◌, ℕ, ◌-◌, ◌*◌, ◌<◌, ◌≤◌, ◌⊎◌, List, [], ◌∷◌, ◌++◌, length, take, refl, sym, ap, subst, ◌∙◌, append_assoc, arith, inl, inr, Result, Ok, Err, Option, Some, None}
use Rattle.std.specs.Prelude.{IfOk, IfErr, IfSome, IfNone}
use Rattle.std.proofs.lemmas.List.{length-append, append-nil, take_all, take-append-le, append_cancel_left}
use Rattle.std.proofs.lemmas.Bool.{cases_lt}
use Rattle.rtsp_text.specs.Line.{BeginsBare}
use Rattle.rtsp_grammar.specs.Lines.{blank_text, lines_text, IsBrokenHead}
use Rattle.rtsp_grammar.specs.Frame.{frame_text, IsFrame, BeginsFrame, IsShortFrame}
use Rattle.rtsp_grammar.specs.Item.{Spells}
use Rattle.rtsp_grammar.specs.Answer.{HasFault, IsPartialFrame, IsPartialHead, IsPartialBody, IsUndecided, Decides, Answers, FindsNothing}
use Rattle.rtsp_grammar.specs.declared.head.Head.{Head}
use Rattle.rtsp_grammar.specs.declared.message.Item.{Item}
use Rattle.rtsp_grammar.specs.declared.message.Frame.{Frame}
use Rattle.rtsp_grammar.specs.declared.fault.MessageFault.{MessageFault}
use Rattle.rtsp_grammar.specs.declared.fault.MessageFault.TheVariants.{OutOfMemory}
use Rattle.rtsp_grammar.proofs.HeadRules.{head_only}
use Rattle.rtsp_grammar.proofs.ViewLemmas.{ends_head, stops}
use Rattle.rtsp_grammar.proofs.ShapeLemmas.{Kind, framed, lined, Shape, same_shape, take_front, frame_window, head_shape, open_shape}
use Rattle.rtsp_grammar.proofs.AnswerLemmas.{Fate, fated, one_answer, same_pair}

bare_more : (xs ys : List ℕ) → BeginsBare xs → BeginsBare (xs ++ ys)
bare_more [] ys h = absurd h
bare_more (b ∷ []) [] h = h
bare_more (b ∷ []) (y ∷ ys) h = inl h
bare_more (b ∷ c ∷ xs) ys h = h

broken_more : (message more : List ℕ) → IsBrokenHead message → IsBrokenHead (message ++ more)
broken_more message more b = record {
  lines = b.lines;
  rest = b.rest ++ more;
  begins = record { parts = ap (λ (x : List ℕ). x ++ more) b.begins.parts ∙ append_assoc (lines_text b.lines) b.rest more; each = b.begins.each };
  broken = record { line = b.broken.line; rest = b.broken.rest ++ more; parts = ap (λ (x : List ℕ). x ++ more) b.broken.parts ∙ append_assoc b.broken.line b.broken.rest more; plain = b.broken.plain; bare = bare_more b.broken.rest more b.broken.bare };
}

bare_some : (xs : List ℕ) → BeginsBare xs → 0 < length xs
bare_some [] h = absurd h
bare_some (x ∷ xs) h = omega arith

-- a message that breaks isn't empty, so more bytes make no frame of it
broken_some : (message : List ℕ) → IsBrokenHead message → message ≢ []
broken_some message b e = absurd (omega (arith, ap length e, ap length b.begins.parts, length-append (lines_text b.lines) b.rest, ap length b.broken.parts, length-append b.broken.line b.broken.rest, bare_some b.broken.rest b.broken.bare))

pub no_frame_more : (message more : List ℕ) → message ≢ [] → ¬ BeginsFrame message → ¬ BeginsFrame (message ++ more)
no_frame_more [] more some not_frame h = some refl
no_frame_more (x ∷ xs) more some not_frame h = not_frame h

pub longer_window : (limit : ℕ) (text more : List ℕ) → take limit (text ++ more) ≡ take limit text ++ take (limit - length text) more
longer_window limit text more = elim (cases_lt (length text) limit) [
  | inl lt ↦ take_front limit text more (omega arith) ∙ ap (λ (x : List ℕ). x ++ take (limit - length text) more) (sym (take_all limit text (omega arith)))
  | inr le ↦ let none : limit - length text ≡ 0 = omega arith in take-append-le limit text more (omega arith) ∙ sym (append-nil (take limit text)) ∙ ap (λ (k : ℕ). take limit text ++ take k more) (sym none)
]

pub stays : (text more : List ℕ) (a : Result (Item × ℕ) MessageFault) → Decides text a → Decides (text ++ more) a
stays text more (Ok (item, n)) d =
    let le : n ≤ length (text ++ more) = omega (arith, length-append text more, d.0) in
    (le, subst (λ (t : List ℕ). Spells t item) (sym (take-append-le n text more d.0)) d.1)
stays text more (Err fault) (inl (inl h)) =
    let m = h.1.message in
    inl (inl (
      h.0,
      record {
        message = m ++ take (8192 - length text) more;
        has = record { blank = h.1.has.blank; parts = longer_window 8192 text more ∙ ap (λ (x : List ℕ). x ++ take (8192 - length text) more) h.1.has.parts ∙ append_assoc (blank_text h.1.has.blank) m (take (8192 - length text) more); no_frame = no_frame_more m (take (8192 - length text) more) (broken_some m h.1.broken) h.1.has.no_frame };
        broken = broken_more m (take (8192 - length text) more) h.1.broken;
      },
    ))
stays text more (Err fault) (inl (inr h)) =
    inl (inr (
      h.0,
      record {
        message = h.1.message;
        has = record { blank = h.1.has.blank; parts = take-append-le 8192 text more h.1.long ∙ h.1.has.parts; no_frame = h.1.has.no_frame };
        open_end = h.1.open_end;
        long = omega (arith, length-append text more, h.1.long);
      },
    ))
stays text more (Err fault) (inr h) = inr (record { front = h.front; rest = h.rest ++ more; parts = ap (λ (x : List ℕ). x ++ more) h.parts ∙ append_assoc h.front h.rest more; lines = h.lines; head_text = h.head_text; rules = h.rules })

-- ---- a text that leaves it open

short_frame : (frame : Frame) (rest : List ℕ) → IsFrame frame → ¬ IsShortFrame (frame_text frame ++ rest)
short_frame frame rest fits short = absurd (omega (arith, short, fits.payload, length-append frame.payload rest))

partial_frame : (text : List ℕ) (k : ℕ) (x : Kind) (a : Result (Item × ℕ) MessageFault) (p : IsPartialFrame text) → Shape (take 8192 text) k x → Fate text k x a → ⊥
partial_frame text k (lined lines f) a p s h = let e = same_shape (take 8192 text) k p.blank (lined lines f) (framed (take (8192 - 2 * p.blank) p.message)) s (frame_window text p.message p.blank p.parts p.few p.begins) in let d = e.1 in absurd cc
partial_frame text k (framed m) (Err fault) p s h = h
partial_frame text k (framed m) (Ok found) p s h =
    let e = same_shape (take 8192 text) k p.blank (framed m) (framed (take (8192 - 2 * p.blank) p.message)) s (frame_window text p.message p.blank p.parts p.few p.begins) in
    let same : frame_text h.frame ++ h.rest ≡ p.message = append_cancel_left (blank_text k) (frame_text h.frame ++ h.rest) p.message (sym h.parts ∙ p.parts ∙ ap (λ (n : ℕ). blank_text n ++ p.message) (sym e.0)) in
    short_frame h.frame h.rest h.fits (subst IsShortFrame (sym same) p.short)

partial_head : (text : List ℕ) (k : ℕ) (x : Kind) (a : Result (Item × ℕ) MessageFault) (p : IsPartialHead text) → Shape (take 8192 text) k x → Fate text k x a → ⊥
partial_head text k x a p s h =
    let e = same_shape (take 8192 text) k p.has.blank x (lined p.open_end.lines stops) s (open_shape text p.message p.has p.open_end) in
    go a (subst (λ (y : Kind). Fate text k y a) e.1 h) where
      go : (b : Result (Item × ℕ) MessageFault) → Fate text k (lined p.open_end.lines stops) b → ⊥
      go (Ok found) f = f
      go (Err fault) f = let short = p.short in let long = f.1 in absurd (omega arith)

partial_body : (text : List ℕ) (k : ℕ) (x : Kind) (a : Result (Item × ℕ) MessageFault) (p : IsPartialBody text) → Shape (take 8192 text) k x → Fate text k x a → ⊥
partial_body text k x a p s h =
    let e = same_shape (take 8192 text) k p.head_text.blank x (lined p.lines (ends_head (take (8192 - length p.front) p.rest))) s (head_shape text p.front p.rest p.lines p.head_text p.parts) in
    go a (subst (λ (n : ℕ). Fate text n (lined p.lines (ends_head (take (8192 - length p.front) p.rest))) a) e.0 (subst (λ (y : Kind). Fate text k y a) e.1 h)) where
      go : (b : Result (Item × ℕ) MessageFault) → Fate text p.head_text.blank (lined p.lines (ends_head (take (8192 - length p.front) p.rest))) b → ⊥
      go (Ok found) f =
          let reads = head_only p.lines (Ok (p.head, p.announced)) p.rules in
          let same = same_pair (p.head, p.announced) (f.head, length f.body) (sym reads ∙ f.reads) in
          let lens : p.announced ≡ length f.body = ap (λ (x : Head × ℕ). x.1) same in
          let tails : p.rest ≡ f.body ++ f.rest = append_cancel_left p.front p.rest (f.body ++ f.rest) (sym p.parts ∙ f.parts ∙ ap (λ (t : List ℕ). t ++ (f.body ++ f.rest)) (sym p.head_text.parts)) in
          absurd (omega (arith, p.short, ap length tails, length-append f.body f.rest))
      go (Err fault) f = let e = head_only p.lines (Ok (p.head, p.announced)) p.rules in absurd cc

pub no_answer : (text : List ℕ) (a : Result (Item × ℕ) MessageFault) → IsUndecided text → Decides text a → ⊥
no_answer text a (inl (inl p)) d = let f = fated text a d in partial_frame text f.k f.kind a p f.shape f.fate
no_answer text a (inl (inr p)) d = let f = fated text a d in partial_head text f.k f.kind a p f.shape f.fate
no_answer text a (inr p) d = let f = fated text a d in partial_body text f.k f.kind a p f.shape f.fate

pub same_for_longer : (text more : List ℕ) (a b : Result (Item × ℕ) MessageFault) → Decides text a → Decides (text ++ more) b → a ≡ b
same_for_longer text more a b p q = one_answer (text ++ more) a b (stays text more a p) q

-- ---- what a reader that is right in each case returned

pub found_only : (text : List ℕ) (r : Result (Option (Item × ℕ)) MessageFault) → IfOk r (λ o. IfSome o (λ x. x.1 ≤ length text)) → IfOk r (λ o. IfSome o (λ x. Spells (take x.1 text) x.0)) → IfOk r (λ o. IfNone o (IsUndecided text))
    → IfErr r (λ f. (f ≡ OutOfMemory) ⊎ HasFault text f) → (a : Result (Item × ℕ) MessageFault) → Decides text a → Answers r a
found_only text (Ok (Some x)) len item none fault a d = one_answer text a (Ok x) d (len, item)
found_only text (Ok None) len item none fault a d = no_answer text a none d
found_only text (Err f) len item none (inl memory) a d = inl memory
found_only text (Err f) len item none (inr h) a d = inr (one_answer text a (Err f) d h)

pub found_nothing : (text : List ℕ) (r : Result (Option (Item × ℕ)) MessageFault) → IfOk r (λ o. IfSome o (λ x. x.1 ≤ length text)) → IfOk r (λ o. IfSome o (λ x. Spells (take x.1 text) x.0)) → IfOk r (λ o. IfNone o (IsUndecided text))
    → IfErr r (λ f. (f ≡ OutOfMemory) ⊎ HasFault text f) → IsUndecided text → FindsNothing r
found_nothing text (Ok (Some x)) len item none fault u = no_answer text (Ok x) u (len, item)
found_nothing text (Ok None) len item none fault u = tt
found_nothing text (Err f) len item none (inl memory) u = memory
found_nothing text (Err f) len item none (inr h) u = absurd (no_answer text (Err f) u h)
