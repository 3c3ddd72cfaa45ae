-- What a window holds: empty lines, and then a frame or lines, in one way.
use Rattle.std.proofs.Common.{◌≡◌, ◌≢◌, ℕ, zero, suc, ◌+◌, ◌-◌, ◌*◌, ◌<◌, ◌≤◌, List, [], ◌∷◌, ◌++◌, length, take, refl, sym, ap, subst, ◌∙◌, append_assoc, arith}
use Rattle.std.specs.List.{AllByRecursion}
use Rattle.std.proofs.Math.Seq.{take-append-add}
use Rattle.rtsp_grammar.specs.Lines.{blank_text, lines_text, IsLine, IsBrokenHead, IsOpenHead}
use Rattle.rtsp_grammar.specs.Frame.{BeginsFrame}
use Rattle.rtsp_grammar.specs.Item.{BeginsBlank, IsHeadText}
use Rattle.rtsp_grammar.specs.Answer.{HasMessage}
use Rattle.rtsp_grammar.proofs.BlankLemmas.{length-blank_text}
use Rattle.rtsp_grammar.proofs.ViewLemmas.{View, ended, broken, open_end, view, view_ended, broken_views, open_views, Final, ends_head, breaks, stops, IsFinal, same_lines, same_blank}

-- what a window holds after its empty lines
pub data Kind : Type 0 where
  framed : List ℕ → Kind
  lined : List (List ℕ) → Final → Kind

-- a head that ends has a line
abbrev pub HasSome : List (List ℕ) → Final → Type 0
HasSome lines (ends_head rest) = lines ≢ []
HasSome lines breaks = Unit {0}
HasSome lines stops = Unit {0}

pub record IsLined (window : List ℕ) (k : ℕ) (lines : List (List ℕ)) (f : Final) : Type 0 where
  pub mid : List ℕ
  pub parts : window ≡ blank_text k ++ (lines_text lines ++ mid)
  pub each : AllByRecursion IsLine lines
  pub final : IsFinal f mid
  pub some : HasSome lines f
  pub no_frame : ¬ BeginsFrame (lines_text lines ++ mid)

abbrev pub Shape : List ℕ → ℕ → Kind → Type 0
Shape window k (framed message) = (window ≡ blank_text k ++ message) × BeginsFrame message
Shape window k (lined lines f) = IsLined window k lines f

blank_reads : (text : List ℕ) → BeginsBlank text → (rest : List ℕ) × (text ≡ 13 ∷ 10 ∷ rest)
blank_reads [] h = absurd h
blank_reads (a ∷ []) h = absurd h
blank_reads (a ∷ b ∷ rest) h = (rest, cc)

frame_no_blank : (text : List ℕ) → BeginsFrame text → ¬ BeginsBlank text
frame_no_blank [] h b = h
frame_no_blank (x ∷ []) h b = b
frame_no_blank (x ∷ y ∷ xs) h b = absurd (omega (arith, h, b.0))

final_view : Final → View
final_view (ends_head rest) = ended [] rest
final_view breaks = broken
final_view stops = open_end

views : (f : Final) (mid : List ℕ) → IsFinal f mid → view mid ≡ final_view f
unfolding final_view
views (ends_head rest) mid e = ap view e ∙ view_ended [] rest refl
views breaks mid e = e
views stops mid e = e

same_final : (f g : Final) → final_view f ≡ final_view g → f ≡ g
unfolding final_view
same_final (ends_head a) (ends_head b) e = cc
same_final (ends_head a) breaks e = absurd cc
same_final (ends_head a) stops e = absurd cc
same_final breaks (ends_head b) e = absurd cc
same_final breaks breaks e = refl
same_final breaks stops e = absurd cc
same_final stops (ends_head b) e = absurd cc
same_final stops breaks e = absurd cc
same_final stops stops e = refl

lined_no_blank : (window : List ℕ) (k : ℕ) (lines : List (List ℕ)) (f : Final) (s : IsLined window k lines f) → ¬ BeginsBlank (lines_text lines ++ s.mid)
lined_no_blank window k lines f s b =
    let r = blank_reads (lines_text lines ++ s.mid) b in
    let same = same_lines lines [] s.mid (13 ∷ 10 ∷ r.0) f (ends_head r.0) s.each tt s.final refl r.1 in
    let g : f ≡ ends_head r.0 = same_final f (ends_head r.0) (sym (views f s.mid s.final) ∙ ap view same.1 ∙ views (ends_head r.0) (13 ∷ 10 ∷ r.0) refl) in
    subst (HasSome lines) g s.some same.0

pub same_shape : (window : List ℕ) (k n : ℕ) (x y : Kind) → Shape window k x → Shape window n y → (k ≡ n) × (x ≡ y)
same_shape window k n (framed a) (framed b) p q =
    let s = same_blank k n a b (frame_no_blank a p.1) (frame_no_blank b q.1) (sym p.0 ∙ q.0) in
    (s.0, ap framed s.1)
same_shape window k n (framed a) (lined lines f) p q =
    let s = same_blank k n a (lines_text lines ++ q.mid) (frame_no_blank a p.1) (lined_no_blank window n lines f q) (sym p.0 ∙ q.parts) in
    absurd (q.no_frame (subst BeginsFrame s.1 p.1))
same_shape window k n (lined lines f) (framed b) p q =
    let s = same_blank k n (lines_text lines ++ p.mid) b (lined_no_blank window k lines f p) (frame_no_blank b q.1) (sym p.parts ∙ q.0) in
    absurd (p.no_frame (subst BeginsFrame (sym s.1) q.1))
same_shape window k n (lined lines f) (lined others g) p q =
    let s = same_blank k n (lines_text lines ++ p.mid) (lines_text others ++ q.mid) (lined_no_blank window k lines f p) (lined_no_blank window n others g q) (sym p.parts ∙ q.parts) in
    let t = same_lines lines others p.mid q.mid f g p.each q.each p.final q.final s.1 in
    let e : f ≡ g = same_final f g (sym (views f p.mid p.final) ∙ ap view t.1 ∙ views g q.mid q.final) in
    (s.0, ap (λ (ls : List (List ℕ)). lined ls f) t.0 ∙ ap (lined others) e)

-- a front within a limit, and what is left of the limit
pub take_front : (limit : ℕ) (xs ys : List ℕ) → length xs ≤ limit → take limit (xs ++ ys) ≡ xs ++ take (limit - length xs) ys
take_front limit xs ys le =
    let e : limit ≡ length xs + (limit - length xs) = omega arith in
    ap (λ (k : ℕ). take k (xs ++ ys)) e ∙ take-append-add xs ys (limit - length xs)

window_of : (text front rest : List ℕ) → text ≡ front ++ rest → length front ≤ 8192 → take 8192 text ≡ front ++ take (8192 - length front) rest
window_of text front rest e le = ap (take 8192) e ∙ take_front 8192 front rest le

begins_take : (n : ℕ) (xs : List ℕ) → 0 < n → BeginsFrame xs → BeginsFrame (take n xs)
begins_take zero xs lt h = absurd (omega arith)
begins_take (suc n) [] lt h = absurd h
begins_take (suc n) (x ∷ xs) lt h = h

pub frame_window : (text message : List ℕ) (k : ℕ) → text ≡ blank_text k ++ message → k < 4096 → BeginsFrame message → Shape (take 8192 text) k (framed (take (8192 - 2 * k) message))
frame_window text message k e few h =
    (window_of text (blank_text k) message e (omega (arith, length-blank_text k)) ∙ ap (λ (n : ℕ). blank_text k ++ take (8192 - n) message) (length-blank_text k), begins_take (8192 - 2 * k) message (omega arith) h)

pub head_shape : (text front rest : List ℕ) (lines : List (List ℕ)) (h : IsHeadText front lines) → text ≡ front ++ rest → IsLined (take 8192 text) h.blank lines (ends_head (take (8192 - length front) rest))
head_shape text front rest lines h e = record {
  mid = 13 ∷ 10 ∷ take (8192 - length front) rest;
  parts = window_of text front rest e h.short ∙ ap (λ (x : List ℕ). x ++ take (8192 - length front) rest) h.parts ∙ append_assoc (blank_text h.blank) (lines_text lines ++ 13 ∷ 10 ∷ []) (take (8192 - length front) rest) ∙ ap (λ (x : List ℕ). blank_text h.blank ++ x) (append_assoc (lines_text lines) (13 ∷ 10 ∷ []) (take (8192 - length front) rest));
  each = h.each;
  final = refl;
  some = h.some;
  no_frame = λ b. h.no_frame (shorter lines (13 ∷ 10 ∷ take (8192 - length front) rest) h.some b);
} where
  -- the first line begins the text
  shorter : (ls : List (List ℕ)) (more : List ℕ) → ls ≢ [] → BeginsFrame (lines_text ls ++ more) → BeginsFrame (lines_text ls)
  shorter [] more some b = absurd (some refl)
  shorter ([] ∷ ls) more some b = b
  shorter ((x ∷ xs) ∷ ls) more some b = b

pub broken_shape : (text message : List ℕ) (m : HasMessage text message) (b : IsBrokenHead message) → IsLined (take 8192 text) m.blank b.lines breaks
broken_shape text message m b = record {
  mid = b.rest;
  parts = m.parts ∙ ap (λ (x : List ℕ). blank_text m.blank ++ x) b.begins.parts;
  each = b.begins.each;
  final = broken_views b.rest b.broken;
  some = tt;
  no_frame = λ h. m.no_frame (subst BeginsFrame (sym b.begins.parts) h);
}

pub open_shape : (text message : List ℕ) (m : HasMessage text message) (o : IsOpenHead message) → IsLined (take 8192 text) m.blank o.lines stops
open_shape text message m o = record {
  mid = o.rest;
  parts = m.parts ∙ ap (λ (x : List ℕ). blank_text m.blank ++ x) o.begins.parts;
  each = o.begins.each;
  final = open_views o.rest o.open_end;
  some = tt;
  no_frame = λ h. m.no_frame (subst BeginsFrame (sym o.begins.parts) h);
}
