-- A head that comes in pieces, scanned from the place where the scan stopped.
use Rattle.std.proofs.Common.{◌≡◌, ◌≢◌, ℕ, suc, ◌+◌, ◌-◌, ◌<◌, ◌≤◌, List, [], ◌∷◌, ◌++◌, length, drop, refl, sym, ap, subst, ◌∙◌, append_assoc, arith, inl, inr, Bool, true, false, eqb, Some}
use Rattle.std.proofs.lemmas.Bool.{eqb-true, and_from}
use Rattle.std.proofs.lemmas.List.{take_all, length-append, append-nil, drop_at, drop-append-le}
use Rattle.std.proofs.lemmas.List.Folds.{list_all-append}
use Rattle.rtsp_text.specs.Bytes.{is_line_byte}
use Rattle.rtsp_grammar.specs.Frame.{BeginsFrame}
use Rattle.rtsp_text.specs.Line.{IsPlain, IsOpen, HasLine}
use Rattle.rtsp_grammar.specs.Lines.{blank_text, line_text, lines_text}
use Rattle.rtsp_grammar.specs.Answer.{IsUndecided}
use Rattle.rtsp_grammar.specs.Scan.{reached_after, reached_within, BeginsNoFrame, HasReached, IsReached, IsPlace}
use Rattle.rtsp_grammar.specs.declared.scan.ScanPlace.{ScanPlace}
use Rattle.rtsp_grammar.specs.declared.scan.Reached.{Reached}
use Rattle.rtsp_grammar.specs.declared.scan.Reached.TheVariants as reaches
use Rattle.rtsp_grammar.proofs.BlankLemmas.{blank_more}
use Rattle.rtsp_grammar.proofs.ItemLemmas.{not_empty}
use Rattle.rtsp_grammar.proofs.LinesLemmas.{lines_more, each_more}
use Rattle.rtsp_grammar.proofs.LongerLemmas.{no_frame_more}

plain_more : (xs ys : List ℕ) → IsPlain xs → IsPlain ys → IsPlain (xs ++ ys)
plain_more xs ys p q = list_all-append is_line_byte xs ys ∙ and_from _ _ p q

-- what came of a message, with more after it, begins no frame
more_no_frame : (reached : Reached) (lines : List (List ℕ)) (part left : List ℕ) → HasReached reached lines part → ¬ BeginsFrame (lines_text lines ++ part) → BeginsNoFrame reached left → ¬ BeginsFrame ((lines_text lines ++ part) ++ left)
more_no_frame reaches.Start lines part left h not_frame next = rw (h.0, h.1) next
more_no_frame reaches.LineEnd [] part left h not_frame next = absurd (h.0 refl)
more_no_frame reaches.LineEnd (line ∷ lines) part left h not_frame next = no_frame_more (lines_text (line ∷ lines) ++ part) left (some line) not_frame where
  some : (xs : List ℕ) → lines_text (xs ∷ lines) ++ part ≢ []
  some [] e = absurd cc
  some (x ∷ xs) e = absurd cc
more_no_frame reaches.Line lines part left h not_frame next =
    no_frame_more (lines_text lines ++ part) left (λ e. absurd (omega (arith, h, ap length e, length-append (lines_text lines) part))) not_frame

-- and so does a front of that
front_no_frame : (xs ys : List ℕ) → ¬ BeginsFrame (xs ++ ys) → ¬ BeginsFrame xs
front_no_frame [] ys not_frame h = h
front_no_frame (x ∷ xs) ys not_frame h = not_frame h

-- ---- a line ends

line_moved : (part line rest : List ℕ) → part ++ (line ++ 13 ∷ 10 ∷ rest) ≡ line_text (part ++ line) ++ rest
line_moved part line rest = simp append_assoc

some_lines : (lines : List (List ℕ)) (line : List ℕ) → lines ++ line ∷ [] ≢ []
some_lines [] line e = absurd cc
some_lines (x ∷ lines) line e = absurd cc

line_some : (reached : Reached) (lines : List (List ℕ)) (part line : List ℕ) (is_empty : Bool) → HasReached reached lines part → is_empty ≡ eqb (length line) 0 → reached_after reached is_empty ≡ Some reaches.LineEnd → 0 < length (part ++ line)
line_some reaches.Start lines part line true h z e = absurd cc
line_some reaches.LineEnd lines part line true h z e = absurd cc
line_some reaches.Line lines part line true h z e = omega (arith, h, length-append part line)
line_some reached lines part line false h z e = omega (arith, not_empty line z, length-append part line)

reached_line : (text : List ℕ) (reached : Reached) (left line rest : List ℕ) (is_empty : Bool) → IsReached text reached left → BeginsNoFrame reached left → HasLine left line rest → is_empty ≡ eqb (length line) 0 → reached_after reached is_empty ≡ Some reaches.LineEnd
    → IsReached text reaches.LineEnd rest
reached_line text reached left line rest is_empty r next h z e =
    let whole : lines_text r.lines ++ (r.part ++ left) ≡ lines_text (r.lines ++ (r.part ++ line) ∷ []) ++ rest =
    ap (λ (t : List ℕ). lines_text r.lines ++ (r.part ++ t)) h.parts ∙ ap (λ (t : List ℕ). lines_text r.lines ++ t) (line_moved r.part line rest) ∙ sym (append_assoc (lines_text r.lines) (line_text (r.part ++ line)) rest)
    ∙ ap (λ (t : List ℕ). t ++ rest) (sym (lines_more r.lines (r.part ++ line))) in
    record {
      blank = r.blank;
      lines = r.lines ++ (r.part ++ line) ∷ [];
      part = [];
      parts = r.parts ∙ ap (λ (t : List ℕ). blank_text r.blank ++ t) whole;
      each = each_more r.lines (r.part ++ line) r.each (plain_more r.part line r.plain h.plain, line_some reached r.lines r.part line is_empty r.reached_is z e);
      plain = refl;
      no_frame = front_no_frame (lines_text (r.lines ++ (r.part ++ line) ∷ []) ++ []) rest (λ b. more_no_frame reached r.lines r.part left r.reached_is r.no_frame next (subst BeginsFrame (ap (λ (t : List ℕ). t ++ rest) (append-nil (lines_text (r.lines ++ (r.part ++ line) ∷ []))) ∙ sym whole ∙ sym (append_assoc (lines_text r.lines) r.part left)) b));
      reached_is = (some_lines r.lines (r.part ++ line), refl);
    }

reached_blank : (text : List ℕ) (left line rest : List ℕ) → IsReached text reaches.Start left → HasLine left line rest → length line ≡ 0 → IsReached text reaches.Start rest
reached_blank text left [] rest r h e =
    let whole : lines_text r.lines ++ (r.part ++ left) ≡ 13 ∷ 10 ∷ rest = rw (r.reached_is.0, r.reached_is.1) h.parts in
    record {
      blank = suc r.blank;
      lines = [];
      part = [];
      parts = r.parts ∙ ap (λ (t : List ℕ). blank_text r.blank ++ t) whole ∙ blank_more r.blank rest;
      each = tt;
      plain = refl;
      no_frame = λ b. b;
      reached_is = (refl, refl);
    }
reached_blank text left (x ∷ line) rest r h e = absurd (omega (arith, e))

next_same : (a b : Reached) → Some a ≡ Some b → a ≡ b
next_same a b e = cc

-- each line that ends
pub reached_next : (text : List ℕ) (reached next : Reached) (left line rest : List ℕ) (is_empty : Bool) → IsReached text reached left → BeginsNoFrame reached left → HasLine left line rest → is_empty ≡ eqb (length line) 0 → reached_after reached is_empty ≡ Some next
    → IsReached text next rest
reached_next text reaches.Start next left line rest true r no_frame h z e = subst (λ (x : Reached). IsReached text x rest) (next_same reaches.Start next e) (reached_blank text left line rest r h (eqb-true (length line) 0 (sym z)))
reached_next text reaches.LineEnd next left line rest true r no_frame h z e = absurd cc
reached_next text reaches.Line next left line rest true r no_frame h z e = subst (λ (x : Reached). IsReached text x rest) (next_same reaches.LineEnd next e) (reached_line text reaches.Line left line rest true r no_frame h z refl)
reached_next text reached next left line rest false r no_frame h z e = subst (λ (x : Reached). IsReached text x rest) (next_same reaches.LineEnd next e) (reached_line text reached left line rest false r no_frame h z refl)

-- ---- the text ends in a line

pub reached_open : (text : List ℕ) (reached : Reached) (left : List ℕ) (r : IsReached text reached left) (o : IsOpen left) → BeginsNoFrame reached left → length text < 8192 → IsUndecided text
reached_open text reached left r o next lt =
    let whole : lines_text r.lines ++ (r.part ++ left) ≡ (lines_text r.lines ++ r.part) ++ left = sym (append_assoc (lines_text r.lines) r.part left) in
    inl (inr (record {
      message = lines_text r.lines ++ (r.part ++ left);
      has = record {
        blank = r.blank;
        parts = take_all 8192 text (omega arith) ∙ r.parts;
        no_frame = λ b. more_no_frame reached r.lines r.part left r.reached_is r.no_frame next (subst BeginsFrame whole b);
      };
      open_end = record {
        lines = r.lines;
        rest = r.part ++ left;
        begins = record { parts = refl; each = r.each };
        open_end = record { line = r.part ++ o.line; rest = o.rest; parts = ap (λ (t : List ℕ). r.part ++ t) o.parts ∙ sym (append_assoc r.part o.line o.rest); plain = plain_more r.part o.line r.plain o.plain; short = o.short };
      };
      short = lt;
    }))

-- the place behind the bytes that came of that line
pub reached_part : (text : List ℕ) (reached : Reached) (left : List ℕ) (r : IsReached text reached left) (o : IsOpen left) → BeginsNoFrame reached left → 0 < length o.line → IsReached text reaches.Line o.rest
reached_part text reached left r o next some = record {
  blank = r.blank;
  lines = r.lines;
  part = r.part ++ o.line;
  parts = r.parts ∙ ap (λ (t : List ℕ). blank_text r.blank ++ (lines_text r.lines ++ t)) (ap (λ (t : List ℕ). r.part ++ t) o.parts ∙ sym (append_assoc r.part o.line o.rest));
  each = r.each;
  plain = plain_more r.part o.line r.plain o.plain;
  no_frame = front_no_frame (lines_text r.lines ++ (r.part ++ o.line)) o.rest (λ b. more_no_frame reached r.lines r.part left r.reached_is r.no_frame next (subst BeginsFrame
      (append_assoc (lines_text r.lines) (r.part ++ o.line) o.rest ∙ ap (λ (t : List ℕ). lines_text r.lines ++ t) (append_assoc r.part o.line o.rest ∙ ap (λ (t : List ℕ). r.part ++ t) (sym o.parts)) ∙ sym (append_assoc (lines_text r.lines) r.part left)) b));
  reached_is = omega (arith, some, length-append r.part o.line);
}

-- what is left where the last bytes are rest
left_is : (text front rest : List ℕ) (at : ℕ) → text ≡ front ++ rest → at + length rest ≡ length text → drop at text ≡ rest
left_is text front rest at e len = ap (drop at) e ∙ drop_at front rest at (omega (arith, len, ap length e, length-append front rest))

reached_front : (text : List ℕ) (reached : Reached) (left : List ℕ) (r : IsReached text reached left) → text ≡ (blank_text r.blank ++ (lines_text r.lines ++ r.part)) ++ left
reached_front text reached left r = r.parts ∙ ap (λ (t : List ℕ). blank_text r.blank ++ t) (sym (append_assoc (lines_text r.lines) r.part left)) ∙ sym (append_assoc (blank_text r.blank) (lines_text r.lines ++ r.part) left)

place_of : (text : List ℕ) (reached : Reached) (left : List ℕ) (at : ℕ) → IsReached text reached left → at + length left ≡ length text → IsPlace text (record { at = at; reached = reached })
place_of text reached left at r len = record {
  within = omega (arith, len);
  reached = subst (IsReached text reached) (sym (left_is text (blank_text r.blank ++ (lines_text r.lines ++ r.part)) left at (reached_front text reached left r) len)) r;
}

pub place_open : (text : List ℕ) (reached : Reached) (left line : List ℕ) (is_empty : Bool) → IsReached text reached left → BeginsNoFrame reached left → (o : IsOpen left) × (o.line ≡ line) → length left ≤ length text → is_empty ≡ eqb (length line) 0
    → IsPlace text (record { at = length text - length left + length line; reached = reached_within reached is_empty })
place_open text reached left line true r next o le z =
    let none : length line ≡ 0 = eqb-true (length line) 0 (sym z) in
    place_of text reached left (length text - length left + length line) r (omega (arith, none, le))
place_open text reached left line false r next o le z =
    place_of text reaches.Line o.0.rest (length text - length left + length line) (reached_part text reached left r o.0 next (omega (arith, not_empty line z, ap length o.1)))
    (omega (arith, le, ap length o.1, ap length o.0.parts, length-append o.0.line o.0.rest))

-- ---- more bytes come

pub place_more : (text more : List ℕ) (place : ScanPlace) → IsPlace text place → IsPlace (text ++ more) place
place_more text more place p = record {
  within = omega (arith, p.within, length-append text more);
  reached = record {
    blank = p.reached.blank;
    lines = p.reached.lines;
    part = p.reached.part;
    parts = ap (λ (t : List ℕ). t ++ more) (reached_front text place.reached (drop place.at text) p.reached) ∙ append_assoc (blank_text p.reached.blank ++ (lines_text p.reached.lines ++ p.reached.part)) (drop place.at text) more ∙ append_assoc (blank_text p.reached.blank) (lines_text p.reached.lines ++ p.reached.part) (drop place.at text ++ more)
        ∙ ap (λ (t : List ℕ). blank_text p.reached.blank ++ t) (append_assoc (lines_text p.reached.lines) p.reached.part (drop place.at text ++ more) ∙ ap (λ (t : List ℕ). lines_text p.reached.lines ++ (p.reached.part ++ t)) (sym (drop-append-le place.at text more p.within)));
    each = p.reached.each;
    plain = p.reached.plain;
    no_frame = p.reached.no_frame;
    reached_is = p.reached.reached_is;
  };
}
