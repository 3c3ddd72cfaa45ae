-- The first of the lines of a text.
use Rattle.std.proofs.Common.{◌≡◌, ℕ, ◌+◌, ◌-◌, ◌<◌, ◌≤◌, List, [], ◌∷◌, ◌++◌, length, refl, sym, ap, subst, ◌∙◌, append_assoc, arith, true, Option, Some, None}
use Rattle.std.specs.List.{AllByRecursion}
use Rattle.std.proofs.lemmas.List.{length-append, append-nil, length-drop}
use Rattle.rtsp_text.proofs.ByteLemmas.{all_other}
use Rattle.rtsp_text.specs.Bytes.{is_line_byte}
use Rattle.rtsp_grammar.specs.Folds.{begins_blank}
use Rattle.rtsp_grammar.specs.Item.{BeginsBlank}
use Rattle.rtsp_text.specs.Line.{HasLine}
use Rattle.rtsp_grammar.specs.Lines.{AreLines, BeginsLines, IsLine, line_text, lines_text}
use Rattle.rtsp_grammar.specs.Reading.{line_and_others, split_line}
use Rattle.rtsp_text.specs.SplitOnce.{split_once, IsSplitAt}
use Rattle.rtsp_text.proofs.SplitLemmas.{split_found, split_is}

-- a text of a line and others
pub first_parts : (text line : List ℕ) (lines : List (List ℕ)) → AreLines text (line ∷ lines) → text ≡ line ++ 13 ∷ 10 ∷ lines_text lines
first_parts text line lines a = a.parts ∙ append_assoc line (13 ∷ 10 ∷ []) (lines_text lines)

-- is split at the CR
pub split_at : (text line : List ℕ) (lines : List (List ℕ)) → AreLines text (line ∷ lines) → split_line text ≡ (line, lines_text lines)
split_at text line lines a =
    let e : split_once 13 text ≡ Some (line, 10 ∷ lines_text lines) = ap (split_once 13) (first_parts text line lines a) ∙ split_found 13 line (10 ∷ lines_text lines) (all_other is_line_byte 13 line refl a.each.0.0) in
    ap (line_and_others text) e

pub other_lines : (text line : List ℕ) (lines : List (List ℕ)) → AreLines text (line ∷ lines) → AreLines (split_line text).1 lines
other_lines text line lines a = record { parts = ap (λ (p : List ℕ × List ℕ). p.1) (split_at text line lines a); each = a.each.1 }

pub first_line : (text line : List ℕ) (lines : List (List ℕ)) → AreLines text (line ∷ lines) → (split_line text).0 ≡ line
first_line text line lines a = ap (λ (p : List ℕ × List ℕ). p.0) (split_at text line lines a)

-- it begins as its first line does
pub begins_same : (text line : List ℕ) (lines : List (List ℕ)) → AreLines text (line ∷ lines) → begins_blank text ≡ begins_blank line
begins_same text line lines a = ap begins_blank (first_parts text line lines a) ∙ go line a.each.0 where
  go : (xs : List ℕ) → IsLine xs → begins_blank (xs ++ 13 ∷ 10 ∷ lines_text lines) ≡ begins_blank xs
  go [] h = absurd (omega (arith, h.1))
  go (x ∷ xs) h = refl

-- an empty text has no line
pub no_lines : (text : List ℕ) (lines : List (List ℕ)) → AreLines text lines → length text ≡ 0 → lines ≡ []
no_lines text [] a e = refl
no_lines text (line ∷ lines) a e = absurd (omega (arith, e, ap length (first_parts text line lines a), length-append line (13 ∷ 10 ∷ lines_text lines)))

-- the other lines are shorter
split_rest : (text : List ℕ) → 0 < length text → length (split_line text).1 < length text
split_rest text some = go (split_once 13 text) (split_is 13 text) where
  go : (halves : Option (List ℕ × List ℕ)) → IsSplitAt 13 text halves → length (line_and_others text halves).1 < length text
  go None s = some
  go (Some halves) s = omega (arith, ap length s.0, length-append halves.0 (13 ∷ halves.1), length-drop 1 halves.1)

pub split_shorter : (text line rest : List ℕ) → (line, rest) ≡ split_line text → 0 < length text → length rest < length text
split_shorter text line rest split lt = let e : length rest ≡ length (split_line text).1 = ap (λ (p : List ℕ × List ℕ). length p.1) split in omega (arith, e, split_rest text lt)

-- ---- one line more

line_moved : (front line rest : List ℕ) → front ++ (line ++ 13 ∷ 10 ∷ rest) ≡ (front ++ line_text line) ++ rest
line_moved front line rest = simp append_assoc

pub lines_more : (lines : List (List ℕ)) (line : List ℕ) → lines_text (lines ++ line ∷ []) ≡ lines_text lines ++ line_text line
lines_more [] line = append-nil (line_text line)
lines_more (x ∷ lines) line = ap (λ (t : List ℕ). line_text x ++ t) (lines_more lines line) ∙ sym (append_assoc (line_text x) (lines_text lines) (line_text line))

pub each_more : (lines : List (List ℕ)) (line : List ℕ) → AllByRecursion IsLine lines → IsLine line → AllByRecursion IsLine (lines ++ line ∷ [])
each_more [] line each is = (is, tt)
each_more (x ∷ lines) line each is = (each.0, each_more lines line each.1 is)

pub one_line_more : (text : List ℕ) (lines : List (List ℕ)) (left line rest : List ℕ) → BeginsLines text lines left → HasLine left line rest → 0 < length line → BeginsLines text (lines ++ line ∷ []) rest
one_line_more text lines left line rest b h some = record {
  parts = b.parts ∙ ap (λ (t : List ℕ). lines_text lines ++ t) h.parts ∙ line_moved (lines_text lines) line rest ∙ ap (λ (t : List ℕ). t ++ rest) (sym (lines_more lines line));
  each = each_more lines line b.each (h.plain, some);
}

pub one_line_before : (text : List ℕ) (lines : List (List ℕ)) (left line rest : List ℕ) → HasLine text line rest → 0 < length line → BeginsLines rest lines left → BeginsLines text (line ∷ lines) left
one_line_before text lines left line rest h some b = record {
  parts = h.parts ∙ ap (λ (t : List ℕ). line ++ 13 ∷ 10 ∷ t) b.parts ∙ sym (append_assoc line (13 ∷ 10 ∷ []) (lines_text lines ++ left)) ∙ sym (append_assoc (line_text line) (lines_text lines) left);
  each = ((h.plain, some), b.each);
}

-- a text that begins with no empty line has a first line that isn't empty
pub first_some : (text line rest : List ℕ) → ¬ BeginsBlank text → HasLine text line rest → 0 < length line
first_some text line rest not_blank h = go line h.parts where
  go : (xs : List ℕ) → text ≡ xs ++ 13 ∷ 10 ∷ rest → 0 < length xs
  go [] e = absurd (not_blank (subst BeginsBlank (sym e) (refl, refl)))
  go (x ∷ xs) e = omega arith

pub blank_some : (text : List ℕ) → begins_blank text ≡ true → 0 < length text
blank_some [] e = absurd cc
blank_some (x ∷ xs) e = omega arith

pub left_within : (text : List ℕ) (lines : List (List ℕ)) (left : List ℕ) → BeginsLines text lines left → length left ≤ length text
left_within text lines left b = omega (arith, ap length b.parts, length-append (lines_text lines) left)

pub rest_within : (text line rest : List ℕ) → HasLine text line rest → length rest < length text
rest_within text line rest h = omega (arith, ap length h.parts, length-append line (13 ∷ 10 ∷ rest))
