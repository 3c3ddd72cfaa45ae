-- Lines with those that continue them, as they are read from the front of a text.
use Rattle.std.proofs.Common.{◌≡◌, ℕ, ◌+◌, ◌<◌, ◌≤◌, List, [], ◌∷◌, ◌++◌, length, refl, sym, ap, subst, ◌∙◌, append_assoc, Bool, true, false, cond, Result, Ok, Err, nat_lt, arith}
use Rattle.std.proofs.lemmas.Bool.{le-ltb, lt-ltb, both_ways}
use Rattle.std.proofs.lemmas.List.{append-nil}
use Rattle.rtsp_text.specs.Trim.{trim_start}
use Rattle.rtsp_text.specs.Results.{◌>>=◌}
use Rattle.rtsp_grammar.specs.Folds.{begins_blank, fold_text}
use Rattle.rtsp_grammar.specs.HeaderSteps.{Unfolds}
use Rattle.rtsp_grammar.specs.Lines.{AreLines}
use Rattle.rtsp_grammar.specs.Reading.{split_line, folded, after_folds, unfolded_or_bad, unfolded, unfold_lines, headers_of, header_lines_of}
use Rattle.rtsp_grammar.specs.declared.fault.MessageFault.{MessageFault}
use Rattle.rtsp_grammar.specs.declared.fault.MessageFault.TheVariants.{BadHeader, HeadTooLong}
use Rattle.rtsp_grammar.proofs.LinesLemmas.{begins_same, first_line, other_lines}

-- ---- one line

pub folded_line : (line : List ℕ) (lines : List (List ℕ)) → begins_blank line ≡ false → folded (line ∷ lines) ≡ ([], (line ++ (folded lines).0) ∷ (folded lines).1)
unfolding folded
folded_line line lines plain = rw plain refl

pub folded_fold : (line : List ℕ) (lines : List (List ℕ)) → begins_blank line ≡ true → folded (line ∷ lines) ≡ (fold_text line ++ (folded lines).0, (folded lines).1)
unfolding folded
folded_fold line lines blank = rw blank refl

pub after_fold : (line : List ℕ) (lines : List (List ℕ)) → begins_blank line ≡ true → after_folds (line ∷ lines) ≡ after_folds lines
unfolding after_folds
after_fold line lines blank = rw blank refl

pub after_line : (line : List ℕ) (lines : List (List ℕ)) → begins_blank line ≡ false → after_folds (line ∷ lines) ≡ line ∷ lines
unfolding after_folds
after_line line lines plain = rw plain refl

pub after_none : after_folds [] ≡ []
unfolding after_folds
after_none = refl

pub folded_none : folded [] ≡ ([], [])
unfolding folded
folded_none = refl

-- ---- lines after those that continue the line before

-- nothing continues a line there
pub after_plain : (lines : List (List ℕ)) → (folded (after_folds lines)).0 ≡ []
unfolding folded after_folds
after_plain [] = refl
after_plain (line ∷ lines) = go (begins_blank line) refl (after_plain lines) where
  go : (b : Bool) → begins_blank line ≡ b → (folded (after_folds lines)).0 ≡ [] → (folded (cond b (after_folds lines) (line ∷ lines))).0 ≡ []
  go true e later = later
  go false e later = ap (λ (r : List ℕ × List (List ℕ)). r.0) (folded_line line lines e)

-- and the lines with what continues them are the same
pub after_same : (lines : List (List ℕ)) → (folded (after_folds lines)).1 ≡ (folded lines).1
unfolding folded after_folds
after_same [] = refl
after_same (line ∷ lines) = go (begins_blank line) refl (after_same lines) where
  go : (b : Bool) → begins_blank line ≡ b → (folded (after_folds lines)).1 ≡ (folded lines).1 → (folded (cond b (after_folds lines) (line ∷ lines))).1 ≡ (folded (line ∷ lines)).1
  go true e later = later ∙ sym (ap (λ (r : List ℕ × List (List ℕ)). r.1) (folded_fold line lines e))
  go false e later = refl

-- a line that nothing is continued by continues none
pub is_plain : (line : List ℕ) (lines : List (List ℕ)) → (folded (line ∷ lines)).0 ≡ [] → begins_blank line ≡ false
unfolding folded
is_plain line lines none = go (begins_blank line) refl where
  go : (b : Bool) → begins_blank line ≡ b → b ≡ false
  go true e = let front : fold_text line ++ (folded lines).0 ≡ [] = sym (ap (λ (r : List ℕ × List (List ℕ)). r.0) (folded_fold line lines e)) ∙ none in absurd cc
  go false e = refl

-- ---- a loop over the lines that continue one

-- what some of the lines continue a line with was added, and these lines are left
pub record IsUnfolding (old new : List ℕ) (lines : List (List ℕ)) (left : List ℕ) : Type 0 where
  pub more : List (List ℕ)
  pub are : AreLines left more
  pub text : new ++ (folded more).0 ≡ old ++ (folded lines).0
  pub after : after_folds more ≡ after_folds lines

pub unfolding_starts : (text line : List ℕ) (lines : List (List ℕ)) → AreLines text lines → IsUnfolding line line lines text
unfolding_starts text line lines a = record { more = lines; are = a; text = refl; after = refl }

moved : (a b c : List ℕ) → ((a ++ 32 ∷ []) ++ b) ++ c ≡ a ++ (32 ∷ b ++ c)
moved a b c = simp append_assoc

one_fold_more : (old new newer : List ℕ) (lines : List (List ℕ)) (left : List ℕ) → IsUnfolding old new lines left → begins_blank left ≡ true → newer ≡ (new ++ 32 ∷ []) ++ trim_start (split_line left).0 → IsUnfolding old newer lines (split_line left).1
one_fold_more old new newer lines left u blank n = go u.more u.are u.text u.after where
  go : (more : List (List ℕ)) → AreLines left more → new ++ (folded more).0 ≡ old ++ (folded lines).0 → after_folds more ≡ after_folds lines → IsUnfolding old newer lines (split_line left).1
  go [] a text after = absurd (both_ways (begins_blank left) (ap begins_blank a.parts) blank)
  go (line ∷ more) a text after =
      let fold : begins_blank line ≡ true = sym (begins_same left line more a) ∙ blank in
      let e = folded_fold line more fold in
      record {
        more = more;
        are = other_lines left line more a;
        text = ap (λ (t : List ℕ). t ++ (folded more).0) (n ∙ ap (λ (l : List ℕ). (new ++ 32 ∷ []) ++ trim_start l) (first_line left line more a)) ∙ moved new (trim_start line) (folded more).0 ∙ ap (λ (r : List ℕ × List (List ℕ)). new ++ r.0) (sym e) ∙ text;
        after = sym (after_fold line more fold) ∙ after;
      }

pub unfolding_goes_on : (old new newer : List ℕ) (lines : List (List ℕ)) (left fold rest : List ℕ) → IsUnfolding old new lines left → begins_blank left ≡ true → (fold, rest) ≡ split_line left → newer ≡ (new ++ 32 ∷ []) ++ trim_start fold → IsUnfolding old newer lines rest
unfolding_goes_on old new newer lines left fold rest u blank split n = subst (IsUnfolding old newer lines) (sym (ap (λ (p : List ℕ × List ℕ). p.1) split)) (one_fold_more old new newer lines left u blank (n ∙ ap (λ (p : List ℕ × List ℕ). (new ++ 32 ∷ []) ++ trim_start p.0) split))

pub unfolding_ends : (old new : List ℕ) (lines : List (List ℕ)) (left : List ℕ) → IsUnfolding old new lines left → begins_blank left ≡ false → Unfolds old new lines left
unfolding_ends old new lines left u plain = go u.more u.are u.text u.after where
  go : (more : List (List ℕ)) → AreLines left more → new ++ (folded more).0 ≡ old ++ (folded lines).0 → after_folds more ≡ after_folds lines → Unfolds old new lines left
  go [] a text after = (sym (append-nil new) ∙ ap (λ (r : List ℕ × List (List ℕ)). new ++ r.0) (sym folded_none) ∙ text, subst (AreLines left) (sym after_none ∙ after) a)
  go (line ∷ more) a text after =
      let is : begins_blank line ≡ false = sym (begins_same left line more a) ∙ plain in
      (sym (append-nil new) ∙ ap (λ (r : List ℕ × List (List ℕ)). new ++ r.0) (sym (folded_line line more is)) ∙ text, subst (AreLines left) (sym (after_line line more is) ∙ after) a)

-- ---- a line with what continues it

-- a line that nothing continues
pub line_alone : (text line rest l : List ℕ) (ls : List (List ℕ)) → (line, rest) ≡ split_line text → AreLines text (l ∷ ls) → begins_blank rest ≡ false → (line ≡ l ++ (folded ls).0) × AreLines rest (after_folds ls)
line_alone text line rest l ls split a plain =
    let first : line ≡ l = ap (λ (p : List ℕ × List ℕ). p.0) split ∙ first_line text l ls a in
    let others : AreLines rest ls = subst (λ (t : List ℕ). AreLines t ls) (sym (ap (λ (p : List ℕ × List ℕ). p.1) split)) (other_lines text l ls a) in
    let u = unfolding_ends line line ls rest (unfolding_starts rest line ls others) plain in
    (u.0 ∙ ap (λ (t : List ℕ). t ++ (folded ls).0) first, u.1)

-- and one that was unfolded
pub line_joined : (text line rest l joined left : List ℕ) (ls : List (List ℕ)) → (line, rest) ≡ split_line text → AreLines text (l ∷ ls) → (AreLines rest ls → Unfolds line joined ls left) → (joined ≡ l ++ (folded ls).0) × AreLines left (after_folds ls)
line_joined text line rest l joined left ls split a unfolds =
    let first : line ≡ l = ap (λ (p : List ℕ × List ℕ). p.0) split ∙ first_line text l ls a in
    let u = unfolds (subst (λ (t : List ℕ). AreLines t ls) (sym (ap (λ (p : List ℕ × List ℕ). p.1) split)) (other_lines text l ls a)) in
    (u.0 ∙ ap (λ (t : List ℕ). t ++ (folded ls).0) first, u.1)

-- ---- how many

pub count_plain : (lines : List (List ℕ)) (line : List ℕ) → begins_blank line ≡ false → length (folded (lines ++ line ∷ [])).1 ≡ length (folded lines).1 + 1
unfolding folded
count_plain [] line plain = ap (λ (r : List ℕ × List (List ℕ)). length r.1) (folded_line line [] plain)
count_plain (x ∷ lines) line plain = go (begins_blank x) refl (count_plain lines line plain) where
  go : (b : Bool) → begins_blank x ≡ b → length (folded (lines ++ line ∷ [])).1 ≡ length (folded lines).1 + 1 → length (folded (x ∷ (lines ++ line ∷ []))).1 ≡ length (folded (x ∷ lines)).1 + 1
  go true e later = ap (λ (r : List ℕ × List (List ℕ)). length r.1) (folded_fold x (lines ++ line ∷ []) e) ∙ later ∙ sym (ap (λ (r : List ℕ × List (List ℕ)). length r.1 + 1) (folded_fold x lines e))
  go false e later = ap (λ (r : List ℕ × List (List ℕ)). length r.1) (folded_line x (lines ++ line ∷ []) e) ∙ omega (arith, later) ∙ sym (ap (λ (r : List ℕ × List (List ℕ)). length r.1 + 1) (folded_line x lines e))

pub count_fold : (lines : List (List ℕ)) (line : List ℕ) → begins_blank line ≡ true → length (folded (lines ++ line ∷ [])).1 ≡ length (folded lines).1
unfolding folded
count_fold [] line blank = ap (λ (r : List ℕ × List (List ℕ)). length r.1) (folded_fold line [] blank)
count_fold (x ∷ lines) line blank = go (begins_blank x) refl (count_fold lines line blank) where
  go : (b : Bool) → begins_blank x ≡ b → length (folded (lines ++ line ∷ [])).1 ≡ length (folded lines).1 → length (folded (x ∷ (lines ++ line ∷ []))).1 ≡ length (folded (x ∷ lines)).1
  go true e later = ap (λ (r : List ℕ × List (List ℕ)). length r.1) (folded_fold x (lines ++ line ∷ []) e) ∙ later ∙ sym (ap (λ (r : List ℕ × List (List ℕ)). length r.1) (folded_fold x lines e))
  go false e later = ap (λ (r : List ℕ × List (List ℕ)). length r.1) (folded_line x (lines ++ line ∷ []) e) ∙ omega (arith, later) ∙ sym (ap (λ (r : List ℕ × List (List ℕ)). length r.1) (folded_line x lines e))

-- ---- the whole

both_parts : (r : List ℕ × List (List ℕ)) → r.0 ≡ [] → r ≡ ([], r.1)
both_parts (front, lines) e = ap (λ (f : List ℕ). (f, lines)) e

pub no_fold : (lines : List (List ℕ)) → (folded lines).0 ≡ [] → unfolded lines ≡ Ok (folded lines).1
no_fold lines none = ap unfolded_or_bad (both_parts (folded lines) none)

pub read_folded : (lines : List (List ℕ)) → (folded lines).0 ≡ [] → length (folded lines).1 ≤ 64 → header_lines_of lines ≡ headers_of (folded lines).1
unfolding header_lines_of unfold_lines
read_folded lines none few =
    let e = no_fold lines none in
    let short : nat_lt 64 (length (folded lines).1) ≡ false = le-ltb 64 (length (folded lines).1) few in
    ap (λ (r : Result (List (List ℕ)) MessageFault). (r >>= λ unfolded_lines. cond (nat_lt 64 (length unfolded_lines)) (Err HeadTooLong) (Ok unfolded_lines)) >>= headers_of) e ∙ rw short refl

pub too_many : (lines : List (List ℕ)) → (folded lines).0 ≡ [] → 64 < length (folded lines).1 → header_lines_of lines ≡ Err HeadTooLong
unfolding header_lines_of unfold_lines
too_many lines none many =
    let e = no_fold lines none in
    let long : nat_lt 64 (length (folded lines).1) ≡ true = lt-ltb 64 (length (folded lines).1) many in
    ap (λ (r : Result (List (List ℕ)) MessageFault). (r >>= λ unfolded_lines. cond (nat_lt 64 (length unfolded_lines)) (Err HeadTooLong) (Ok unfolded_lines)) >>= headers_of) e ∙ rw long refl

pub first_continues : (line : List ℕ) (lines : List (List ℕ)) → begins_blank line ≡ true → header_lines_of (line ∷ lines) ≡ Err BadHeader
unfolding header_lines_of unfold_lines
first_continues line lines blank =
    let e : unfolded (line ∷ lines) ≡ Err BadHeader = ap unfolded_or_bad (folded_fold line lines blank) in
    ap (λ (r : Result (List (List ℕ)) MessageFault). (r >>= λ unfolded_lines. cond (nat_lt 64 (length unfolded_lines)) (Err HeadTooLong) (Ok unfolded_lines)) >>= headers_of) e
