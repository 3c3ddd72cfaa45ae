-- Joining lines is what the second rule says.
use Rattle.std.proofs.Common.{◌≡◌, ℕ, List, [], ◌∷◌, ◌++◌, length, refl, sym, ap, subst, ◌∙◌, inl, inr, Bool, true, false, cond, Result, Ok, Err, nat_lt}
use Rattle.std.specs.List.{list_all, flat_map}
use Rattle.std.proofs.lemmas.Bool.{ltb-false, ltb-true, le-ltb, lt-ltb, and_parts, and_from}
use Rattle.rtsp_text.specs.Results.{◌>>=◌}
use Rattle.rtsp_grammar.specs.Folds.{begins_blank, fold_text, AreJoined, BeginsInFold, FoldRule}
use Rattle.rtsp_grammar.specs.Reading.{folded, unfolded_or_bad, unfolded, unfold_lines}
use Rattle.rtsp_grammar.specs.declared.fault.MessageFault.{MessageFault}
use Rattle.rtsp_grammar.specs.declared.fault.MessageFault.TheVariants.{BadHeader, HeadTooLong}

-- lines that continue the line before them, and then lines that are joined
record Folding (lines : List (List ℕ)) (front : List ℕ) (unfolded_lines : List (List ℕ)) : Type 0 where
  folds : List (List ℕ)
  rest : List (List ℕ)
  parts : lines ≡ folds ++ rest
  continues : list_all begins_blank folds ≡ true
  text : front ≡ flat_map fold_text folds
  joined : AreJoined rest unfolded_lines

abbrev with_line : Bool → List ℕ → List ℕ × List (List ℕ) → List ℕ × List (List ℕ)
with_line b line rest = cond b (fold_text line ++ rest.0, rest.1) ([], (line ++ rest.0) ∷ rest.1)

folding : (lines : List (List ℕ)) → Folding lines (folded lines).0 (folded lines).1
unfolding folded
folding [] = record { folds = []; rest = []; parts = refl; continues = refl; text = refl; joined = refl }
folding (line ∷ lines) = go (begins_blank line) (folding lines) refl where
  go : (b : Bool) → Folding lines (folded lines).0 (folded lines).1 → begins_blank line ≡ b → Folding (line ∷ lines) (with_line b line (folded lines)).0 (with_line b line (folded lines)).1
  go true f e = record {
    folds = line ∷ f.folds;
    rest = f.rest;
    parts = ap (λ (ls : List (List ℕ)). line ∷ ls) f.parts;
    continues = and_from (begins_blank line) (list_all begins_blank f.folds) e f.continues;
    text = ap (λ (t : List ℕ). fold_text line ++ t) f.text;
    joined = f.joined;
  }
  go false f e = record {
    folds = [];
    rest = line ∷ lines;
    parts = refl;
    continues = refl;
    text = refl;
    joined = (f.rest, record { line = line; folds = f.folds; parts = ap (λ (ls : List (List ℕ)). line ∷ ls) f.parts; begins = e; continues = f.continues; joined = ap (λ (t : List ℕ). line ++ t) f.text }, f.joined);
  }

begins_in_fold : (lines : List (List ℕ)) (folds rest : List (List ℕ)) (b : ℕ) (more : List ℕ) → lines ≡ folds ++ rest → list_all begins_blank folds ≡ true → b ∷ more ≡ flat_map fold_text folds → BeginsInFold lines
begins_in_fold lines [] rest b more parts all text = absurd cc
begins_in_fold lines (fold ∷ folds) rest b more parts all text = subst BeginsInFold (sym parts) (and_parts (begins_blank fold) (list_all begins_blank folds) all).0

no_folds : (lines folds rest : List (List ℕ)) → lines ≡ folds ++ rest → [] ≡ flat_map fold_text folds → lines ≡ rest
no_folds lines [] rest parts text = parts
no_folds lines (fold ∷ folds) rest parts text = absurd cc

-- what is read
abbrev Joined : List (List ℕ) → Result (List (List ℕ)) MessageFault → Type 0
Joined lines (Ok unfolded_lines) = AreJoined lines unfolded_lines
Joined lines (Err fault) = (fault ≡ BadHeader) × BeginsInFold lines

joined_is_read : (lines : List (List ℕ)) → Joined lines (unfolded lines)
joined_is_read lines = go (folded lines) (folding lines) where
  go : (r : List ℕ × List (List ℕ)) → Folding lines r.0 r.1 → Joined lines (unfolded_or_bad r)
  go ([], unfolded_lines) f = subst (λ (ls : List (List ℕ)). AreJoined ls unfolded_lines) (sym (no_folds lines f.folds f.rest f.parts f.text)) f.joined
  go (b ∷ more, unfolded_lines) f = (refl, begins_in_fold lines f.folds f.rest b more f.parts f.continues f.text)

pub folds_reads : (lines : List (List ℕ)) → FoldRule lines (unfold_lines lines)
unfolding unfold_lines
folds_reads lines = go (unfolded lines) (joined_is_read lines) where
  limit : (unfolded_lines : List (List ℕ)) (t : Bool) → nat_lt 64 (length unfolded_lines) ≡ t → AreJoined lines unfolded_lines → FoldRule lines (cond t (Err HeadTooLong) (Ok unfolded_lines))
  limit unfolded_lines true e h = inl (refl, record { unfolded_lines = unfolded_lines; joined = h; many = ltb-true _ _ e })
  limit unfolded_lines false e h = (h, ltb-false _ _ e)

  go : (r : Result (List (List ℕ)) MessageFault) → Joined lines r → FoldRule lines (r >>= λ unfolded_lines. cond (nat_lt 64 (length unfolded_lines)) (Err HeadTooLong) (Ok unfolded_lines))
  go (Ok unfolded_lines) h = limit unfolded_lines (nat_lt 64 (length unfolded_lines)) refl h
  go (Err fault) h = inr h

-- ---- lines that are joined

folds_first : (folds rest : List (List ℕ)) (unfolded_lines : List (List ℕ)) → list_all begins_blank folds ≡ true → folded rest ≡ ([], unfolded_lines) → folded (folds ++ rest) ≡ (flat_map fold_text folds, unfolded_lines)
unfolding folded
folds_first [] rest unfolded_lines all e = e
folds_first (fold ∷ folds) rest unfolded_lines all e =
    let s = and_parts (begins_blank fold) (list_all begins_blank folds) all in
    let blank = s.0 in
    let later = folds_first folds rest unfolded_lines s.1 e in
    rw (blank, later) refl

line_first : (line : List ℕ) (lines : List (List ℕ)) (front : List ℕ) (unfolded_lines : List (List ℕ)) → begins_blank line ≡ false → folded lines ≡ (front, unfolded_lines) → folded (line ∷ lines) ≡ ([], (line ++ front) ∷ unfolded_lines)
unfolding folded
line_first line lines front unfolded_lines plain e = rw (plain, e) refl

joined_folded : (lines unfolded_lines : List (List ℕ)) → AreJoined lines unfolded_lines → folded lines ≡ ([], unfolded_lines)
unfolding folded
joined_folded lines [] h = ap folded h
joined_folded lines (unfolded_line ∷ unfolded_lines) h =
    let b = h.1 in
    let later = joined_folded h.0 unfolded_lines h.2 in
    ap folded b.parts ∙ line_first b.line (b.folds ++ h.0) (flat_map fold_text b.folds) unfolded_lines b.begins (folds_first b.folds h.0 unfolded_lines b.continues later) ∙ ap (λ (w : List ℕ). ([], w ∷ unfolded_lines)) (sym b.joined)

fold_front : (lines : List (List ℕ)) → BeginsInFold lines → unfolded lines ≡ Err BadHeader
unfolding folded
fold_front [] h = absurd h
fold_front (line ∷ lines) h = rw h refl

pub folds_only : (lines : List (List ℕ)) (r : Result (List (List ℕ)) MessageFault) → FoldRule lines r → unfold_lines lines ≡ r
unfolding unfold_lines
folds_only lines (Ok unfolded_lines) h =
    let e : unfolded lines ≡ Ok unfolded_lines = ap unfolded_or_bad (joined_folded lines unfolded_lines h.0) in
    let short : nat_lt 64 (length unfolded_lines) ≡ false = le-ltb 64 (length unfolded_lines) h.1 in
    rw (e, short) refl
folds_only lines (Err fault) (inl h) =
    let unfolded_lines = h.1.unfolded_lines in
    let e : unfolded lines ≡ Ok unfolded_lines = ap unfolded_or_bad (joined_folded lines unfolded_lines h.1.joined) in
    let long : nat_lt 64 (length unfolded_lines) ≡ true = lt-ltb 64 (length unfolded_lines) h.1.many in
    let f = sym h.0 in
    rw (e, long) (ap Err f)
folds_only lines (Err fault) (inr h) =
    let e = fold_front lines h.1 in
    let f = sym h.0 in
    rw e (ap Err f)
