-- A text has one first line, and one head.
use Rattle.std.proofs.Common.{◌≡◌, ℕ, zero, suc, ◌⊎◌, List, [], ◌∷◌, ◌++◌, length, refl, sym, ap, subst, ◌∙◌, append_assoc, arith, inl, inr, Bool, true, false, cond, eqb}
use Rattle.std.proofs.lemmas.Bool.{eqb-true, and_parts, not-true, or_parts}
use Rattle.std.specs.List.{list_all, AllByRecursion}
use Rattle.rtsp_text.specs.Bytes.{is_line_byte}
use Rattle.rtsp_text.specs.Line.{IsBroken, IsOpen, BeginsBare}
use Rattle.rtsp_grammar.specs.Lines.{blank_text, line_text, lines_text, IsLine}
use Rattle.rtsp_grammar.specs.Item.{BeginsBlank}

pub data View : Type 0 where
  ended : List ℕ → List ℕ → View
  broken : View
  open_end : View

abbrev pub onto : ℕ → View → View
onto b (ended line rest) = ended (b ∷ line) rest
onto b broken = broken
onto b open_end = open_end

abbrev pub after : List ℕ → View
after [] = open_end
after (c ∷ bytes) = cond (eqb c 10) (ended [] bytes) broken

-- the first line of a text
abbrev pub view : List ℕ → View
view [] = open_end
view (b ∷ bytes) = cond (eqb b 10) broken (cond (eqb b 13) (after bytes) (onto b (view bytes)))

-- a byte of a line goes to the front of what follows
view_plain : (b : ℕ) (bytes : List ℕ) → is_line_byte b ≡ true → view (b ∷ bytes) ≡ onto b (view bytes)
view_plain b bytes e = let n = or_parts (eqb b 13) (eqb b 10) (not-true _ e) in rw (n.1, n.0) refl

pub view_ended : (line rest : List ℕ) → list_all is_line_byte line ≡ true → view (line ++ 13 ∷ 10 ∷ rest) ≡ ended line rest
view_ended [] rest e = refl
view_ended (b ∷ line) rest e =
    let p = and_parts _ _ e in
    view_plain b (line ++ 13 ∷ 10 ∷ rest) p.0 ∙ ap (onto b) (view_ended line rest p.1)

view_bare : (rest : List ℕ) → BeginsBare rest → view rest ≡ broken
view_bare [] h = absurd h
view_bare (b ∷ []) h = rw h refl
view_bare (b ∷ c ∷ rest) (inl h) = rw h refl
view_bare (b ∷ c ∷ rest) (inr h) = go (eqb c 10) refl where
  go : (x : Bool) → eqb c 10 ≡ x → view (b ∷ c ∷ rest) ≡ broken
  go true e = absurd (h.1 (eqb-true c 10 e))
  go false e = rw (h.0, e) refl

pub view_broken : (line rest : List ℕ) → list_all is_line_byte line ≡ true → BeginsBare rest → view (line ++ rest) ≡ broken
view_broken [] rest e bare = view_bare rest bare
view_broken (b ∷ line) rest e bare =
    let p = and_parts _ _ e in
    view_plain b (line ++ rest) p.0 ∙ ap (onto b) (view_broken line rest p.1 bare)

pub view_open : (line rest : List ℕ) → list_all is_line_byte line ≡ true → (rest ≡ []) ⊎ (rest ≡ 13 ∷ []) → view (line ++ rest) ≡ open_end
view_open [] rest e (inl h) = rw h refl
view_open [] rest e (inr h) = rw h refl
view_open (b ∷ line) rest e h =
    let p = and_parts _ _ e in
    view_plain b (line ++ rest) p.0 ∙ ap (onto b) (view_open line rest p.1 h)

pub broken_views : (text : List ℕ) → IsBroken text → view text ≡ broken
broken_views text b = ap view b.parts ∙ view_broken b.line b.rest b.plain b.bare

pub open_views : (text : List ℕ) → IsOpen text → view text ≡ open_end
open_views text o = ap view o.parts ∙ view_open o.line o.rest o.plain o.short

-- what stands after the lines of a head
pub data Final : Type 0 where
  ends_head : List ℕ → Final
  breaks : Final
  stops : Final

abbrev pub IsFinal : Final → List ℕ → Type 0
IsFinal (ends_head rest) text = text ≡ 13 ∷ 10 ∷ rest
IsFinal breaks text = view text ≡ broken
IsFinal stops text = view text ≡ open_end

same_ended : (a b x y : List ℕ) → ended a x ≡ ended b y → (a ≡ b) × (x ≡ y)
same_ended a b x y e = (cc, cc)

-- the text after a first line
one_line : (line rest : List ℕ) → (line ++ 13 ∷ 10 ∷ []) ++ rest ≡ line ++ 13 ∷ 10 ∷ rest
one_line line rest = append_assoc line (13 ∷ 10 ∷ []) rest

lines_cons : (line : List ℕ) (lines : List (List ℕ)) (mid : List ℕ) → lines_text (line ∷ lines) ++ mid ≡ line ++ 13 ∷ 10 ∷ (lines_text lines ++ mid)
lines_cons line lines mid = append_assoc (line_text line) (lines_text lines) mid ∙ one_line line (lines_text lines ++ mid)

final_is_no_line : (f : Final) (line rest mid : List ℕ) → IsFinal f mid → IsLine line → mid ≡ line ++ 13 ∷ 10 ∷ rest → ⊥
final_is_no_line (ends_head r) line rest mid f h e =
    let v : ended [] r ≡ ended line rest = sym (view_ended [] r refl) ∙ ap view (sym f ∙ e) ∙ view_ended line rest h.0 in
    let empty : [] ≡ line = (same_ended [] line r rest v).0 in
    let len = h.1 in
    absurd (omega (arith, ap length empty))
final_is_no_line breaks line rest mid f h e = let v : broken ≡ ended line rest = sym f ∙ ap view e ∙ view_ended line rest h.0 in absurd cc
final_is_no_line stops line rest mid f h e = let v : open_end ≡ ended line rest = sym f ∙ ap view e ∙ view_ended line rest h.0 in absurd cc

-- a text is in one way lines and then what is no line
pub same_lines : (lines others : List (List ℕ)) (mid rest : List ℕ) (f g : Final) → AllByRecursion IsLine lines → AllByRecursion IsLine others → IsFinal f mid → IsFinal g rest
    → lines_text lines ++ mid ≡ lines_text others ++ rest → (lines ≡ others) × (mid ≡ rest)
same_lines [] [] mid rest f g a b p q e = (refl, e)
same_lines [] (line ∷ others) mid rest f g a b p q e = absurd (final_is_no_line f line (lines_text others ++ rest) mid p b.0 (e ∙ lines_cons line others rest))
same_lines (line ∷ lines) [] mid rest f g a b p q e = absurd (final_is_no_line g line (lines_text lines ++ mid) rest q a.0 (sym e ∙ lines_cons line lines mid))
same_lines (line ∷ lines) (other ∷ others) mid rest f g a b p q e =
    let v : ended line (lines_text lines ++ mid) ≡ ended other (lines_text others ++ rest) = sym (view_ended line (lines_text lines ++ mid) a.0.0) ∙ ap view (sym (lines_cons line lines mid) ∙ e ∙ lines_cons other others rest) ∙ view_ended other (lines_text others ++ rest) b.0.0 in
    let s = same_ended line other (lines_text lines ++ mid) (lines_text others ++ rest) v in
    let t = same_lines lines others mid rest f g a.1 b.1 p q s.1 in
    (ap (λ (x : List ℕ). x ∷ lines) s.0 ∙ ap (λ (xs : List (List ℕ)). other ∷ xs) t.0, t.1)

same_two : (a b : ℕ) (xs ys : List ℕ) → a ∷ b ∷ xs ≡ a ∷ b ∷ ys → xs ≡ ys
same_two a b xs ys e = cc

begins : (text rest : List ℕ) → text ≡ 13 ∷ 10 ∷ rest → BeginsBlank text
begins text rest e = subst BeginsBlank (sym e) (refl, refl)

-- and in one way empty lines and then no empty line
pub same_blank : (k n : ℕ) (xs ys : List ℕ) → ¬ BeginsBlank xs → ¬ BeginsBlank ys → blank_text k ++ xs ≡ blank_text n ++ ys → (k ≡ n) × (xs ≡ ys)
same_blank zero zero xs ys p q e = (refl, e)
same_blank zero (suc n) xs ys p q e = absurd (p (begins xs (blank_text n ++ ys) e))
same_blank (suc k) zero xs ys p q e = absurd (q (begins ys (blank_text k ++ xs) (sym e)))
same_blank (suc k) (suc n) xs ys p q e =
    let s = same_blank k n xs ys p q (same_two 13 10 (blank_text k ++ xs) (blank_text n ++ ys) e) in
    (ap suc s.0, s.1)
