-- Empty lines at the front.
use Rattle.std.proofs.Common.{◌≡◌, ℕ, zero, suc, ◌+◌, ◌*◌, ◌<◌, List, ◌∷◌, ◌++◌, length, get_or, drop, refl, ap, ◌∙◌, arith}
use Rattle.std.proofs.lemmas.List.{drop_more}
use Rattle.rtsp_grammar.specs.Lines.{blank_text}
use Rattle.rtsp_grammar.specs.Item.{IsBlank}

pub blank_more : (k : ℕ) (rest : List ℕ) → blank_text k ++ 13 ∷ 10 ∷ rest ≡ blank_text (suc k) ++ rest
blank_more zero rest = refl
blank_more (suc k) rest = ap (λ (r : List ℕ). 13 ∷ 10 ∷ r) (blank_more k rest)

pub two_at : (text : List ℕ) (n : ℕ) → n + 1 < length text → drop n text ≡ get_or text n 0 ∷ get_or text (n + 1) 0 ∷ drop (n + 2) text
two_at text n lt =
    let first : n < length text = omega arith in
    drop_more text n 0 first ∙ ap (λ (r : List ℕ). get_or text n 0 ∷ r) (drop_more text (n + 1) 0 lt ∙ ap (λ (k : ℕ). get_or text (n + 1) 0 ∷ drop k text) (omega arith))

pub one_blank_more : (text : List ℕ) (n : ℕ) → IsBlank text n → n + 1 < length text → get_or text n 0 ≡ 13 → get_or text (n + 1) 0 ≡ 10 → IsBlank text (n + 2)
one_blank_more text n b lt p q = record {
  count = suc b.count;
  twice = omega (arith, b.twice);
  parts = b.parts ∙ ap (λ (r : List ℕ). blank_text b.count ++ r) (two_at text n lt ∙ ap (λ (x : ℕ). x ∷ get_or text (n + 1) 0 ∷ drop (n + 2) text) p ∙ ap (λ (x : ℕ). 13 ∷ x ∷ drop (n + 2) text) q) ∙ blank_more b.count (drop (n + 2) text);
  within = omega arith;
}

pub length-blank_text : (k : ℕ) → length (blank_text k) ≡ 2 * k
length-blank_text zero = refl
length-blank_text (suc k) = let e = length-blank_text k in omega arith
