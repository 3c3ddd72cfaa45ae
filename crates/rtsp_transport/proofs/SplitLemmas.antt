-- Splitting a text from left to right.
use Rattle.std.proofs.Common.{◌≡◌, ℕ, ◌+◌, ◌<◌, Bool, true, false, cond, eqb, List, [], ◌∷◌, ◌++◌, length, get_or, take, drop, refl, sym, ap, ◌∙◌, append_assoc, eq-eqb}
use Rattle.std.specs.Prelude.{not, ◌&&◌}
use Rattle.std.proofs.lemmas.Bool.{ne_eqb}
use Rattle.std.proofs.Math.Bool.{and-false}
use Rattle.std.proofs.lemmas.List.{drop_more, take_more}
use Rattle.rtsp_transport.specs.Split.{onto_first, split}

onto_onto : (xs : List ℕ) (b : ℕ) (parts : List (List ℕ)) → onto_first xs (onto_first (b ∷ []) parts) ≡ onto_first (xs ++ b ∷ []) parts
onto_onto xs b [] = refl
onto_onto xs b (part ∷ parts) = ap (λ (p : List ℕ). p ∷ parts) (sym (append_assoc xs (b ∷ []) part))

-- a split at each kind of byte
pub split_quote : (inside : Bool) (separator b : ℕ) (bytes : List ℕ) → eqb b 34 ≡ true → split inside separator (b ∷ bytes) ≡ onto_first (b ∷ []) (split (not inside) separator bytes)
unfolding split
split_quote inside separator b bytes e = rw e refl

pub split_separator : (inside : Bool) (separator b : ℕ) (bytes : List ℕ) → eqb b 34 ≡ false → (eqb b separator && not inside) ≡ true → split inside separator (b ∷ bytes) ≡ [] ∷ split false separator bytes
unfolding split
split_separator inside separator b bytes e s = rw (e, s) refl

pub split_plain : (inside : Bool) (separator b : ℕ) (bytes : List ℕ) → eqb b 34 ≡ false → (eqb b separator && not inside) ≡ false → split inside separator (b ∷ bytes) ≡ onto_first (b ∷ []) (split inside separator bytes)
unfolding split
split_plain inside separator b bytes e s = rw (e, s) refl

pub onto_nothing : (inside : Bool) (separator : ℕ) (bytes : List ℕ) → onto_first [] (split inside separator bytes) ≡ split inside separator bytes
unfolding split
onto_nothing inside separator [] = refl
onto_nothing inside separator (b ∷ bytes) = go (eqb b 34) (eqb b separator && not inside) where
  go : (x y : Bool) → onto_first [] (cond x (onto_first (b ∷ []) (split (not inside) separator bytes)) (cond y ([] ∷ split false separator bytes) (onto_first (b ∷ []) (split inside separator bytes))))
      ≡ cond x (onto_first (b ∷ []) (split (not inside) separator bytes)) (cond y ([] ∷ split false separator bytes) (onto_first (b ∷ []) (split inside separator bytes)))
  go true y = onto_onto [] b (split (not inside) separator bytes)
  go false true = refl
  go false false = onto_onto [] b (split inside separator bytes)

-- ---- a loop over the bytes of the first part

-- what was read of the first part, and what is left
abbrev pub Splits : List ℕ → ℕ → Bool → ℕ → Type 0
Splits text i inside separator = onto_first (take i text) (split inside separator (drop i text)) ≡ split false separator text

goes_on : (text : List ℕ) (i : ℕ) (inside next : Bool) (separator : ℕ) → i < length text
    → split inside separator (get_or text i 0 ∷ drop (i + 1) text) ≡ onto_first (get_or text i 0 ∷ []) (split next separator (drop (i + 1) text))
    → Splits text i inside separator → Splits text (i + 1) next separator
goes_on text i inside next separator lt e so_far =
    ap (λ (p : List ℕ). onto_first p (split next separator (drop (i + 1) text))) (take_more text i 0 lt)
    ∙ sym (onto_onto (take i text) (get_or text i 0) (split next separator (drop (i + 1) text))) ∙ ap (onto_first (take i text)) (sym e)
    ∙ ap (λ (r : List ℕ). onto_first (take i text) (split inside separator r)) (sym (drop_more text i 0 lt)) ∙ so_far

pub on_quote : (text : List ℕ) (i : ℕ) (inside next : Bool) (separator : ℕ) → i < length text → get_or text i 0 ≡ 34 → next ≡ not inside
    → Splits text i inside separator → Splits text (i + 1) next separator
on_quote text i inside next separator lt e n so_far =
    rw n (goes_on text i inside (not inside) separator lt (split_quote inside separator (get_or text i 0) (drop (i + 1) text) (eq-eqb (get_or text i 0) 34 e)) so_far)

pub on_plain : (text : List ℕ) (i : ℕ) (inside : Bool) (separator : ℕ) → i < length text → eqb (get_or text i 0) 34 ≡ false → (eqb (get_or text i 0) separator && not inside) ≡ false
    → Splits text i inside separator → Splits text (i + 1) inside separator
on_plain text i inside separator lt e s so_far =
    goes_on text i inside inside separator lt (split_plain inside separator (get_or text i 0) (drop (i + 1) text) e s) so_far

pub separates : (b separator : ℕ) (inside : Bool) → b ≡ separator → inside ≡ false → (eqb b separator && not inside) ≡ true
separates b separator inside e n = rw (eq-eqb b separator e, n) refl

pub in_quotes : (b separator : ℕ) (inside : Bool) → inside ≡ true → (eqb b separator && not inside) ≡ false
in_quotes b separator inside n = rw n (and-false (eqb b separator))

pub no_separator : (b separator : ℕ) (inside : Bool) → (b ≡ separator → ⊥) → (eqb b separator && not inside) ≡ false
no_separator b separator inside ne = rw (ne_eqb b separator ne) refl
