-- Where the first part of a text ends.
use Rattle.std.proofs.Common.{◌≡◌, ℕ, ◌+◌, ◌-◌, ◌<◌, Bool, true, false, eqb, List, [], ◌∷◌, ◌++◌, length, get_or, take, drop, refl, sym, ap, subst, ◌∙◌, arith}
use Rattle.std.specs.Prelude.{not, ◌&&◌, Option, Some, None}
use Rattle.std.specs.List.{list_all}
use Rattle.std.proofs.lemmas.Bool.{and_parts, not-true}
use Rattle.std.proofs.lemmas.List.{append-nil, drop_all, drop_more, take_all, length-drop, length-append}
use Rattle.rtsp_text.specs.Bytes.{is_other}
use Rattle.rtsp_text.specs.SplitOnce.{split_once, IsSplitAt}
use Rattle.rtsp_text.proofs.ByteLemmas.{eqb_same}
use Rattle.rtsp_text.proofs.SplitLemmas.{split_is, split_parts}
use Rattle.rtsp_transport.specs.Split.{onto_first, split}
use Rattle.rtsp_transport.proofs.PartsLemmas.{nil_split}
use Rattle.rtsp_transport.proofs.SplitLemmas.{Splits, split_quote, split_separator, split_plain}

pub cut_here : (text : List ℕ) (i : ℕ) (inside : Bool) (separator : ℕ) → i < length text → eqb (get_or text i 0) 34 ≡ false → (eqb (get_or text i 0) separator && not inside) ≡ true
    → Splits text i inside separator → split false separator text ≡ take i text ∷ split false separator (take (length text - (i + 1)) (drop (i + 1) text))
cut_here text i inside separator lt e s so_far =
    let whole : take (length text - (i + 1)) (drop (i + 1) text) ≡ drop (i + 1) text = take_all (length text - (i + 1)) (drop (i + 1) text) (omega (arith, length-drop (i + 1) text)) in
    sym so_far
    ∙ ap (λ (r : List ℕ). onto_first (take i text) (split inside separator r)) (drop_more text i 0 lt)
    ∙ ap (onto_first (take i text)) (split_separator inside separator (get_or text i 0) (drop (i + 1) text) e s)
    ∙ ap (λ (p : List ℕ). p ∷ split false separator (drop (i + 1) text)) (append-nil (take i text))
    ∙ ap (λ (r : List ℕ). take i text ∷ split false separator r) (sym whole)

pub cut_nowhere : (text : List ℕ) (i : ℕ) (inside : Bool) (separator : ℕ) → i ≡ length text → Splits text i inside separator → split false separator text ≡ text ∷ []
cut_nowhere text i inside separator e so_far =
    sym so_far
    ∙ ap (λ (r : List ℕ). onto_first (take i text) (split inside separator r)) (drop_all i text (omega arith))
    ∙ ap (onto_first (take i text)) (nil_split inside separator)
    ∙ ap (λ (p : List ℕ). p ∷ []) (append-nil (take i text) ∙ take_all i text (omega arith))

-- ---- texts without quotes

whole : (inside : Bool) (separator : ℕ) (text : List ℕ) → list_all (is_other separator) text ≡ true → split inside separator text ≡ text ∷ []
whole inside separator [] h = nil_split inside separator
whole inside separator (b ∷ bytes) h =
    let s = and_parts (is_other separator b) (list_all (is_other separator) bytes) h in
    go (eqb b 34) refl (not-true (eqb b separator) s.0) (λ i. whole i separator bytes s.1) where
      go : (x : Bool) → eqb b 34 ≡ x → eqb b separator ≡ false → ((i : Bool) → split i separator bytes ≡ bytes ∷ []) → split inside separator (b ∷ bytes) ≡ (b ∷ bytes) ∷ []
      go true q n again = split_quote inside separator b bytes q ∙ ap (onto_first (b ∷ [])) (again (not inside))
      go false q n again = split_plain inside separator b bytes q (ap (λ (x : Bool). x && not inside) n) ∙ ap (onto_first (b ∷ [])) (again inside)

plainly : (separator : ℕ) (front rest : List ℕ) → eqb separator 34 ≡ false → list_all (is_other separator) front ≡ true → list_all (is_other 34) front ≡ true
    → split false separator (front ++ separator ∷ rest) ≡ front ∷ split false separator rest
plainly separator [] rest n h q = split_separator false separator separator rest n (ap (λ (x : Bool). x && true) (eqb_same separator))
plainly separator (b ∷ bytes) rest n h q =
    let s = and_parts (is_other separator b) (list_all (is_other separator) bytes) h in
    let t = and_parts (is_other 34 b) (list_all (is_other 34) bytes) q in
    split_plain false separator b (bytes ++ separator ∷ rest) (not-true (eqb b 34) t.0) (ap (λ (x : Bool). x && true) (not-true (eqb b separator) s.0))
    ∙ ap (onto_first (b ∷ [])) (plainly separator bytes rest n s.1 t.1)

none_of : (byte : ℕ) (text : List ℕ) → split_once byte text ≡ None → list_all (is_other byte) text ≡ true
none_of byte text e = subst (λ (r : Option (List ℕ × List ℕ)). IsSplitAt byte text r) e (split_is byte text)

pub uncut : (separator : ℕ) (text : List ℕ) → split_once separator text ≡ None → split false separator text ≡ text ∷ []
uncut separator text e = whole false separator text (none_of separator text e)

pub cut_plainly : (separator : ℕ) (text front rest : List ℕ) → eqb separator 34 ≡ false → split_once separator text ≡ Some (front, rest) → split_once 34 front ≡ None
    → split false separator text ≡ front ∷ split false separator rest
cut_plainly separator text front rest n e q =
    let p = split_parts separator text (front, rest) e in
    ap (split false separator) p.0 ∙ plainly separator front rest n p.1 (none_of 34 front q)

pub cut_shorter : (separator : ℕ) (text front rest : List ℕ) → split_once separator text ≡ Some (front, rest) → length rest < length text
cut_shorter separator text front rest e =
    let p = split_parts separator text (front, rest) e in
    omega (arith, ap length p.0, length-append front (separator ∷ rest))
