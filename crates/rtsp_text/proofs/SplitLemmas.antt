-- A text split at the first place of a byte.
use Rattle.std.proofs.Common.{◌≡◌, ℕ, ◌+◌, ◌-◌, ◌<◌, ◌≤◌, Bool, true, false, eqb, List, [], ◌∷◌, ◌++◌, length, get_or, take, drop, refl, sym, ap, subst, ◌∙◌, Option, Some, None}
use Rattle.std.specs.List.{list_all}
use Rattle.std.proofs.lemmas.Bool.{eqb-true, and_parts, and_from, not-true}
use Rattle.std.proofs.lemmas.List.{take-append-drop, drop_more, take_rest, take_all}
use Rattle.rtsp_text.specs.Bytes.{is_other}
use Rattle.rtsp_text.specs.SplitOnce.{split_once, IsSplitAt}
use Rattle.rtsp_text.proofs.ByteLemmas.{eqb_same}

pub split_found : (byte : ℕ) (front rest : List ℕ) → list_all (is_other byte) front ≡ true → split_once byte (front ++ byte ∷ rest) ≡ Some (front, rest)
split_found byte [] rest h = rw (eqb_same byte) refl
split_found byte (b ∷ front) rest h =
    let p = and_parts _ _ h in
    let e = split_found byte front rest p.1 in
    rw (not-true _ p.0, e) refl

pub split_missed : (byte : ℕ) (front : List ℕ) → list_all (is_other byte) front ≡ true → split_once byte front ≡ None
split_missed byte [] h = refl
split_missed byte (b ∷ front) h =
    let p = and_parts _ _ h in
    let e = split_missed byte front p.1 in
    rw (not-true _ p.0, e) refl

pub split_at_index : (byte : ℕ) (bytes : List ℕ) (i : ℕ) → i < length bytes → list_all (is_other byte) (take i bytes) ≡ true → get_or bytes i 0 ≡ byte → split_once byte bytes ≡ Some (take i bytes, take (length bytes - (i + 1)) (drop (i + 1) bytes))
split_at_index byte bytes i lt h e =
    let parts : bytes ≡ take i bytes ++ (byte ∷ drop (i + 1) bytes) = sym (take-append-drop i bytes) ∙ ap (λ (r : List ℕ). take i bytes ++ r) (drop_more bytes i 0 lt) ∙ ap (λ (b : ℕ). take i bytes ++ (b ∷ drop (i + 1) bytes)) e in
    ap (split_once byte) parts ∙ split_found byte (take i bytes) (drop (i + 1) bytes) h ∙ ap (λ (r : List ℕ). Some (take i bytes, r)) (sym (take_rest bytes (i + 1)))

pub split_nowhere : (byte : ℕ) (bytes : List ℕ) (i : ℕ) → length bytes ≤ i → list_all (is_other byte) (take i bytes) ≡ true → split_once byte bytes ≡ None
split_nowhere byte bytes i le h = split_missed byte bytes (rw (take_all i bytes le) at h)

-- what a split says of the text
pub split_is : (byte : ℕ) (bytes : List ℕ) → IsSplitAt byte bytes (split_once byte bytes)
split_is byte [] = refl
split_is byte (b ∷ bytes) = go (eqb b byte) refl (split_once byte bytes) (split_is byte bytes) refl where
  go : (x : Bool) → eqb b byte ≡ x → (r : Option (List ℕ × List ℕ)) → IsSplitAt byte bytes r → split_once byte bytes ≡ r → IsSplitAt byte (b ∷ bytes) (split_once byte (b ∷ bytes))
  go true e r h s = rw e (ap (λ (x : ℕ). x ∷ bytes) (eqb-true b byte e), refl)
  go false e None h s = rw (e, s) (rw (e, h) refl)
  go false e (Some p) h s = rw (e, s) (ap (λ (xs : List ℕ). b ∷ xs) h.0, and_from (is_other byte b) (list_all (is_other byte) p.0) (rw e refl) h.1)

pub split_parts : (byte : ℕ) (text : List ℕ) (p : List ℕ × List ℕ) → split_once byte text ≡ Some p → (text ≡ p.0 ++ byte ∷ p.1) × (list_all (is_other byte) p.0 ≡ true)
split_parts byte text p e = subst (λ (r : Option (List ℕ × List ℕ)). IsSplitAt byte text r) e (split_is byte text)
