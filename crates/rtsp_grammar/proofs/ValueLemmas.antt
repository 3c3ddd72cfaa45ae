-- The values of a name, header by header.
use Rattle.std.proofs.Common.{◌≡◌, ℕ, zero, suc, ◌+◌, ◌-◌, ◌≤◌, List, [], ◌∷◌, length, drop, refl, ap, ◌∙◌, arith, Bool, true, false, cond, slice_get, Some}
use Rattle.std.proofs.lemmas.List.{drop_all}
use Rattle.rtsp_grammar.specs.Header.{HeaderText, is_named, values_of}
use Rattle.rtsp_grammar.proofs.PlaceLemmas.{drop_by}

values_cons : (name : List ℕ) (h : HeaderText) (hs : List HeaderText) (b : Bool) → is_named h.name name ≡ b → values_of name (h ∷ hs) ≡ cond b (h.value ∷ values_of name hs) (values_of name hs)
unfolding values_of
values_cons name h hs b e = rw e refl

values_at : (name : List ℕ) (hs : List HeaderText) (i : ℕ) (h : HeaderText) (b : Bool) → slice_get hs i ≡ Some h → is_named h.name name ≡ b → values_of name (drop i hs) ≡ cond b (h.value ∷ values_of name (drop (i + 1) hs)) (values_of name (drop (i + 1) hs))
values_at name hs i h b at e =
    let s : suc i ≡ i + 1 = omega arith in
    ap (values_of name) (drop_by hs i h at ∙ ap (λ (n : ℕ). h ∷ drop n hs) s) ∙ values_cons name h (drop (i + 1) hs) b e

pub values_named : (name : List ℕ) (hs : List HeaderText) (i : ℕ) (h : HeaderText) → slice_get hs i ≡ Some h → is_named h.name name ≡ true → values_of name (drop i hs) ≡ h.value ∷ values_of name (drop (i + 1) hs)
values_named name hs i h at e = values_at name hs i h true at e

pub values_other : (name : List ℕ) (hs : List HeaderText) (i : ℕ) (h : HeaderText) → slice_get hs i ≡ Some h → is_named h.name name ≡ false → values_of name (drop i hs) ≡ values_of name (drop (i + 1) hs)
values_other name hs i h at e = values_at name hs i h false at e

pub no_values : (name : List ℕ) (hs : List HeaderText) (i : ℕ) → length hs ≤ i → values_of name (drop i hs) ≡ []
unfolding values_of
no_values name hs i le = ap (values_of name) (drop_all i hs le)

-- a place behind the first
pub place_behind : (v : List ℕ) (vs : List (List ℕ)) (left new : ℕ) → (left ≡ 0 → ⊥) → new ≡ left - 1 → slice_get (v ∷ vs) left ≡ slice_get vs new
place_behind v vs zero new some n = absurd (some refl)
place_behind v vs (suc left) new some n = ap (slice_get vs) (omega arith)
