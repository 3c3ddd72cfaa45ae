-- A new name beside distinct ones.
use Rattle.std.proofs.Common.{◌≡◌, ◌∙◌, sym, refl, ap, ℕ, zero, suc, Bool, true, false, ◌||◌, List, [], ◌∷◌, ◌++◌, length, map, Some, inl, inr, ◌⊎◌, slice_get, ◌≢◌}
use Rattle.std.specs.List.{list_any}
use Rattle.std.specs.Str.{bytes_eq}
use Rattle.std.proofs.lemmas.Slice.Eq.{bytes_eq-Decides}
use Rattle.std.proofs.lemmas.Bool.{false≢true}
use Rattle.rtsp_content.specs.Distinct.{AreDistinct}

-- what stands at a place of a list with one more
get-push : (names : List (List ℕ)) (last : List ℕ) (i : ℕ) (name : List ℕ) → slice_get (names ++ last ∷ []) i ≡ Some name
    → (slice_get names i ≡ Some name) ⊎ ((i ≡ length names) × (last ≡ name))
get-push [] last zero name h = inr (refl, cc)
get-push [] last (suc i) name h = absurd (cc)
get-push (x ∷ names) last zero name h = inl h
get-push (x ∷ names) last (suc i) name h =
    elim (get-push names last i name h) [
      | inl there ↦ inl there
      | inr end ↦ inr (ap suc end.0, end.1)
    ]

distinct-push : (names : List (List ℕ)) (last : List ℕ) → AreDistinct names → ((k : ℕ) → slice_get names k ≢ Some last) → AreDistinct (names ++ last ∷ [])
distinct-push names last old fresh i j name at_i at_j =
    elim (get-push names last i name at_i) [
      | inl i_old ↦
          elim (get-push names last j name at_j) [
            | inl j_old ↦ old i j name i_old j_old
            | inr j_end ↦ absurd (fresh i (i_old ∙ ap Some (sym j_end.1)))
          ]
      | inr i_end ↦
          elim (get-push names last j name at_j) [
            | inl j_old ↦ absurd (fresh j (j_old ∙ ap Some (sym i_end.1)))
            | inr j_end ↦ i_end.0 ∙ sym j_end.0
          ]
    ]

or_right : (a b : Bool) → (a || b) ≡ false → b ≡ false
or_right true b h = absurd (false≢true (sym h))
or_right false b h = h

name_fresh : {X : Type 0} (name_of : X → List ℕ) (name : List ℕ) (xs : List X) → list_any (λ x. bytes_eq (name_of x) name) xs ≡ false → (k : ℕ) → slice_get (map name_of xs) k ≢ Some name
name_fresh name_of name [] none k there = absurd (cc)
name_fresh name_of name (x ∷ xs) none zero there =
    let same : name_of x ≡ name = cc in
    absurd (false≢true (sym none ∙ rw ((bytes_eq-Decides (name_of x) name).1 same) refl))
name_fresh name_of name (x ∷ xs) none (suc k) there = name_fresh name_of name xs (or_right (bytes_eq (name_of x) name) (list_any (λ x. bytes_eq (name_of x) name) xs) none) k there

map-push : {X : Type 0} (name_of : X → List ℕ) (xs : List X) (x : X) → map name_of (xs ++ x ∷ []) ≡ map name_of xs ++ name_of x ∷ []
map-push name_of [] x = refl
map-push name_of (y ∷ xs) x = ap (λ names. name_of y ∷ names) (map-push name_of xs x)

-- one more element, whose name none has
pub distinct-more : {X : Type 0} (name_of : X → List ℕ) (xs : List X) (x : X) → AreDistinct (map name_of xs) → list_any (λ y. bytes_eq (name_of y) (name_of x)) xs ≡ false → AreDistinct (map name_of (xs ++ x ∷ []))
distinct-more name_of xs x old none = rw map-push (distinct-push (map name_of xs) (name_of x) old (name_fresh name_of (name_of x) xs none))
