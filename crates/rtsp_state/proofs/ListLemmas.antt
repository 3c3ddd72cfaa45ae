-- One more of a list.
use Rattle.std.proofs.Common.{◌≡◌, ℕ, zero, suc, ◌+◌, ◌<◌, List, [], ◌∷◌, ◌++◌, take, drop, length, slice_get, Option, Some, None, refl, sym, ap, ◌∙◌, arith}
use Rattle.std.specs.Prelude.{filter_map, true, false, not, ◌==◌, is_some}
use Rattle.std.specs.List.{cons_option}
use Rattle.std.specs.Borrow.{Bor}
use Rattle.std.proofs.lemmas.Bool.{ne_eqb}
use Rattle.std.proofs.lemmas.List.{map-append, append-nil}
use Rattle.rtsp_text.specs.Slices.{texts}

take_by : {X : Type 0} (xs : List X) (i : ℕ) (x : X) → slice_get xs i ≡ Some x → take (suc i) xs ≡ take i xs ++ x ∷ []
take_by [] i x e = absurd cc
take_by {X} (y ∷ xs) zero x e = let p : y ≡ x = cc in ap (λ (z : X). z ∷ []) p
take_by {X} (y ∷ xs) (suc i) x e = ap (λ (zs : List X). y ∷ zs) (take_by xs i x e)

pub take_at_get : {X : Type 0} (xs : List X) (i : ℕ) (x : X) → slice_get xs i ≡ Some x → take (i + 1) xs ≡ take i xs ++ x ∷ []
take_at_get {X} xs i x e = let s : i + 1 ≡ suc i = omega arith in ap (λ (n : ℕ). take n xs) s ∙ take_by xs i x e

pub there : {X : Type 0} (xs : List X) (i : ℕ) → i < length xs → slice_get xs i ≡ None → ⊥
there [] i lt e = absurd (omega (arith, lt))
there (y ∷ xs) zero lt e = absurd cc
there (y ∷ xs) (suc i) lt e = there xs i (omega (arith, lt)) e

push_onto : {Y : Type 0} (o : Option Y) (xs ys zs : List Y) → xs ≡ ys ++ zs → cons_option o xs ≡ cons_option o ys ++ zs
push_onto None xs ys zs e = e
push_onto {Y} (Some y) xs ys zs e = ap (λ (l : List Y). y ∷ l) e

pub filter_map_push : {X Y : Type 0} (f : X → Option Y) (xs : List X) (x : X) → filter_map f (xs ++ x ∷ []) ≡ filter_map f xs ++ cons_option (f x) []
filter_map_push f [] x = refl
filter_map_push f (z ∷ xs) x = push_onto (f z) (filter_map f (xs ++ x ∷ [])) (filter_map f xs) (cons_option (f x) []) (filter_map_push f xs x)

-- one text more, of slices
pub text_more : (vs : List (List ℕ)) (i : ℕ) (old new : List (Bor (List ℕ))) (v : Bor (List ℕ)) → texts old ≡ take i vs → slice_get vs i ≡ Some v.now → new ≡ old ++ v ∷ [] → texts new ≡ take (i + 1) vs
text_more vs i old new v was at e = ap texts e ∙ map-append (λ (s : Bor (List ℕ)). s.now) old (v ∷ []) ∙ ap (λ (l : List (List ℕ)). l ++ v.now ∷ []) was ∙ sym (take_at_get vs i v.now at)

-- one of a list more, filtered: kept, or left out
pub kept_more : {X Y : Type 0} (f : X → Option Y) (xs : List X) (i : ℕ) (x : X) (y : Y) (old new : List Y) → old ≡ filter_map f (take i xs) → slice_get xs i ≡ Some x → f x ≡ Some y → new ≡ old ++ y ∷ [] → new ≡ filter_map f (take (i + 1) xs)
kept_more {X} {Y} f xs i x y old new was at is e =
    e ∙ ap (λ (l : List Y). l ++ y ∷ []) was ∙ sym (ap (filter_map f) (take_at_get xs i x at) ∙ filter_map_push f (take i xs) x ∙ ap (λ (o : Option Y). filter_map f (take i xs) ++ cons_option o []) is)

pub left_more : {X Y : Type 0} (f : X → Option Y) (xs : List X) (i : ℕ) (x : X) (old : List Y) → old ≡ filter_map f (take i xs) → slice_get xs i ≡ Some x → f x ≡ None → old ≡ filter_map f (take (i + 1) xs)
left_more {X} {Y} f xs i x old was at is =
    was ∙ sym (ap (filter_map f) (take_at_get xs i x at) ∙ filter_map_push f (take i xs) x ∙ ap (λ (o : Option Y). filter_map f (take i xs) ++ cons_option o []) is ∙ append-nil (filter_map f (take i xs)))

-- what is kept from a place on
drop_by : {X : Type 0} (xs : List X) (i : ℕ) (x : X) → slice_get xs i ≡ Some x → drop i xs ≡ x ∷ drop (suc i) xs
drop_by [] i x e = absurd cc
drop_by {X} (y ∷ xs) zero x e = let p : y ≡ x = cc in ap (λ (z : X). z ∷ xs) p
drop_by (y ∷ xs) (suc i) x e = drop_by xs i x e

pub kept_from : {X Y : Type 0} (f : X → Option Y) (xs : List X) (i : ℕ) (x : X) (o : Option Y) → slice_get xs i ≡ Some x → f x ≡ o
    → filter_map f (drop i xs) ≡ cons_option o (filter_map f (drop (i + 1) xs))
kept_from f xs i x o at is =
    let s : i + 1 ≡ suc i = omega arith in
    rw (s, drop_by xs i x at, is) refl

pub some_from : {X Y : Type 0} (f : X → Option Y) (xs : List X) (i : ℕ) (x : X) → slice_get xs i ≡ Some x → is_some (f x) ≡ true → not (length (filter_map f (drop i xs)) == 0) ≡ true
some_from {X} {Y} f xs i x at h = go (f x) refl h where
  go : (o : Option Y) → f x ≡ o → is_some o ≡ true → not (length (filter_map f (drop i xs)) == 0) ≡ true
  go (Some y) is h =
      let some : length (filter_map f (drop i xs)) ≡ length (filter_map f (drop (i + 1) xs)) + 1 = ap length (kept_from f xs i x (Some y) at is) ∙ omega arith in
      ap not (ne_eqb (length (filter_map f (drop i xs))) 0 (λ e. absurd (omega (arith, some, e))))
  go None is h = absurd cc

pub none_from : {X Y : Type 0} (f : X → Option Y) (xs : List X) (i : ℕ) (x : X) → slice_get xs i ≡ Some x → is_some (f x) ≡ false → filter_map f (drop i xs) ≡ filter_map f (drop (i + 1) xs)
none_from {X} {Y} f xs i x at h = go (f x) refl h where
  go : (o : Option Y) → f x ≡ o → is_some o ≡ false → filter_map f (drop i xs) ≡ filter_map f (drop (i + 1) xs)
  go (Some y) is h = absurd cc
  go None is h = kept_from f xs i x None at is
