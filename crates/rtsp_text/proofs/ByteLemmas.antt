-- Tests of each byte of a text.
use Rattle.std.proofs.Common.{◌≡◌, ℕ, zero, suc, ◌<◌, Bool, true, false, eqb, List, [], ◌∷◌, ◌++◌, length, get_or, refl, sym, ap, ◌∙◌, arith, eq-eqb}
use Rattle.std.specs.Prelude.{not}
use Rattle.std.specs.List.{list_all}
use Rattle.std.proofs.lemmas.Bool.{eqb-true, ne_eqb, and_parts, and_from, both_ways}
use Rattle.std.proofs.lemmas.List.Folds.{list_all-append}
use Rattle.rtsp_text.specs.Bytes.{is_other, is_some_of}

pub eqb_same : (n : ℕ) → eqb n n ≡ true
eqb_same n = eq-eqb n n refl

-- what passes one test passes a weaker one
pub all_weaker : (p q : ℕ → Bool) (xs : List ℕ) → ((b : ℕ) → p b ≡ true → q b ≡ true) → list_all p xs ≡ true → list_all q xs ≡ true
all_weaker p q [] h e = refl
all_weaker p q (x ∷ xs) h e = let s = and_parts (p x) (list_all p xs) e in and_from (q x) (list_all q xs) (h x s.0) (all_weaker p q xs h s.1)

-- a byte that passes a test is another than one that fails it
pub other : (p : ℕ → Bool) (c b : ℕ) → p c ≡ false → p b ≡ true → is_other c b ≡ true
other p c b f e = go (eqb b c) refl where
  go : (x : Bool) → eqb b c ≡ x → not (eqb b c) ≡ true
  go true h = let same : b ≡ c = eqb-true b c h in absurd (both_ways (p c) f (ap p (sym same) ∙ e))
  go false h = rw h refl

pub all_other : (p : ℕ → Bool) (c : ℕ) (xs : List ℕ) → p c ≡ false → list_all p xs ≡ true → list_all (is_other c) xs ≡ true
all_other p c xs f e = all_weaker p (is_other c) xs (λ b h. other p c b f h) e

-- the test of one byte, and the test of all from that of each
pub all_get : (p : ℕ → Bool) (xs : List ℕ) (i : ℕ) → list_all p xs ≡ true → i < length xs → p (get_or xs i 0) ≡ true
all_get p [] i e lt = absurd (omega arith)
all_get p (x ∷ xs) zero e lt = (and_parts (p x) (list_all p xs) e).0
all_get p (x ∷ xs) (suc i) e lt = all_get p xs i (and_parts (p x) (list_all p xs) e).1 (omega arith)

pub all_from_get : (p : ℕ → Bool) (xs : List ℕ) → ((i : ℕ) → i < length xs → p (get_or xs i 0) ≡ true) → list_all p xs ≡ true
all_from_get p [] h = refl
all_from_get p (x ∷ xs) h = and_from (p x) (list_all p xs) (h 0 (omega arith)) (all_from_get p xs (λ i lt. h (suc i) (omega arith)))

-- two texts, one after the other
pub all_joined : (p : ℕ → Bool) (xs ys : List ℕ) → list_all p xs ≡ true → list_all p ys ≡ true → list_all p (xs ++ ys) ≡ true
all_joined p xs ys a b = list_all-append p xs ys ∙ and_from (list_all p xs) (list_all p ys) a b

pub all_parts : (p : ℕ → Bool) (xs ys : List ℕ) → list_all p (xs ++ ys) ≡ true → (list_all p xs ≡ true) × (list_all p ys ≡ true)
all_parts p xs ys e = and_parts (list_all p xs) (list_all p ys) (sym (list_all-append p xs ys) ∙ e)

-- one byte or more
pub some_parts : (test : ℕ → Bool) (text : List ℕ) → is_some_of test text ≡ true → (0 < length text) × (list_all test text ≡ true)
some_parts test [] e = absurd cc
some_parts test (b ∷ text) e = (omega arith, (and_parts (not (eqb (length (b ∷ text)) 0)) (list_all test (b ∷ text)) e).1)

pub some_from : (test : ℕ → Bool) (text : List ℕ) → 0 < length text → list_all test text ≡ true → is_some_of test text ≡ true
some_from test [] lt e = absurd (omega arith)
some_from test (b ∷ text) lt e =
    let some : eqb (length (b ∷ text)) 0 ≡ false = ne_eqb (length (b ∷ text)) 0 (λ z. absurd (omega arith)) in
    rw some e

pub some_other : (p : ℕ → Bool) (c : ℕ) (xs : List ℕ) → p c ≡ false → is_some_of p xs ≡ true → list_all (is_other c) xs ≡ true
some_other p c xs f e = all_other p c xs f (some_parts p xs e).1
