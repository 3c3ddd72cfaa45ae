-- A text split after the bytes at its front that pass a test.
use Rattle.std.proofs.Common.{◌≡◌, ℕ, zero, suc, ◌+◌, ◌<◌, Bool, true, false, cond, eqb, List, [], ◌∷◌, ◌++◌, length, get_or, take, drop, refl, sym, ap, ◌∙◌, arith, Bor, Option, Some, None}
use Rattle.std.specs.Prelude.{IfSome, IfNone}
use Rattle.std.specs.List.{list_all}
use Rattle.std.specs.Option.{option_map}
use Rattle.std.proofs.lemmas.Bool.{and_parts, not-true, both_ways}
use Rattle.rtsp_text.specs.Slices.{halves}
use Rattle.rtsp_text.specs.SplitOnce.{split_once}
use Rattle.rtsp_text.proofs.ByteLemmas.{other}
use Rattle.rtsp_text.specs.Span.{IsSpan}
use Rattle.rtsp_grammar.specs.Splitting.{at_byte, where_all}

-- ---- a split by a span

-- a byte before the first half
abbrev with_first : ℕ → Option (List ℕ × List ℕ) → Option (List ℕ × List ℕ)
with_first b r = option_map (λ (p : List ℕ × List ℕ). (b ∷ p.0, p.1)) r

first_fails : (test : ℕ → Bool) (b : ℕ) → test b ≡ false → (r : Option (List ℕ × List ℕ)) → where_all test (with_first b r) ≡ None
first_fails test b f None = refl
first_fails test b f (Some p) = rw f refl

first_passes : (test : ℕ → Bool) (b : ℕ) → test b ≡ true → (r : Option (List ℕ × List ℕ)) → where_all test (with_first b r) ≡ with_first b (where_all test r)
first_passes test b t None = refl
first_passes test b t (Some p) = rw t (go (list_all test p.0)) where
  go : (x : Bool) → cond x (Some (b ∷ p.0, p.1)) None ≡ with_first b (cond x (Some p) None)
  go true = refl
  go false = refl

first_moved : (byte b : ℕ) (front rest : List ℕ) → with_first b (at_byte byte front rest) ≡ at_byte byte (b ∷ front) rest
first_moved byte b front [] = refl
first_moved byte b front (c ∷ rest) = go (eqb c byte) where
  go : (x : Bool) → with_first b (cond x (Some (front, rest)) None) ≡ cond x (Some (b ∷ front, rest)) None
  go true = refl
  go false = refl

pub split_by_span : (test : ℕ → Bool) (byte : ℕ) → test byte ≡ false → (bytes : List ℕ) (n : ℕ) → IsSpan test bytes n → where_all test (split_once byte bytes) ≡ at_byte byte (take n bytes) (drop n bytes)
split_by_span test byte f [] zero s = refl
split_by_span test byte f [] (suc n) s = absurd (omega (arith, s.within))
split_by_span test byte f (b ∷ bytes) zero s = go (eqb b byte) where
  go : (x : Bool) → where_all test (cond x (Some ([], bytes)) (with_first b (split_once byte bytes))) ≡ cond x (Some ([], bytes)) None
  go true = refl
  go false = first_fails test b (s.stops (omega arith)) (split_once byte bytes)
split_by_span test byte f (b ∷ bytes) (suc n) s =
    let passes = and_parts (test b) (list_all test (take n bytes)) s.passes in
    let differs : eqb b byte ≡ false = not-true (eqb b byte) (other test byte b f passes.0) in
    let next : IsSpan test bytes n = record { within = omega (arith, s.within); passes = passes.1; stops = λ lt. s.stops (omega arith) } in
    rw differs (first_passes test b passes.0 (split_once byte bytes) ∙ ap (with_first b) (split_by_span test byte f bytes n next) ∙ first_moved byte b (take n bytes) (drop n bytes))

-- a text has one span
pub span_only : (test : ℕ → Bool) (xs ys : List ℕ) (n : ℕ) → list_all test xs ≡ true → 0 < length ys → test (get_or ys 0 0) ≡ false → IsSpan test (xs ++ ys) n → n ≡ length xs
span_only test [] ys zero all some next s = refl
span_only test [] [] (suc n) all some next s = absurd (omega arith)
span_only test [] (y ∷ ys) (suc n) all some next s = absurd (both_ways (test y) next (and_parts (test y) (list_all test (take n ys)) s.passes).0)
span_only test (x ∷ xs) ys zero all some next s = absurd (both_ways (test x) (s.stops (omega arith)) (and_parts (test x) (list_all test xs) all).0)
span_only test (x ∷ xs) ys (suc n) all some next s =
    let passes = and_parts (test x) (list_all test (take n (xs ++ ys))) s.passes in
    ap suc (span_only test xs ys n (and_parts (test x) (list_all test xs) all).1 some next (record { within = omega (arith, s.within); passes = passes.1; stops = λ lt. s.stops (omega arith) }))

-- ---- what a split of passing bytes says of the split

where_some : (test : ℕ → Bool) (r : Option (List ℕ × List ℕ)) (p : List ℕ × List ℕ) → Some p ≡ where_all test r → (r ≡ Some p) × (list_all test p.0 ≡ true)
where_some test None p e = absurd cc
where_some test (Some q) p e = go (list_all test q.0) refl e where
  go : (x : Bool) → list_all test q.0 ≡ x → Some p ≡ cond x (Some q) None → (Some q ≡ Some p) × (list_all test p.0 ≡ true)
  go true t h = let same : q ≡ p = cc in (ap Some same, ap (λ (s : List ℕ × List ℕ). list_all test s.0) (sym same) ∙ t)
  go false t h = absurd cc

pub some_split : (test : ℕ → Bool) (r : Option (List ℕ × List ℕ)) (o : Option (Bor (List ℕ) × Bor (List ℕ))) → halves o ≡ where_all test r → IfSome o (λ p. Some (p.0.now, p.1.now) ≡ r)
some_split test r None e = tt
some_split test r (Some p) e = sym (where_some test r (p.0.now, p.1.now) e).0

pub all_split : (test : ℕ → Bool) (r : Option (List ℕ × List ℕ)) (o : Option (Bor (List ℕ) × Bor (List ℕ))) → halves o ≡ where_all test r → IfSome o (λ p. list_all test p.0.now ≡ true)
all_split test r None e = tt
all_split test r (Some p) e = (where_some test r (p.0.now, p.1.now) e).1

pub no_split : (test : ℕ → Bool) (r : Option (List ℕ × List ℕ)) (o : Option (Bor (List ℕ) × Bor (List ℕ))) → halves o ≡ where_all test r → IfNone o (None ≡ where_all test r)
no_split test r None e = e
no_split test r (Some p) e = tt

pub where_none : (test : ℕ → Bool) (halves : List ℕ × List ℕ) → None ≡ where_all test (Some halves) → list_all test halves.0 ≡ false
where_none test halves e = go (list_all test halves.0) e where
  go : (x : Bool) → None ≡ cond x (Some halves) None → x ≡ false
  go true h = absurd cc
  go false h = refl
