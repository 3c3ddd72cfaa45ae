-- The least of the moments up to which lanes have read.
use Rattle.std.proofs.Common.{◌≡◌, ◌≤◌, ℕ, List, [], ◌∷◌, drop, length, min, max, sym, subst, arith}
use Rattle.std.proofs.lemmas.List.{drop_all}
use Rattle.rtsp_shares.specs.Watermark.{AllAllow, IsMark}

-- of a moment and others, of which none counts as less than `oldest`
abbrev pub least_of : ℕ → ℕ → List ℕ → ℕ
least_of oldest now [] = now
least_of oldest now (moment ∷ moments) = least_of oldest (min now (max oldest moment)) moments

come : (oldest now : ℕ) (moments : List ℕ) → least_of oldest now moments ≤ now
come oldest now [] = omega arith
come oldest now (moment ∷ moments) = omega (arith, come oldest (min now (max oldest moment)) moments)

allowed : (oldest now : ℕ) (moments : List ℕ) → AllAllow oldest (least_of oldest now moments) moments
allowed oldest now [] = tt
allowed oldest now (moment ∷ moments) = (omega (arith, come oldest (min now (max oldest moment)) moments), allowed oldest (min now (max oldest moment)) moments)

greatest : (oldest now : ℕ) (moments : List ℕ) (n : ℕ) → n ≤ now → AllAllow oldest n moments → n ≤ least_of oldest now moments
greatest oldest now [] n h all = h
greatest oldest now (moment ∷ moments) n h all = greatest oldest (min now (max oldest moment)) moments n (omega (arith, h, all.0)) all.1

is_mark : (oldest now : ℕ) (moments : List ℕ) (mark : ℕ) → mark ≡ least_of oldest now moments → IsMark oldest moments now mark
is_mark oldest now moments mark e = subst (IsMark oldest moments now) (sym e) (record {
  come = come oldest now moments;
  allowed = allowed oldest now moments;
  greatest = greatest oldest now moments;
})

-- the last of them was reached
pub at_end : (oldest now least index : ℕ) (moments : List ℕ) → length moments ≤ index → least_of oldest least (drop index moments) ≡ least_of oldest now moments → IsMark oldest moments now least
at_end oldest now least index moments end e =
    is_mark oldest now moments least (subst (λ l. least_of oldest least l ≡ least_of oldest now moments) (drop_all index moments end) e)
