-- The goodbyes of sources, one after another.
use Rattle.std.proofs.Common.{◌≡◌, ℕ, zero, suc, ◌+◌, ◌<◌, ◌≤◌, List, [], ◌∷◌, length, drop, slice_index_or, refl, sym, ap, ◌∙◌, subst, arith}
use Rattle.std.proofs.lemmas.List.{drop_all}
use Rattle.rtsp_rtp.specs.declared.source.Source.{Source}
use Rattle.rtsp_rtp.specs.Goodbyes.{goodbye_of, SaysGoodbye}

drop_by : (xs : List Source) (i : ℕ) (x : Source) → i < length xs → drop i xs ≡ slice_index_or xs i x ∷ drop (suc i) xs
drop_by [] i x within = absurd (omega (arith, within))
drop_by (y ∷ xs) zero x within = refl
drop_by (y ∷ xs) (suc i) x within = drop_by xs i x (omega (arith, within))

module _ {S : Type 0} (sends : S → ℕ → List ℕ → S → Type 0) (xs : List Source) where
  -- what is missing before one more goodbye
  pub said_more : (i : ℕ) (x : Source) (s d u : S) → i < length xs → sends s (slice_index_or xs i x).track (goodbye_of (slice_index_or xs i x).ssrc) d
      → SaysGoodbye sends (drop (i + 1) xs) d u → SaysGoodbye sends (drop i xs) s u
  said_more i x s d u within sent rest =
      let n : suc i ≡ i + 1 = omega arith in
      let here : drop i xs ≡ slice_index_or xs i x ∷ drop (i + 1) xs = drop_by xs i x within ∙ ap (λ (k : ℕ). slice_index_or xs i x ∷ drop k xs) n in
      subst (λ (l : List Source). SaysGoodbye sends l s u) (sym here) (d, sent, rest)

  -- nothing is missing at the end
  pub said_all : (i : ℕ) (s : S) → length xs ≤ i → SaysGoodbye sends (drop i xs) s s
  said_all i s past = subst (λ (l : List Source). SaysGoodbye sends l s s) (sym (drop_all i xs past)) refl
