-- The chosen pair is the least: no free pair of the whole that is not below `from` is less, and where none is chosen there is none. So is the chosen port.
use Rattle.std.proofs.Common.{◌≡◌, ℕ, ◌+◌, ◌*◌, ◌<◌, ◌≤◌, zero, suc, Bool, true, false, cond, refl, sym, ◌∙◌, ap, subst, arith}
use Rattle.std.specs.Prelude.{Option, Some, None}
use Rattle.std.proofs.lemmas.Bool.Decides.{nat_tests}
use Rattle.rtsp_record.specs.declared.holdings.Whole.{Whole}
use Rattle.rtsp_record.specs.declared.phases.Phase.TheVariants.{Playing}
use Rattle.rtsp_record.specs.Books.{Book}
use Rattle.rtsp_record.specs.Choices.{from_on, is_pair_free, least_of, least_pair_by, least_pair}
use Rattle.rtsp_record.proofs.Choices.{at_first, from_next}
use Rattle.rtsp_record.specs.Moments.{due}

-- not more than this number
abbrev pub AtMost : Option ℕ → ℕ → Type 0
AtMost None p = ⊥
AtMost (Some l) p = l ≤ p

least_at : (step : ℕ) (takes : ℕ → Bool) (p n i : ℕ) → i < n → takes (p + step * i) ≡ true → AtMost (least_of step takes p n) (p + step * i)
unfolding least_of
least_at step takes p zero i lt h = absurd (omega (arith, lt))
least_at step takes p (suc n) zero lt h =
    elim (takes p) as (λ t. takes p ≡ t → AtMost (cond t (Some p) (least_of step takes (p + step) n)) (p + step * zero)) [
      | true ↦ λ _. omega (arith, at_first step p)
      | false ↦ λ off. absurd (cc (sym off ∙ sym (ap takes (at_first step p)) ∙ h))
    ] refl
least_at step takes p (suc n) (suc k) lt h =
    let next : k + 1 ≡ suc k = omega arith in
    let same : p + step + step * k ≡ p + step * suc k = from_next step p k ∙ ap (λ i. p + step * i) next in
    elim (takes p) as (λ t. AtMost (cond t (Some p) (least_of step takes (p + step) n)) (p + step * suc k)) [
      | true ↦ omega arith
      | false ↦ subst (AtMost (least_of step takes (p + step) n)) same (least_at step takes (p + step) n k (omega (arith, lt)) (ap takes same ∙ h))
    ]

pub least_is : (w : Whole) (b : Book) (from i : ℕ) → i < w.pairs → from ≤ w.first_port + 2 * i → is_pair_free b (w.first_port + 2 * i) ≡ true → AtMost (least_pair w b from) (w.first_port + 2 * i)
unfolding least_pair_by
least_is w b from i lt le free = least_at 2 (from_on from (is_pair_free b)) w.first_port w.pairs i lt (grind (arith, nat_tests))

-- how far a play of 500 units of 20 milliseconds is
due_first : due (Playing 0 500 0 0) 20 0 ≡ 1
due_first = refl

due_late : due (Playing 0 500 0 0) 20 9979 ≡ 499
due_late = refl

due_all : due (Playing 0 500 0 0) 20 9980 ≡ 500
due_all = refl
