-- A sum in which no part counts.
use Rattle.std.proofs.Common.{◌≡◌, ℕ, List, [], ◌∷◌, refl, arith}
use Rattle.std.specs.Prelude.{Option, Some, None, sum_by}
use Rattle.std.proofs.lemmas.List.Sums.{sum_by-cons}
use Rattle.rtsp_record.specs.declared.holdings.Admission.{Admission}
use Rattle.rtsp_record.specs.Sums.{if_there, of_admission, nothing}

pub nought : {X : Type 0} (o : Option X) → if_there (λ _. 0) o ≡ 0
nought None = refl
nought (Some x) = refl

-- admissions in which nothing counts
pub no_admissions : (es : List (ℕ × Admission)) → sum_by (λ e. of_admission nothing e.1) es ≡ 0
no_admissions [] = refl
no_admissions (e ∷ es) = omega (arith, no_admissions es, sum_by-cons (λ (e : ℕ × Admission). of_admission nothing e.1) e es, nought e.1.rate, nought e.1.address, nought e.1.stream)
