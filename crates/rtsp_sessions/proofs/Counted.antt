-- Look-ups as counts.
use Rattle.std.proofs.Common.{◌≡◌, ◌==◌, ℕ, Bool, true, false, cond, List, [], ◌∷◌, refl, sym, ◌∙◌, ap, arith}
use Rattle.std.specs.Prelude.{Option, Some, None, is_some, nat_lt, sum_by, option_map}
use Rattle.std.proofs.lemmas.Bool.{lt-ltb}
use Rattle.std.proofs.lemmas.List.Sums.{sum_by-cons}
use Rattle.std.specs.FinMap.{entries}
use Rattle.rtsp_record.specs.Books.{Session, Book}
use Rattle.rtsp_record.specs.Sums.{if_there, of_session, one_if, amount, with_id, bindings}
use Rattle.rtsp_record.proofs.Options.{nought, no_admissions}
use Rattle.rtsp_sessions.specs.Searches.{first_with}
use Rattle.rtsp_sessions.specs.Lookups.{number_of, with_id_in, with_startup_in, is_startup}

-- one passes where the count of those that pass isn't 0
found_counted : (p : ℕ × Session → Bool) (w : ℕ × Session → ℕ) → ((e : ℕ × Session) → w e ≡ one_if (p e)) → (es : List (ℕ × Session)) → is_some (number_of p es) ≡ nat_lt 0 (sum_by w es)
found_counted p w same [] = refl
found_counted p w same (e ∷ es) =
    elim (p e) as (λ t. p e ≡ t → is_some (option_map (λ (e : ℕ × Session). e.0) (cond t (Some e) (first_with p es))) ≡ nat_lt 0 (sum_by w (e ∷ es))) [
      | true ↦ λ is. sym (lt-ltb 0 (sum_by w (e ∷ es)) (omega (arith, sum_by-cons w e es, same e, ap one_if is)))
      | false ↦ λ is. found_counted p w same es ∙ ap (nat_lt 0) (omega (arith, sum_by-cons w e es, same e, ap one_if is))
    ] refl

-- a session has the id where one with it is counted
pub id_counted : (b : Book) (id : ℕ) → is_some (with_id_in id (entries b)) ≡ nat_lt 0 (amount (with_id id) b)
id_counted b id =
    found_counted (λ e. e.1.id == id) (λ e. of_session (with_id id) e.1) (λ e. omega (arith, nought e.1.binding, no_admissions (entries e.1.admissions))) (entries b)

bound_once : (c i : ℕ) (o : Option (ℕ × ℕ)) → if_there (bindings c i).binding o ≡ one_if (is_startup c i o)
bound_once c i None = refl
bound_once c i (Some k) = refl

-- a session has the startup number where a binding of it is counted
pub startup_counted : (b : Book) (c i : ℕ) → is_some (with_startup_in c i (entries b)) ≡ nat_lt 0 (amount (bindings c i) b)
startup_counted b c i =
    found_counted (λ e. is_startup c i e.1.binding) (λ e. of_session (bindings c i) e.1) (λ e. omega (arith, bound_once c i e.1.binding, no_admissions (entries e.1.admissions))) (entries b)
