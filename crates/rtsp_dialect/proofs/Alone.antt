-- Ports that are named once: parameter by parameter.
use Rattle.std.proofs.Common.{◌≡◌, ℕ, Bool, true, false, List, [], ◌∷◌, map, refl, sym, ap, ◌∙◌}
use Rattle.std.specs.Prelude.{not, ◌&&◌, filter}
use Rattle.std.specs.List.{list_any}
use Rattle.std.proofs.Math.Bool.{and-false}
use Rattle.rtsp_transport.specs.declared.spec.Parameter.{Parameter}
use Rattle.rtsp_dialect.specs.ClientPort.{has_ports, is_unclear, is_single, has_ports_alone}
use Rattle.rtsp_dialect.specs.ClientPortText.{parameter_in}

-- how many are still to come, where one was found or none
abbrev pub wanted : Bool → List Parameter → Bool
wanted true [] = true
wanted true (p ∷ ps) = false
wanted false ps = is_single ps

abbrev pub still : Bool → List Parameter → Bool
still found ps = wanted found (filter has_ports ps) && not (list_any is_unclear ps)

single_first : (p : Parameter) (ps : List Parameter) → is_single (p ∷ ps) ≡ wanted true ps
single_first p [] = refl
single_first p (q ∷ ps) = refl

still_unclear : (found : Bool) (p : Parameter) (ps : List Parameter) → is_unclear p ≡ true → still found (p ∷ ps) ≡ false
still_unclear found p ps u = rw u (and-false (wanted found (filter has_ports (p ∷ ps))))

still_other : (found : Bool) (p : Parameter) (ps : List Parameter) → is_unclear p ≡ false → has_ports p ≡ false → still found (p ∷ ps) ≡ still found ps
still_other found p ps u h = rw (u, h) refl

still_again : (p : Parameter) (ps : List Parameter) → has_ports p ≡ true → still true (p ∷ ps) ≡ false
still_again p ps h = rw h refl

still_first : (p : Parameter) (ps : List Parameter) → is_unclear p ≡ false → has_ports p ≡ true → still false (p ∷ ps) ≡ still true ps
still_first p ps u h = rw (u, h) (ap (λ (b : Bool). b && not (list_any is_unclear ps)) (single_first p (filter has_ports ps)))

-- ---- the parts of a text

abbrev pub params : List (List ℕ) → List Parameter
params parts = map parameter_in parts

pub begins : (parts : List (List ℕ)) → still false (params parts) ≡ has_ports_alone (params parts)
unfolding has_ports_alone
begins parts = refl

module _ (total : Bool) (parts rest : List (List ℕ)) (part : List ℕ) (e : parts ≡ part ∷ rest) where
  pub meets_unclear : (found : Bool) → is_unclear (parameter_in part) ≡ true → still found (params parts) ≡ total → false ≡ total
  meets_unclear found u so_far = sym (still_unclear found (parameter_in part) (params rest) u) ∙ sym (ap (λ (ps : List (List ℕ)). still found (params ps)) e) ∙ so_far

  pub meets_other : (found : Bool) → is_unclear (parameter_in part) ≡ false → has_ports (parameter_in part) ≡ false → still found (params parts) ≡ total → still found (params rest) ≡ total
  meets_other found u h so_far = sym (still_other found (parameter_in part) (params rest) u h) ∙ sym (ap (λ (ps : List (List ℕ)). still found (params ps)) e) ∙ so_far

  pub meets_again : (found : Bool) → found ≡ true → has_ports (parameter_in part) ≡ true → still found (params parts) ≡ total → false ≡ total
  meets_again found f h so_far =
      sym (still_again (parameter_in part) (params rest) h) ∙ sym (ap (λ (ps : List (List ℕ)). still true (params ps)) e) ∙ ap (λ (b : Bool). still b (params parts)) (sym f) ∙ so_far

  pub meets_first : (found : Bool) → found ≡ false → is_unclear (parameter_in part) ≡ false → has_ports (parameter_in part) ≡ true → still found (params parts) ≡ total → still true (params rest) ≡ total
  meets_first found f u h so_far =
      sym (still_first (parameter_in part) (params rest) u h) ∙ sym (ap (λ (ps : List (List ℕ)). still false (params ps)) e) ∙ ap (λ (b : Bool). still b (params parts)) (sym f) ∙ so_far
