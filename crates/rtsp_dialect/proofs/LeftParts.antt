-- What is tested and what is written part by part.
use Rattle.std.proofs.Common.{◌≡◌, ℕ, Bool, true, false, List, [], ◌∷◌, ◌++◌, map, sym, ap, ◌∙◌, append_assoc, append-nil}
use Rattle.std.specs.Prelude.{◌||◌}
use Rattle.std.specs.List.{list_any, join_with_byte}
use Rattle.rtsp_dialect.specs.PartText.{behind}

-- ---- a test of some part

pub any_here : (test : List ℕ → Bool) (total : Bool) (parts rest : List (List ℕ)) (part : List ℕ) → parts ≡ part ∷ rest → test part ≡ true
    → list_any test parts ≡ total → total ≡ true
any_here test total parts rest part e t so_far = sym so_far ∙ ap (list_any test) e ∙ ap (λ (b : Bool). b || list_any test rest) t

pub any_behind : (test : List ℕ → Bool) (total : Bool) (parts rest : List (List ℕ)) (part : List ℕ) → parts ≡ part ∷ rest → test part ≡ false
    → list_any test parts ≡ total → list_any test rest ≡ total
any_behind test total parts rest part e t so_far = sym (ap (λ (b : Bool). b || list_any test rest) t) ∙ sym (ap (list_any test) e) ∙ so_far

-- ---- parts that are written

-- the first of the parts that are left was written behind a separator
pub written_more : (f : List ℕ → List ℕ) (separator : ℕ) (out next total : List ℕ) (parts rest : List (List ℕ)) (part : List ℕ) → parts ≡ part ∷ rest
    → next ≡ (out ++ separator ∷ []) ++ f part → out ++ behind separator (map f parts) ≡ total → next ++ behind separator (map f rest) ≡ total
written_more f separator out next total parts rest part e n so_far =
    ap (λ (xs : List ℕ). xs ++ behind separator (map f rest)) n
    ∙ append_assoc (out ++ separator ∷ []) (f part) (behind separator (map f rest))
    ∙ append_assoc out (separator ∷ []) (f part ++ behind separator (map f rest))
    ∙ ap (λ (ps : List (List ℕ)). out ++ behind separator (map f ps)) (sym e) ∙ so_far

pub join_behind : (separator : ℕ) (first : List ℕ) (parts : List (List ℕ)) → join_with_byte separator (first ∷ parts) ≡ first ++ behind separator parts
join_behind separator first [] = sym (append-nil first)
join_behind separator first (next ∷ parts) = ap (λ (xs : List ℕ). first ++ separator ∷ xs) (join_behind separator next parts)
