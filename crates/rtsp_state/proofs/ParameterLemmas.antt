-- Names in a body, line by line.
use Rattle.std.proofs.Common.{◌≡◌, ℕ, zero, suc, ◌+◌, ◌-◌, ◌<◌, ◌≤◌, Bool, true, false, List, [], ◌∷◌, ◌++◌, length, take, drop, get_or, Result, Ok, Err, refl, sym, ap, ◌∙◌, arith, append_assoc, eqb}
use Rattle.std.specs.Prelude.{nat_eq, codes}
use Rattle.std.specs.List.{starts_with}
use Rattle.std.proofs.lemmas.Bool.{eqb-true}
use Rattle.std.proofs.lemmas.List.{append-nil, drop_more, take_more, drop-drop, drop_all, take_all}
use Rattle.rtsp_state.specs.declared.status.Status.TheVariants.{ParameterNotUnderstood}
use Rattle.rtsp_state.specs.declared.fault.Fault.{Fault}
use Rattle.rtsp_state.specs.declared.fault.Fault.TheVariants.{Refused}
use Rattle.rtsp_state.specs.declared.parameters.Parameter.{Parameter}
use Rattle.rtsp_text.specs.Results.{◌>>=◌}
use Rattle.rtsp_state.specs.GetParameter.{first_line, parameter_of, parameters_in}

-- ---- one line

-- the line goes on behind what was passed
abbrev pub LineOn : List ℕ → ℕ → Type 0
LineOn text i = (take i text ++ (first_line (drop i text)).0, (first_line (drop i text)).1) ≡ first_line text

breaks : (text : List ℕ) → starts_with nat_eq text (codes "\r\n") ≡ true → first_line text ≡ ([], drop 2 text)
unfolding first_line
breaks [] e = absurd cc
breaks (b ∷ bytes) e = rw e refl

goes_on : (b : ℕ) (bytes : List ℕ) → starts_with nat_eq (b ∷ bytes) (codes "\r\n") ≡ false → first_line (b ∷ bytes) ≡ (b ∷ (first_line bytes).0, (first_line bytes).1)
unfolding first_line
goes_on b bytes e = rw e refl

pub line_more : (text : List ℕ) (i : ℕ) → i < length text → starts_with nat_eq (drop i text) (codes "\r\n") ≡ false → LineOn text i → LineOn text (i + 1)
line_more text i lt e on =
    let more = drop_more text i 0 lt in
    let rest = ap first_line more ∙ goes_on (get_or text i 0) (drop (i + 1) text) (ap (λ (t : List ℕ). starts_with nat_eq t (codes "\r\n")) (sym more) ∙ e) in
    let start = take_more text i 0 lt in
    let both : take i text ++ (first_line (drop i text)).0 ≡ take (i + 1) text ++ (first_line (drop (i + 1) text)).0 =
    ap (λ (p : List ℕ × List ℕ). take i text ++ p.0) rest ∙ sym (append_assoc (take i text) (get_or text i 0 ∷ []) (first_line (drop (i + 1) text)).0) ∙ ap (λ (t : List ℕ). t ++ (first_line (drop (i + 1) text)).0) (sym start) in
    let behind : (first_line (drop i text)).1 ≡ (first_line (drop (i + 1) text)).1 = ap (λ (p : List ℕ × List ℕ). p.1) rest in
    (λ k. (sym both k, sym behind k)) ∙ on

pub line_breaks : (text : List ℕ) (i : ℕ) → starts_with nat_eq (drop i text) (codes "\r\n") ≡ true → LineOn text i → (take i text, drop (i + 2) text) ≡ first_line text
line_breaks text i e on =
    let at = breaks (drop i text) e in
    let start : take i text ++ (first_line (drop i text)).0 ≡ take i text = ap (λ (p : List ℕ × List ℕ). take i text ++ p.0) at ∙ append-nil (take i text) in
    let behind : (first_line (drop i text)).1 ≡ drop (i + 2) text = ap (λ (p : List ℕ × List ℕ). p.1) at ∙ drop-drop 2 i text in
    (λ k. (sym start k, sym behind k)) ∙ on

pub line_ends : (text : List ℕ) (i : ℕ) → length text ≤ i → LineOn text i → (text, []) ≡ first_line text
unfolding first_line
line_ends text i le on =
    let none = drop_all i text le in
    let whole = take_all i text le in
    let start : take i text ++ (first_line (drop i text)).0 ≡ text = ap (λ (t : List ℕ). take i text ++ (first_line t).0) none ∙ append-nil (take i text) ∙ whole in
    let behind : (first_line (drop i text)).1 ≡ [] = ap (λ (t : List ℕ). (first_line t).1) none in
    (λ k. (sym start k, sym behind k)) ∙ on

-- ---- the parameters

-- those that were found, before the others
abbrev pub onto : List Parameter → Result (List Parameter) Fault → Result (List Parameter) Fault
onto found (Ok others) = Ok (found ++ others)
onto found (Err fault) = Err fault

onto_more : (found : List Parameter) (p : Parameter) (r : Result (List Parameter) Fault) → onto (found ++ p ∷ []) r ≡ onto found (onto (p ∷ []) r)
onto_more found p (Ok others) = ap Ok (append_assoc found (p ∷ []) others)
onto_more found p (Err fault) = refl

one_more : (n : ℕ) (text : List ℕ) (p : Parameter) → 0 < length text → parameter_of (first_line text).0 ≡ Ok p → parameters_in (suc n) text ≡ onto (p ∷ []) (parameters_in n (first_line text).1)
unfolding parameters_in
one_more n [] p lt e = absurd (omega (arith, lt))
one_more n (b ∷ bytes) p lt e = rw e (go (parameters_in n (first_line (b ∷ bytes)).1)) where
  go : (r : Result (List Parameter) Fault) → (r >>= (λ (others : List Parameter). Ok (p ∷ others))) ≡ onto (p ∷ []) r
  go (Ok others) = refl
  go (Err fault) = refl

pub found_more : (k : ℕ) (body text : List ℕ) (found : List Parameter) (p : Parameter) → 0 < k → 0 < length text → parameter_of (first_line text).0 ≡ Ok p → onto found (parameters_in k text) ≡ parameters_in 64 body → onto (found ++ p ∷ []) (parameters_in (k - 1) (first_line text).1) ≡ parameters_in 64 body
found_more zero body text found p lt some e was = absurd (omega (arith, lt))
found_more (suc n) body text found p lt some e was =
    let s : suc n - 1 ≡ n = omega arith in
    ap (λ (m : ℕ). onto (found ++ p ∷ []) (parameters_in m (first_line text).1)) s ∙ onto_more found p (parameters_in n (first_line text).1) ∙ ap (onto found) (sym (one_more n text p some e)) ∙ was

pub none_more : (k : ℕ) (text : List ℕ) (fault : Fault) → 0 < k → 0 < length text → parameter_of (first_line text).0 ≡ Err fault → parameters_in k text ≡ Err fault
unfolding parameters_in
none_more zero text fault lt some e = absurd (omega (arith, lt))
none_more (suc n) [] fault lt some e = absurd (omega (arith, some))
none_more (suc n) (b ∷ bytes) fault lt some e = rw e refl

pub no_more : (k : ℕ) (text : List ℕ) → length text ≡ 0 → parameters_in k text ≡ Ok []
unfolding parameters_in
no_more k [] e = refl
no_more k (b ∷ bytes) e = absurd (omega (arith, e))

pub too_many : (text : List ℕ) → 0 < length text → parameters_in 0 text ≡ Err (Refused ParameterNotUnderstood)
unfolding parameters_in
too_many [] lt = absurd (omega (arith, lt))
too_many (b ∷ bytes) lt = refl

-- ---- emptiness, as a test of a slice tells it

pub is_none : (text : List ℕ) (b : Bool) → b ≡ eqb (length text) 0 → b ≡ true → length text ≡ 0
is_none text b e t = eqb-true (length text) 0 (sym e ∙ t)

pub is_some_text : (text : List ℕ) (b : Bool) → b ≡ eqb (length text) 0 → b ≡ false → 0 < length text
is_some_text [] b e t = let x : true ≡ false = sym e ∙ t in absurd cc
is_some_text (c ∷ text) b e t = omega arith
