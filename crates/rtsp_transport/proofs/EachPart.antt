-- Parts of a text that are read one after another.
use Rattle.std.proofs.Common.{◌≡◌, ℕ, suc, ◌<◌, List, [], ◌∷◌, ◌++◌, length, Option, Some, None, IfSome, Result, Ok, Err, refl, sym, ap, ◌∙◌, arith, append_assoc, inl, inr}
use Rattle.std.specs.Borrow.{Bor}
use Rattle.std.proofs.lemmas.List.{append-nil}
use Rattle.rtsp_text.specs.Slices.{held}
use Rattle.rtsp_text.specs.Results.{◌>>=◌, Gives, each_of}

-- one more than the length of what is left, where something is
abbrev pub left_len : Option (List ℕ) → ℕ
left_len None = 0
left_len (Some text) = suc (length text)

pub left_shorter : (rest : Option (Bor (List ℕ))) (text : List ℕ) → IfSome rest (λ r. length r.now < length text) → left_len (held rest) < suc (length text)
left_shorter None text h = omega arith
left_shorter (Some r) text h = omega arith

-- what was read before, and what is still read
abbrev with_front : {Y E : Type 0} → List Y → Result (List Y) E → Result (List Y) E
with_front front read = read >>= λ ys. Ok (front ++ ys)

regroup : {Y E : Type 0} (front : List Y) (y : Y) (read : Result (List Y) E) → with_front front (read >>= λ ys. Ok (y ∷ ys)) ≡ with_front (front ++ y ∷ []) read
regroup front y (Ok ys) = ap Ok (sym (append_assoc front (y ∷ []) ys))
regroup front y (Err f) = refl

-- reading the parts that are left gives the rest of what reading all gives
unfoldable pub ReadsOn : {Y E : Type 0} → (List ℕ → Result Y E) → List (List ℕ) → List (List ℕ) → List Y → Type 0
ReadsOn read all left front = with_front front (each_of read left) ≡ each_of read all

pub reads_all : {Y E : Type 0} (read : List ℕ → Result Y E) (all : List (List ℕ)) → ReadsOn read all all []
unfolding ReadsOn
reads_all read all = go (each_of read all) where
  go : {Y E : Type 0} (r : Result (List Y) E) → with_front [] r ≡ r
  go (Ok ys) = refl
  go (Err f) = refl

pub reads_more : {Y E : Type 0} (read : List ℕ → Result Y E) (all left rest : List (List ℕ)) (part : List ℕ) (front new : List Y) (y : Y) → left ≡ part ∷ rest → read part ≡ Ok y
    → new ≡ front ++ y ∷ [] → ReadsOn read all left front → ReadsOn read all rest new
unfolding each_of ReadsOn
reads_more read all left rest part front new y e r n so_far =
    let step : with_front front (each_of read (part ∷ rest)) ≡ with_front (front ++ y ∷ []) (each_of read rest) = rw r (regroup front y (each_of read rest)) in
    ap (λ (ys : List _). with_front ys (each_of read rest)) n ∙ sym step ∙ ap (λ (ps : List (List ℕ)). with_front front (each_of read ps)) (sym e) ∙ so_far

pub reads_ends : {Y E : Type 0} (oom : E) (read : List ℕ → Result Y E) (all left rest : List (List ℕ)) (part : List ℕ) (front : List Y) (f : E) → left ≡ part ∷ rest → Gives oom (Err f) (read part)
    → ReadsOn read all left front → Gives oom (Err f) (each_of read all)
unfolding each_of ReadsOn
reads_ends oom read all left rest part front f e (inl o) so_far = inl o
reads_ends oom read all left rest part front f e (inr r) so_far =
    let step : with_front front (each_of read (part ∷ rest)) ≡ Err f = rw r refl in
    inr (sym so_far ∙ ap (λ (ps : List (List ℕ)). with_front front (each_of read ps)) e ∙ step)

pub reads_done : {Y E : Type 0} (read : List ℕ → Result Y E) (all : List (List ℕ)) (front : List Y) → ReadsOn read all [] front → each_of read all ≡ Ok front
unfolding each_of ReadsOn
reads_done read all front so_far = sym so_far ∙ ap Ok (append-nil front)
