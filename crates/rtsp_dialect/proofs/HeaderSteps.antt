-- Headers, one after another.
use Rattle.std.proofs.Common.{◌≡◌, ℕ, suc, ◌+◌, Bool, true, false, List, [], ◌∷◌, ◌++◌, map, drop, slice_get, Some, sym, ap, ◌∙◌, arith, append_assoc}
use Rattle.std.specs.Prelude.{◌||◌}
use Rattle.std.specs.List.{list_any}
use Rattle.rtsp_grammar.specs.Header.{HeaderText}
use Rattle.rtsp_grammar.proofs.PlaceLemmas.{drop_by}

drop_header : (hs : List HeaderText) (i : ℕ) (h : HeaderText) → slice_get hs i ≡ Some h → drop i hs ≡ h ∷ drop (i + 1) hs
drop_header hs i h at = let s : suc i ≡ i + 1 = omega arith in drop_by hs i h at ∙ ap (λ (n : ℕ). h ∷ drop n hs) s

module _ (test : HeaderText → Bool) (hs : List HeaderText) where
  pub needs_here : (i : ℕ) (h : HeaderText) → slice_get hs i ≡ Some h → test h ≡ true → list_any test (drop i hs) ≡ list_any test hs → true ≡ list_any test hs
  needs_here i h at t so_far = sym (ap (λ (b : Bool). b || list_any test (drop (i + 1) hs)) t) ∙ sym (ap (list_any test) (drop_header hs i h at)) ∙ so_far

  pub needs_behind : (i : ℕ) (h : HeaderText) → slice_get hs i ≡ Some h → test h ≡ false → list_any test (drop i hs) ≡ list_any test hs → list_any test (drop (i + 1) hs) ≡ list_any test hs
  needs_behind i h at t so_far = sym (ap (λ (b : Bool). b || list_any test (drop (i + 1) hs)) t) ∙ sym (ap (list_any test) (drop_header hs i h at)) ∙ so_far

module _ (f : HeaderText → HeaderText) (hs : List HeaderText) where
  pub pushed_more : (i : ℕ) (h : HeaderText) (built next : List HeaderText) → slice_get hs i ≡ Some h → next ≡ built ++ f h ∷ [] → built ++ map f (drop i hs) ≡ map f hs → next ++ map f (drop (i + 1) hs) ≡ map f hs
  pushed_more i h built next at n so_far =
      ap (λ (xs : List HeaderText). xs ++ map f (drop (i + 1) hs)) n ∙ append_assoc built (f h ∷ []) (map f (drop (i + 1) hs))
      ∙ sym (ap (λ (xs : List HeaderText). built ++ map f xs) (drop_header hs i h at)) ∙ so_far
