-- Texts without a quote that mean themselves in quotes.
use Rattle.std.proofs.Common.{◌≡◌, ℕ, Bool, true, false, cond, List, [], ◌∷◌, Option, Some, None, refl, sym, ap, ◌∙◌, Bor}
use Rattle.std.specs.Prelude.{◌==◌, ◌&&◌, ◌||◌, not, is_some}
use Rattle.std.specs.List.{list_all}
use Rattle.std.specs.Option.{option_map}
use Rattle.std.proofs.lemmas.Bool.{and_parts}
use Rattle.rtsp_text.specs.Bytes.{is_other}
use Rattle.rtsp_text.specs.Slices.{halves}
use Rattle.rtsp_text.specs.SplitOnce.{split_once}
use Rattle.rtsp_credentials.specs.Parameters.{is_plain_byte}

-- no backslash, where there is no quote
plain_unquoted : (xs : List ℕ) → list_all (is_other 34) xs ≡ true → not (is_some (split_once 92 xs)) ≡ list_all is_plain_byte xs
plain_unquoted [] h = refl
plain_unquoted (b ∷ bs) h =
    let s = and_parts (is_other 34 b) (list_all (is_other 34) bs) h in
    go (b == 34) (b == 92) (split_once 92 bs) (list_all is_plain_byte bs) s.0 (plain_unquoted bs s.1) where
      go : (x y : Bool) (r : Option (List ℕ × List ℕ)) (l : Bool) → not x ≡ true → not (is_some r) ≡ l
          → not (is_some {T = List ℕ × List ℕ} (cond y (Some ([], bs)) (option_map (λ (p : List ℕ × List ℕ). (b ∷ p.0, p.1)) r))) ≡ (not (x || y) && l)
      go true y r l h e = absurd cc
      go false true r l h e = refl
      go false false None l h e = e
      go false false (Some p) l h e = e

same_found : (found : Option (Bor (List ℕ) × Bor (List ℕ))) → is_some found ≡ is_some (halves found)
same_found None = refl
same_found (Some p) = refl

flipped : (x y : Bool) → y ≡ not x → x ≡ not y
flipped true y e = sym (ap not e)
flipped false y e = sym (ap not e)

pub plain_by : (found : Option (Bor (List ℕ) × Bor (List ℕ))) (none : Bool) (xs : List ℕ) → list_all (is_other 34) xs ≡ true → halves found ≡ split_once 92 xs → is_some found ≡ not none
    → none ≡ list_all is_plain_byte xs
plain_by found none xs h e n =
    flipped none (is_some found) n ∙ ap not (same_found found) ∙ ap (λ (o : Option (List ℕ × List ℕ)). not (is_some o)) e ∙ plain_unquoted xs h
