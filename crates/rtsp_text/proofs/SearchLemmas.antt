-- What a search for a byte tells of the bytes before it.
use Rattle.std.proofs.Common.{◌≡◌, ℕ, ◌<◌, ◌≤◌, Bool, true, false, List, length, get_or, take, refl, arith}
use Rattle.std.specs.Prelude.{not}
use Rattle.std.specs.List.{list_all}
use Rattle.std.proofs.lemmas.List.{get_or-take, length-take-le}
use Rattle.memchr.specs.Find.{Nowhere, Passes}
use Rattle.rtsp_text.proofs.ByteLemmas.{all_from_get}

refused : (answer : Bool) → ¬ (answer ≡ true) → not answer ≡ true
refused true h = absurd (h refl)
refused false h = refl

-- no byte passes that comes before the first that does
pub none_before : (test : ℕ → Bool) (text : List ℕ) (n : ℕ) → n ≤ length text → Nowhere (Passes test text) 0 n → list_all (λ b. not (test b)) (take n text) ≡ true
none_before test text n le none = all_from_get (λ b. not (test b)) (take n text) (λ i lt. each i (omega (arith, lt, length-take-le n text le))) where
  each : (i : ℕ) → i < n → not (test (get_or (take n text) i 0)) ≡ true
  each i lt = rw (get_or-take n text i 0 lt) (refused (test (get_or text i 0)) (none i (omega arith) lt))
