-- Texts appended one after another by calls that may fail.
use Rattle.std.proofs.Common.{◌≡◌, ℕ, List, [], ◌∷◌, ◌++◌, Result, refl, ap, ◌∙◌, sym, append_assoc}
use Rattle.std.specs.Prelude.{OnOk}
use Rattle.std.proofs.lemmas.List.{append-nil}
use Rattle.std.proofs.lemmas.Result.{on_ok_weaker}
use Rattle.rtsp_metrics.specs.Families.{Sample, Family, sample_line, sample_lines, family_text, families_text}

pub append_nil : (l : List ℕ) → l ++ [] ≡ l
append_nil l = append-nil l

-- a text, and then what a last call appends
pub appended : {E : Type 0} (r : Result (Unit {0}) E) (old mid new a b : List ℕ) → mid ≡ old ++ a → OnOk r (new ≡ mid ++ b) → OnOk r (new ≡ old ++ (a ++ b))
appended r old mid new a b e h = on_ok_weaker r (λ p. p ∙ ap (λ (t : List ℕ). t ++ b) e ∙ append_assoc old a b) h

-- what a last call appends, with nothing behind it
pub appended_last : {E : Type 0} (r : Result (Unit {0}) E) (mid new a : List ℕ) → OnOk r (new ≡ mid ++ a) → OnOk r (new ≡ mid ++ (a ++ []))
appended_last r mid new a h = on_ok_weaker r (λ p. p ∙ ap (λ (t : List ℕ). mid ++ t) (sym (append_nil a))) h

-- three texts, one behind another
pub behind : (a b c : List ℕ) → (a ++ b) ++ c ≡ a ++ (b ++ c)
behind a b c = append_assoc a b c

-- the lines of figures, and of further ones
pub sample_lines-append : (name : List ℕ) (a b : List Sample) → sample_lines name (a ++ b) ≡ sample_lines name a ++ sample_lines name b
sample_lines-append name [] b = refl
sample_lines-append name (s ∷ a) b =
    ap (λ (t : List ℕ). sample_line name s.mark s.value ++ t) (sample_lines-append name a b) ∙ sym (append_assoc (sample_line name s.mark s.value) (sample_lines name a) (sample_lines name b))

-- the lines of families, and of further ones
pub families_text-append : (a b : List Family) → families_text (a ++ b) ≡ families_text a ++ families_text b
families_text-append [] b = refl
families_text-append (f ∷ a) b =
    ap (λ (t : List ℕ). family_text f ++ t) (families_text-append a b) ∙ sym (append_assoc (family_text f) (families_text a) (families_text b))

-- families, and then those that a last call appends
pub appended_families : {E : Type 0} (r : Result (Unit {0}) E) (old mid new : List ℕ) (a b : List Family) →
    mid ≡ old ++ families_text a → OnOk r (new ≡ mid ++ families_text b) → OnOk r (new ≡ old ++ families_text (a ++ b))
appended_families r old mid new a b e h =
    on_ok_weaker r (λ p. p ∙ ap (λ (t : List ℕ). old ++ t) (sym (families_text-append a b)))
    (appended r old mid new (families_text a) (families_text b) e h)
