-- A search that finds what the grammar has.
use Rattle.std.proofs.Common.{◌≡◌, Option, Some, None, refl, subst}
use Rattle.std.specs.Prelude.{IfSome}
use Rattle.rtsp_text.specs.Options.{◌>>=◌, Finds}

pub unfound : {T X : Type 0} (Spells : T → X → Type 0) (find : T → Option X) → Finds Spells find → (text : T) → find text ≡ None → (x : X) → ¬ Spells text x
unfound Spells find r text e x s = let c = r.complete text x s in absurd cc

pub sound_at : {T X : Type 0} (Spells : T → X → Type 0) (find : T → Option X) → Finds Spells find → (text : T) (x : X) → find text ≡ Some x → Spells text x
sound_at Spells find r text x e = subst (λ (y : Option _). IfSome y (Spells text)) e (r.sound text)

-- what each step of a chain found
pub chain_found : {A B : Type 0} (o : Option A) (f : A → Option B) (y : B) → (o >>= f) ≡ Some y → (x : A) × (o ≡ Some x) × (f x ≡ Some y)
chain_found (Some x) f y e = (x, refl, e)
chain_found None f y e = absurd cc
