-- Searches in texts.
use Rattle.std.specs.Prelude.{◌≡◌, Option, Some, None, IfSome}

infixl 10 ◌>>=◌
-- nothing, or what the second finds in what the first found
abbrev pub ◌>>=◌ : {A B : Type 0} → Option A → (A → Option B) → Option B
(Some x) >>= f = f x
None >>= f = None

-- What is found in a text is what it spells, and each value that it spells is found.
pub record Finds {T X : Type 0} (Spells : T → X → Type 0) (find : T → Option X) : Type 0 where
  pub sound : (text : T) → IfSome (find text) (Spells text)
  pub complete : (text : T) (x : X) → Spells text x → find text ≡ Some x
