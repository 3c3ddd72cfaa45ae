-- Reading that may fail, and may run out of memory.
use Rattle.std.specs.Prelude.{◌≡◌, ◌⊎◌, List, [], ◌∷◌, Result, Ok, Err}

infixl 10 ◌>>=◌
-- the first fault of two steps, or what the second makes of the first
abbrev pub ◌>>=◌ : {A B E : Type 0} → Result A E → (A → Result B E) → Result B E
(Ok x) >>= f = f x
(Err e) >>= f = Err e

-- a function returned what reading gives, or the given error: memory ran out
abbrev pub Gives : {X E : Type 0} → E → Result X E → Result X E → Type 0
Gives out_of_memory (Ok x) read = read ≡ Ok x
Gives out_of_memory (Err e) read = (e ≡ out_of_memory) ⊎ (read ≡ Err e)

-- the same of a result seen by a view
abbrev pub GivesBy : {X Y E : Type 0} → E → (X → Y) → Result X E → Result Y E → Type 0
GivesBy out_of_memory view (Ok x) read = read ≡ Ok (view x)
GivesBy out_of_memory view (Err e) read = (e ≡ out_of_memory) ⊎ (read ≡ Err e)

-- what is read of each, or the first fault
unfoldable pub each_of : {X Y E : Type 0} → (X → Result Y E) → List X → Result (List Y) E
each_of read [] = Ok []
each_of read (x ∷ xs) = do
  first ← read x
  others ← each_of read xs
  Ok (first ∷ others)
