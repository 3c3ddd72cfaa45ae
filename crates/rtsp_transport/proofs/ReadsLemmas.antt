-- A reader that gives what the grammar has.
use Rattle.std.proofs.Common.{◌≡◌, List, [], ◌∷◌, Result, Ok, Err, refl, sym, subst, ◌∙◌, inl, inr}
use Rattle.std.specs.Prelude.{IfOk, IfErr}
use Rattle.std.specs.List.{AllByRecursion}
use Rattle.rtsp_text.specs.Results.{◌>>=◌, GivesBy, each_of}
use Rattle.rtsp_transport.specs.Paired.{Paired}
use Rattle.rtsp_transport.specs.Reads.{IsSpelled, IsMalformed, Reads, Refuses, Answers}
use Rattle.rtsp_transport.specs.declared.fault.TextFault.{TextFault}
use Rattle.rtsp_transport.specs.declared.fault.TextFault.TheVariants.{OutOfMemory}

-- a text that is refused spells nothing
pub unspelled : {T X : Type 0} (Spells : T → X → Type 0) (read : T → Result X TextFault) → Reads Spells read → (text : T) (f : TextFault) → read text ≡ Err f → IsMalformed (Spells text) f
unspelled Spells read r text f e = (subst (λ (y : Result _ TextFault). IsSpelled (Spells text) y) e (r.sound text), λ x s. let c = r.complete text x s in absurd cc)

pub found : {T X Y : Type 0} (Spells : T → Y → Type 0) (read : T → Result Y TextFault) → Reads Spells read → (view : X → Y) (text : T) (result : Result X TextFault) → GivesBy OutOfMemory view result (read text)
    → IfOk result (λ x. Spells text (view x))
found Spells read r view text (Ok x) g = subst (λ (y : Result _ TextFault). IsSpelled (Spells text) y) g (r.sound text)
found Spells read r view text (Err f) g = tt

pub only : {T X Y : Type 0} (Spells : T → Y → Type 0) (read : T → Result Y TextFault) → Reads Spells read → (view : X → Y) (text : T) (result : Result X TextFault) → GivesBy OutOfMemory view result (read text)
    → (y : Y) → Spells text y → Answers view result y
only Spells read r view text (Ok x) g y s = let c = r.complete text y s in let e : Ok (view x) ≡ Ok y = sym g ∙ c in cc
only Spells read r view text (Err f) (inl m) y s = m
only Spells read r view text (Err f) (inr g) y s = let c = r.complete text y s in absurd cc

pub refused : {T X Y : Type 0} (Spells : T → Y → Type 0) (read : T → Result Y TextFault) → Reads Spells read → (view : X → Y) (text : T) (result : Result X TextFault) → GivesBy OutOfMemory view result (read text)
    → IfErr result (λ f. Refuses (Spells text) f)
refused Spells read r view text (Ok x) g = tt
refused Spells read r view text (Err f) (inl m) = inl m
refused Spells read r view text (Err f) (inr g) = inr (unspelled Spells read r text f g)

-- reading each of a list, where each text is of a kind
pub each_sound : {T X : Type 0} (Spells : T → X → Type 0) (read : T → Result X TextFault) (Kind : T → Type 0) → ((t : T) → Kind t → IsSpelled (Spells t) (read t))
    → (texts : List T) → AllByRecursion Kind texts → IsSpelled (Paired Spells texts) (each_of read texts)
unfolding each_of
each_sound Spells read Kind sound [] k = tt
each_sound {T} {X} Spells read Kind sound (t ∷ ts) k = go (read t) (each_of read ts) (sound t k.0) (each_sound Spells read Kind sound ts k.1) where
  go : (a : Result X TextFault) (b : Result (List X) TextFault) → IsSpelled (Spells t) a → IsSpelled (Paired Spells ts) b → IsSpelled (Paired Spells (t ∷ ts)) (a >>= λ x. b >>= λ xs. Ok (x ∷ xs))
  go (Ok x) (Ok xs) p q = (p, q)
  go (Ok x) (Err f) p q = q
  go (Err f) b p q = p

pub each_complete : {T X : Type 0} (Spells : T → X → Type 0) (read : T → Result X TextFault) → ((t : T) (x : X) → Spells t x → read t ≡ Ok x) → (texts : List T) (xs : List X) → Paired Spells texts xs → each_of read texts ≡ Ok xs
unfolding each_of
each_complete Spells read r [] [] p = refl
each_complete Spells read r [] (x ∷ xs) p = absurd p
each_complete Spells read r (t ∷ ts) [] p = absurd p
each_complete Spells read r (t ∷ ts) (x ∷ xs) p =
    let a = r t x p.0 in let b = each_complete Spells read r ts xs p.1 in rw (a, b) refl

-- each text is of the kind
pub any_kind : {T : Type 0} (texts : List T) → AllByRecursion (λ _. Unit {0}) texts
any_kind [] = tt
any_kind (t ∷ ts) = (tt, any_kind ts)

pub each_reads : {T X : Type 0} (Spells : T → X → Type 0) (read : T → Result X TextFault) → Reads Spells read → Reads (Paired Spells) (each_of read)
each_reads Spells read r = record { sound = λ ts. each_sound Spells read (λ _. Unit {0}) (λ t _. r.sound t) ts (any_kind ts); complete = each_complete Spells read r.complete }
