-- Users in a map, by name.
use Rattle.std.proofs.Common.{◌≡◌, ℕ, Bool, true, false, cond, List, [], ◌∷◌, ◌++◌, map, Option, Some, None, Result, Ok, Err, refl, inr, sym, ◌∙◌, ap, subst}
use Rattle.std.specs.Prelude.{◌⊎◌, bytes_eq, find, not, is_some, OnOk, IfErr}
use Rattle.std.specs.Global.{Vec}
use Rattle.std.specs.Option.{option_map}
use Rattle.std.specs.Map.{lookup}
use Rattle.indexmap.specs.IndexMap.{IndexMap, get, insert_entry}
use Rattle.indexmap.proofs.CallerLemmas.{insert_entry-new}
use Rattle.rtsp_text.specs.Results.{◌>>=◌}
use Rattle.rtsp_credentials.specs.Adding.{must, with_new}
use Rattle.rtsp_credentials.specs.User.{User, user, is_named, secret_at}
use Rattle.rtsp_credentials.specs.declared.users_fault.UsersFault.{UsersFault}
use Rattle.rtsp_credentials.specs.declared.users_fault.UsersFault.TheVariants.{Twice, OutOfMemory}

abbrev Entries : Type 0
Entries = List (Vec ℕ × List ℕ)

abbrev pub listed : Entries → List User
listed es = map (λ e. user e.0.items e.1) es

abbrev pub same_name : Vec ℕ → Vec ℕ → Bool
same_name k l = bytes_eq k.items l.items

pub looked_up : (name : List ℕ) (es : Entries) → secret_at (listed es) name ≡ lookup (λ (k : Vec ℕ). bytes_eq name k.items) es
looked_up name [] = refl
looked_up name (e ∷ es) = go (bytes_eq name e.0.items) (looked_up name es) where
  go : (x : Bool) → secret_at (listed es) name ≡ lookup (λ (k : Vec ℕ). bytes_eq name k.items) es
      → option_map (λ (u : User). u.secret) (cond x (Some (user e.0.items e.1)) (find (is_named name) (listed es))) ≡ cond x (Some e.1) (lookup (λ (k : Vec ℕ). bytes_eq name k.items) es)
  go true rest = refl
  go false rest = rest

listed_last : (es : Entries) (k : Vec ℕ) (secret : List ℕ) → listed (es ++ (k, secret) ∷ []) ≡ listed es ++ user k.items secret ∷ []
listed_last [] k secret = refl
listed_last (e ∷ es) k secret = ap (λ (us : List User). user e.0.items e.1 ∷ us) (listed_last es k secret)

-- what a map says of a name, in the words of a list
here : {S : Type 0} (m : IndexMap (Vec ℕ) (List ℕ) S) (k : Vec ℕ) (name secret : List ℕ) (found : Option (List ℕ)) → k.items ≡ name → found ≡ get same_name m k
    → with_new (listed m.entries) name secret ≡ (must (not (is_some found)) Twice >>= λ (once : Unit {0}). Ok (listed m.entries ++ user name secret ∷ []))
unfolding with_new
here m k name secret found is e =
    ap (λ (o : Option (List ℕ)). must (not (is_some o)) Twice >>= λ (once : Unit {0}). Ok (listed m.entries ++ user name secret ∷ []))
    (ap (secret_at (listed m.entries)) (sym is) ∙ looked_up k.items m.entries ∙ sym e)

-- a name that wasn't there
is_new : {S : Type 0} (m : IndexMap (Vec ℕ) (List ℕ) S) (k : Vec ℕ) (name secret stored : List ℕ) (new : Entries) → k.items ≡ name → stored ≡ secret → None ≡ get same_name m k
    → new ≡ insert_entry same_name m.entries k stored → with_new (listed m.entries) name secret ≡ Ok (listed new)
is_new m k name secret stored new is kept none e =
    here m k name secret None is none
    ∙ ap (λ (n : List ℕ). Ok (listed m.entries ++ user n secret ∷ [])) (sym is)
    ∙ ap (λ (s : List ℕ). Ok (listed m.entries ++ user k.items s ∷ [])) (sym kept)
    ∙ ap (λ (us : List User). Ok us) (sym (ap listed (e ∙ insert_entry-new same_name m k stored (sym none)) ∙ listed_last m.entries k stored))

module _ {S : Type 0} (m : IndexMap (Vec ℕ) (List ℕ) S) (k : Vec ℕ) (name secret stored : List ℕ) (new : Entries) (result : Result (Unit {0}) UsersFault)
    (is : k.items ≡ name) (kept : stored ≡ secret) (e : new ≡ insert_entry same_name m.entries k stored) where
  abbrev Added : Result (Unit {0}) UsersFault → Type 0
  Added r = OnOk r (with_new (listed m.entries) name secret ≡ Ok (listed new))

  abbrev Refused : Result (Unit {0}) UsersFault → Type 0
  Refused r = IfErr r (λ f. (f ≡ OutOfMemory) ⊎ (with_new (listed m.entries) name secret ≡ Err f))

  -- a name that was inserted
  pub inserts : (found : Option (List ℕ)) (absent : Bool) → found ≡ get same_name m k → is_some found ≡ not absent → result ≡ must absent Twice → Added result
  inserts None true old n r = subst Added (sym r) (is_new m k name secret stored new is kept old e)
  inserts None false old n r = absurd cc
  inserts (Some o) true old n r = absurd cc
  inserts (Some o) false old n r = subst Added (sym r) tt

  -- or was there
  pub refuses : (found : Option (List ℕ)) (absent : Bool) → found ≡ get same_name m k → is_some found ≡ not absent → result ≡ must absent Twice → Refused result
  refuses None true old n r = subst Refused (sym r) tt
  refuses None false old n r = absurd cc
  refuses (Some o) true old n r = absurd cc
  refuses (Some o) false old n r = subst Refused (sym r) (inr (here m k name secret (Some o) is old))
