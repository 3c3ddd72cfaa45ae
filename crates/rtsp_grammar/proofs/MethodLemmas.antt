-- The method that a token names.
use Rattle.std.proofs.Common.{◌≡◌, ℕ, List, [], ◌∷◌, refl, sym, ◌∙◌, Bool, true, false, cond}
use Rattle.std.specs.Prelude.{bytes_eq, ◌||◌}
use Rattle.std.specs.List.{AllByRecursion}
use Rattle.std.specs.Cmp.Lexicographic.{same_text}
use Rattle.rtsp_grammar.specs.Method.{method_name, standard_methods, is_name_among, IsCanonicalMethod, method_among, method_of}
use Rattle.rtsp_grammar.specs.Words.{is_method}
use Rattle.rtsp_grammar.specs.declared.method.Method.{Method}
use Rattle.rtsp_grammar.specs.declared.method.Method.TheVariants.{Describe, GetParameter, Options, Pause, Play, PlayNotify, Redirect, Setup, SetParameter, Teardown, Other}

-- the method found has the name
name_among : (methods : List Method) (name : List ℕ) → method_name (method_among methods name) ≡ name
name_among [] name = refl
name_among (method ∷ methods) name = go (bytes_eq name (method_name method)) refl (name_among methods name) where
  go : (b : Bool) → bytes_eq name (method_name method) ≡ b → method_name (method_among methods name) ≡ name → method_name (cond b method (method_among methods name)) ≡ name
  go true e later = sym (same_text name (method_name method) (sym e))
  go false e later = later

pub name_of_method : (name : List ℕ) → method_name (method_of name) ≡ name
unfolding method_of
name_of_method name = name_among standard_methods name

-- it is one of these methods, or none of them has the name
canonical_among : (methods : List Method) (name : List ℕ) → AllByRecursion IsCanonicalMethod methods → is_method name ≡ true → is_name_among standard_methods name ≡ is_name_among methods name → IsCanonicalMethod (method_among methods name)
canonical_among [] name each token same = (token, same)
canonical_among (method ∷ methods) name each token same = go (bytes_eq name (method_name method)) refl (canonical_among methods name each.1 token) where
  go : (b : Bool) → bytes_eq name (method_name method) ≡ b → (is_name_among standard_methods name ≡ is_name_among methods name → IsCanonicalMethod (method_among methods name)) → IsCanonicalMethod (cond b method (method_among methods name))
  go true e later = each.0
  go false e later = later (same ∙ rw e refl)

pub method_canonical : (name : List ℕ) → is_method name ≡ true → IsCanonicalMethod (method_of name)
unfolding method_of
method_canonical name token = canonical_among standard_methods name (tt, (tt, (tt, (tt, (tt, (tt, (tt, (tt, (tt, (tt, tt)))))))))) token refl

-- a name of none of them is another method's
other_among : (methods : List Method) (name : List ℕ) → is_name_among methods name ≡ false → method_among methods name ≡ Other name
other_among [] name none = refl
other_among (method ∷ methods) name none = go (bytes_eq name (method_name method)) refl (other_among methods name) where
  go : (b : Bool) → bytes_eq name (method_name method) ≡ b → (is_name_among methods name ≡ false → method_among methods name ≡ Other name) → cond b method (method_among methods name) ≡ Other name
  go true e later = let found : (bytes_eq name (method_name method) || is_name_among methods name) ≡ true = rw e refl in absurd cc
  go false e later = later (let same : (bytes_eq name (method_name method) || is_name_among methods name) ≡ is_name_among methods name = rw e refl in sym same ∙ none)

-- a method is what its name names
pub method_again : (method : Method) → IsCanonicalMethod method → method_of (method_name method) ≡ method
unfolding method_of
method_again Describe h = refl
method_again GetParameter h = refl
method_again Options h = refl
method_again Pause h = refl
method_again Play h = refl
method_again PlayNotify h = refl
method_again Redirect h = refl
method_again Setup h = refl
method_again SetParameter h = refl
method_again Teardown h = refl
method_again (Other name) h = other_among standard_methods name h.1

pub name_is_token : (method : Method) → IsCanonicalMethod method → is_method (method_name method) ≡ true
name_is_token Describe h = refl
name_is_token GetParameter h = refl
name_is_token Options h = refl
name_is_token Pause h = refl
name_is_token Play h = refl
name_is_token PlayNotify h = refl
name_is_token Redirect h = refl
name_is_token Setup h = refl
name_is_token SetParameter h = refl
name_is_token Teardown h = refl
name_is_token (Other name) h = h.0
