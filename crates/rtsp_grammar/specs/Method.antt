-- Methods of a request (RFC 7826 sections 7.1 and 13).
use Rattle.std.specs.Prelude.{◌≡◌, ℕ, Bool, true, false, List, [], ◌∷◌, codes, bytes_eq, if◌then◌else◌}
use Rattle.std.specs.List.{list_any}
use Rattle.rtsp_grammar.specs.Words.{is_method}
use Rattle.rtsp_grammar.specs.declared.method.Method.{Method}
use Rattle.rtsp_grammar.specs.declared.method.Method.TheVariants.{Describe, GetParameter, Options, Pause, Play, PlayNotify, Redirect, Setup, SetParameter, Teardown, Other}

-- the name of a method, with regard to case
abbrev pub method_name : Method → List ℕ
method_name Describe = codes "DESCRIBE"
method_name GetParameter = codes "GET_PARAMETER"
method_name Options = codes "OPTIONS"
method_name Pause = codes "PAUSE"
method_name Play = codes "PLAY"
method_name PlayNotify = codes "PLAY_NOTIFY"
method_name Redirect = codes "REDIRECT"
method_name Setup = codes "SETUP"
method_name SetParameter = codes "SET_PARAMETER"
method_name Teardown = codes "TEARDOWN"
method_name (Other name) = name

-- the ten methods of the standard
abbrev pub standard_methods : List Method
standard_methods = Options ∷ Setup ∷ Play ∷ Pause ∷ Teardown ∷ Describe ∷ GetParameter ∷ SetParameter ∷ PlayNotify ∷ Redirect ∷ []

-- one of these methods has this name
abbrev pub is_name_among : List Method → List ℕ → Bool
is_name_among methods name = list_any (λ method. bytes_eq name (method_name method)) methods

-- a token that names none of the ten is another method
abbrev pub IsCanonicalMethod : Method → Type 0
IsCanonicalMethod (Other name) = (is_method name ≡ true) × (is_name_among standard_methods name ≡ false)
IsCanonicalMethod standard = Unit {0}

-- the first of these methods that has this name, and else another method
abbrev pub method_among : List Method → List ℕ → Method
method_among [] name = Other name
method_among (method ∷ methods) name = if bytes_eq name (method_name method) then method else method_among methods name

-- the method that a token names
unfoldable pub method_of : List ℕ → Method
method_of name = method_among standard_methods name
