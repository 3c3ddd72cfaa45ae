-- A header that may stand once, by what is found of its name.
use Rattle.std.proofs.Common.{◌≡◌, ℕ, ◌<◌, List, [], length, refl, ap, ◌∙◌, Option, Some, None, option_map, Ok, Err}
use Rattle.std.proofs.lemmas.Bool.{lt-ltb}
use Rattle.std.specs.List.{cons_option}
use Rattle.std.specs.Borrow.{Bor}
use Rattle.rtsp_grammar.specs.Header.{HeaderText, values_of}
use Rattle.rtsp_state.specs.Values.{single_of, single_value}
use Rattle.rtsp_state.specs.declared.status.Status.TheVariants.{BadRequest}
use Rattle.rtsp_state.specs.declared.fault.Fault.TheVariants.{Refused}

pub single_found : (name : List ℕ) (hs : List HeaderText) (found : Option (Bor (List ℕ))) → values_of name hs ≡ cons_option (option_map (λ v. v.now) found) [] → single_value name hs ≡ Ok (option_map (λ v. v.now) found)
single_found name hs found e = ap single_of e ∙ alone found where
  alone : (found : Option (Bor (List ℕ))) → single_of (cons_option (option_map (λ v. v.now) found) []) ≡ Ok (option_map (λ v. v.now) found)
  alone None = refl
  alone (Some v) = refl

pub several_found : (name : List ℕ) (hs : List HeaderText) → 1 < length (values_of name hs) → single_value name hs ≡ Err (Refused BadRequest)
several_found name hs many = rw (lt-ltb 1 (length (values_of name hs)) many) refl
