-- The fourth rule: the length of the body (RFC 7826 section 18.17, Content-Length).
use Rattle.std.specs.Prelude.{◌≡◌, ℕ, ◌<◌, ◌≤◌, ◌⊎◌, Bool, ◌&&◌, true, false, nat_le, List, [], ◌∷◌, length, codes, Result, Ok, Err}
use Rattle.rtsp_text.specs.Bytes.{is_number}
use Rattle.rtsp_grammar.specs.Header.{HeaderText, values_of}
use Rattle.rtsp_grammar.specs.Number.{number_of}
use Rattle.rtsp_grammar.specs.declared.fault.MessageFault.{MessageFault}
use Rattle.rtsp_grammar.specs.declared.fault.MessageFault.TheVariants.{BodyTooLong, BadLength}

-- one to ten digits
abbrev pub is_length : List ℕ → Bool
is_length value = is_number value && nat_le (length value) 10

-- the value is this length, which is within the limit
pub record IsBodyLength (value : List ℕ) (n : ℕ) : Type 0 where
  pub written : is_length value ≡ true
  pub number : n ≡ number_of value
  pub few : number_of value ≤ 65536

-- the value is a length above the limit
pub record IsOverLength (value : List ℕ) : Type 0 where
  pub written : is_length value ≡ true
  pub many : 65536 < number_of value

-- at most 65,536; a greater number is BodyTooLong, another text BadLength
abbrev pub ValueRule : List ℕ → Result ℕ MessageFault → Type 0
ValueRule value (Ok n) = IsBodyLength value n
ValueRule value (Err fault) = ((fault ≡ BodyTooLong) × IsOverLength value) ⊎ ((fault ≡ BadLength) × (is_length value ≡ false))

-- no value is no body, and a second one is BadLength
abbrev pub ValuesRule : List (List ℕ) → Result ℕ MessageFault → Type 0
ValuesRule [] (Ok n) = n ≡ 0
ValuesRule [] (Err fault) = ⊥
ValuesRule (value ∷ []) read = ValueRule value read
ValuesRule (value ∷ other ∷ values) (Ok n) = ⊥
ValuesRule (value ∷ other ∷ values) (Err fault) = fault ≡ BadLength

-- the length of the body of a message with these headers
abbrev pub LengthRule : List HeaderText → Result ℕ MessageFault → Type 0
LengthRule headers read = ValuesRule (values_of (codes "Content-Length") headers) read
