-- A port in digits without a leading zero is written as they are.
use Rattle.std.proofs.Common.{◌≡◌, ◌≢◌, ℕ, ◌-◌, ◌<◌, ◌≤◌, List, [], ◌∷◌, ◌++◌, length, take, drop, get_or, Some, sym, ap, ◌∙◌, arith, take-append-drop}
use Rattle.std.specs.Prelude.{decimal}
use Rattle.std.proofs.lemmas.List.{take_all}
use Rattle.std.proofs.lemmas.Fmt.{decimal-digits_value}
use Rattle.std.proofs.lemmas.Str.Parse.{numerals_by_value, tells_digits}
use Rattle.rtsp_text.specs.Decimal.{SpellsNumber, number_of}
use Rattle.rtsp_text.proofs.FindsLemmas.{sound_at}
use Rattle.rtsp_text.proofs.DecimalLemmas.{numbers}
use Rattle.rtsp_state.specs.PlainUri.{FollowsPort}

-- digits that a number is read from, of which a first zero is none
pub port_digits : (digits : List ℕ) (n : ℕ) → number_of 5 digits ≡ Some n → n < 65536 → get_or digits 0 0 ≢ 48 → (x : ℕ) × (x < 65536) × (digits ≡ decimal x)
port_digits digits n read fits first =
    let s = sound_at (SpellsNumber 5) (number_of 5) (numbers 5) digits n read in
    let value = s.value in
    let some = s.digits.0 in
    let spelled = decimal-digits_value (numerals_by_value _ tells_digits) digits s.digits.1 some (λ zero. absurd (first zero)) (omega arith) in
    (n, fits, sym (ap decimal value ∙ spelled))

-- the port between a colon and a place of the text
pub port_behind : (text digits rest : List ℕ) (place : ℕ) → 1 ≤ length text → get_or text 0 0 ≡ 58 → digits ≡ take place (take (length text - 1) (drop 1 text)) → rest ≡ drop place (take (length text - 1) (drop 1 text)) → (x : ℕ) × (x < 65536) × (digits ≡ decimal x) → FollowsPort text rest
port_behind [] digits rest place some first front back number = absurd (omega arith)
port_behind (b ∷ text) digits rest place some first front back number =
    let (n, fits, written) = number in
    let whole : take (length (b ∷ text) - 1) text ≡ text = take_all _ text (omega arith) in
    let before : take place text ≡ decimal n = sym (front ∙ ap (take place) whole) ∙ written in
    let after : drop place text ≡ rest = sym (back ∙ ap (drop place) whole) in
    let split : text ≡ decimal n ++ rest = sym (take-append-drop place text) ∙ (λ i. before i ++ after i) in
    record { port = Some n; fits = fits; spelled = λ i. first i ∷ split i }
