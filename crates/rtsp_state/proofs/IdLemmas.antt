-- Hexadecimal digits, read.
use Rattle.std.proofs.Common.{◌≡◌, ℕ, zero, suc, ◌+◌, ◌-◌, ◌<◌, ◌≤◌, ◌^◌, Bool, true, false, List, length, take, get_or, Option, Some, None, refl, sym, ap, subst, ◌∙◌, inl, inr, arith, eqb, eq-eqb}
use Rattle.std.specs.Prelude.{◌&&◌, nat_le, IfSome}
use Rattle.std.specs.List.{list_all}
use Rattle.std.specs.Char.{digit_value}
use Rattle.std.specs.Str.Parse.{digits_value}
use Rattle.std.proofs.lemmas.Bool.{cases_lt, lt-ltb, le-ltb, leb-true, le-leb, or_left, or_right, or_cases, eqb-true, and_parts, and_from}
use Rattle.std.proofs.lemmas.List.{take_all}
use Rattle.std.proofs.lemmas.Int.Digits.{digits_value_more}
use Rattle.rtsp_text.specs.Hexadecimal.{hex_digit, hex_text}
use Rattle.rtsp_text.proofs.HexLemmas.{hex_none, hex_byte, step_digit, room_for_digit, length-hex_text}
use Rattle.rtsp_text.proofs.ByteLemmas.{all_get, all_from_get}
use Rattle.rtsp_state.specs.Values.{is_hex_digit, id_of}

small_digit : (d : ℕ) → d < 10 → hex_digit d ≡ 48 + d
small_digit d lt = let e = lt-ltb d 10 lt in rw e refl

great_digit : (d : ℕ) → 10 ≤ d → hex_digit d ≡ 87 + d
great_digit d le = let e = le-ltb d 10 le in rw e refl

digit_small : (c : ℕ) → 48 ≤ c → c ≤ 57 → digit_value c ≡ c - 48
digit_small c low high = let a = le-ltb c 48 low in let b = lt-ltb c 58 (omega arith) in rw (a, b) refl

letter_is : (c : ℕ) → 97 ≤ c → c ≤ 102 → digit_value c ≡ c - 87
letter_is c low high =
    let a = le-ltb c 48 (omega arith) in let b = le-ltb c 58 (omega arith) in let d = le-ltb c 65 (omega arith) in
    let e = le-ltb c 91 (omega arith) in let f = le-ltb c 97 low in let g = lt-ltb c 123 (omega arith) in rw (a, b, d, e, f, g) refl

-- a digit that is read is the one that is written
digit_facts : (b : ℕ) → is_hex_digit b ≡ true → (digit_value b < 16) × (hex_digit (digit_value b) ≡ b)
digit_facts b h = elim (or_cases (nat_le 48 b && nat_le b 57) (nat_le 97 b && nat_le b 102) h) [
  | inl x ↦
      let p = and_parts (nat_le 48 b) (nat_le b 57) x in
      let low = leb-true 48 b p.0 in let high = leb-true b 57 p.1 in
      let d = digit_small b low high in
      (omega (arith, d, low, high), ap hex_digit d ∙ small_digit (b - 48) (omega (arith, low, high)) ∙ omega (arith, low, high))
  | inr x ↦
      let p = and_parts (nat_le 97 b) (nat_le b 102) x in
      let low = leb-true 97 b p.0 in let high = leb-true b 102 p.1 in
      let d = letter_is b low high in
      (omega (arith, d, low, high), ap hex_digit d ∙ great_digit (b - 87) (omega (arith, low, high)) ∙ omega (arith, low, high))
]

-- a digit that is written is one
is_written : (d : ℕ) → d < 16 → is_hex_digit (hex_digit d) ≡ true
is_written d lt = elim (cases_lt d 10) [
  | inl x ↦ ap is_hex_digit (small_digit d x) ∙ or_left (nat_le 48 (48 + d) && nat_le (48 + d) 57) _ (and_from (nat_le 48 (48 + d)) (nat_le (48 + d) 57) (le-leb 48 (48 + d) (omega arith)) (le-leb (48 + d) 57 (omega (arith, x))))
  | inr x ↦ ap is_hex_digit (great_digit d x) ∙ or_right (nat_le 48 (87 + d) && nat_le (87 + d) 57) _ (and_from (nat_le 97 (87 + d)) (nat_le (87 + d) 102) (le-leb 97 (87 + d) (omega (arith, x))) (le-leb (87 + d) 102 (omega (arith, lt))))
]

abbrev IsRead : List ℕ → ℕ → Type 0
IsRead text k = (hex_text k (digits_value 16 (take k text)) ≡ take k text) × (digits_value 16 (take k text) < 16 ^ k)

run : (text : List ℕ) (i : ℕ) → i ≤ length text → list_all is_hex_digit text ≡ true → IsRead text i
run text zero le all = (hex_none (digits_value 16 (take 0 text)), omega arith)
run text (suc i) le all =
    let lt : i < length text = omega arith in
    let r = run text i (omega arith) all in
    let f = digit_facts (get_or text i 0) (all_get is_hex_digit text i all lt) in
    let more = digits_value_more 16 text i lt in
    let step = step_digit text i (digits_value 16 (take i text)) (digit_value (get_or text i 0)) lt f.0 f.1 r.0 in
    let room = room_for_digit (suc i) i (digits_value 16 (take i text)) (digit_value (get_or text i 0)) (omega arith) r.1 f.0 in
    let s : i + 1 ≡ suc i = omega arith in
    let same : 16 ^ (i + 1) ≡ 16 ^ suc i = ap (λ (n : ℕ). 16 ^ n) s in
    subst (IsRead text) s (ap (hex_text (i + 1)) more ∙ step, omega (arith, more, room, same))

abbrev is_id : List ℕ → Bool
is_id name = eqb (length name) 32 && list_all is_hex_digit name

back : (name : List ℕ) → is_id name ≡ true → (name ≡ hex_text 32 (digits_value 16 name)) × (digits_value 16 name < 2 ^ 128)
back name e =
    let p = and_parts (eqb (length name) 32) (list_all is_hex_digit name) e in
    let long : length name ≡ 32 = eqb-true (length name) 32 p.0 in
    let r = run name 32 (omega (arith, long)) p.1 in
    let whole : take 32 name ≡ name = take_all 32 name (omega (arith, long)) in
    (sym (subst (λ (t : List ℕ). hex_text 32 (digits_value 16 t) ≡ t) whole r.0), subst (λ (t : List ℕ). digits_value 16 t < 16 ^ 32) whole r.1)

forth : (name : List ℕ) (id : ℕ) → name ≡ hex_text 32 id → is_id name ≡ true
forth name id e =
    let long : length name ≡ 32 = ap length e ∙ length-hex_text 32 id in
    and_from (eqb (length name) 32) (list_all is_hex_digit name) (eq-eqb (length name) 32 long) (all_from_get is_hex_digit name (λ i lt.
    let r = hex_byte 32 id i (omega (arith, lt, long)) in
    ap is_hex_digit (ap (λ (t : List ℕ). get_or t i 0) e ∙ r.2) ∙ is_written r.0 r.1))

-- the id that a reader gives, if it gives each name's
pub same_id : (name : List ℕ) (o : Option ℕ) → IfSome o (λ id. name ≡ hex_text 32 id) → ((id : ℕ) → id < 2 ^ 128 → name ≡ hex_text 32 id → o ≡ Some id) → o ≡ id_of name
unfolding id_of
same_id name (Some id) found only =
    let t = forth name id found in
    let b = back name t in
    rw t (only (digits_value 16 name) b.1 b.0)
same_id name None found only = go (is_id name) refl where
  go : (t : Bool) → is_id name ≡ t → None ≡ id_of name
  go true e = let b = back name e in let bad = only (digits_value 16 name) b.1 b.0 in absurd cc
  go false e = rw e refl
