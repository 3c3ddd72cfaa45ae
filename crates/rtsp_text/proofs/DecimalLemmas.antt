-- Decimal numbers.
use Rattle.std.proofs.Common.{◌≡◌, ℕ, ◌+◌, ◌-◌, ◌*◌, ◌^◌, ◌<◌, ◌≤◌, Bool, true, false, cond, List, [], ◌∷◌, length, get_or, take, refl, sym, subst, ◌∙◌, arith, Some, None, lit<, zero, suc, eqb, ap, Option}
use Rattle.std.specs.Prelude.{nat_lt, ◌||◌, IfSome}
use Rattle.std.specs.Char.{digit_value, is_ascii_digit}
use Rattle.std.specs.List.{list_all}
use Rattle.std.specs.Str.Parse.{AllDigits, digits_value}
use Rattle.std.proofs.Math.Nat.{pow-le-pow_right}
use Rattle.std.proofs.lemmas.Bool.Decides.{nat_tests}
use Rattle.std.proofs.lemmas.List.{take_all, length-take}
use Rattle.std.proofs.lemmas.List.Folds.{list_all_at, list_all_more}
use Rattle.std.proofs.lemmas.Int.Digits.{digits_value-lt, digits_value_more}
use Rattle.rtsp_text.specs.Decimal.{SpellsNumber, digits_number, number_of}
use Rattle.std.proofs.lemmas.Bool.{and_parts, and_from, le-ltb, ltb-false, eqb-false, ne_eqb}
use Rattle.rtsp_text.specs.Options.{Finds}

pub digit_is : (c : ℕ) → is_ascii_digit c ≡ true → (digit_value c ≡ c - 48) × (digit_value c < 10)
digit_is c e = grind (arith, nat_tests)

pub digit_byte : (c : ℕ) → digit_value c < 10 → is_ascii_digit c ≡ true
digit_byte c small = grind (arith, nat_tests)

pub all_digits : (text : List ℕ) → list_all is_ascii_digit text ≡ true → AllDigits 10 text
all_digits [] e = tt
all_digits (c ∷ cs) e = let p = and_parts (is_ascii_digit c) (list_all is_ascii_digit cs) e in ((digit_is c p.0).1, all_digits cs p.1)

pub digit_bytes : (text : List ℕ) → AllDigits 10 text → list_all is_ascii_digit text ≡ true
digit_bytes [] all = refl
digit_bytes (c ∷ cs) all = and_from (is_ascii_digit c) (list_all is_ascii_digit cs) (digit_byte c all.0) (digit_bytes cs all.1)

-- the first i bytes are digits, and write the number
pub record IsFront (text : List ℕ) (i number : ℕ) : Type 0 where
  pub tests : list_all is_ascii_digit (take i text) ≡ true
  pub value : number ≡ digits_value 10 (take i text)

-- with one digit more
pub more_front : (text : List ℕ) (i number : ℕ) → i < length text → is_ascii_digit (get_or text i 0) ≡ true → IsFront text i number → IsFront text (i + 1) (number * 10 + (get_or text i 0 - 48))
more_front text i number lt digit front = record {
  tests = list_all_more is_ascii_digit text i 0 lt ∙ and_from (list_all is_ascii_digit (take i text)) (is_ascii_digit (get_or text i 0)) front.tests digit;
  value = let v = digits_value_more 10 text i lt in let d = digit_is (get_or text i 0) digit in omega (arith, v, d.0, front.value);
}

pub front_small : (text : List ℕ) (i number : ℕ) → i ≤ length text → IsFront text i number → number < 10 ^ i
front_small text i number le front =
    let h = digits_value-lt 10 (take i text) (all_digits (take i text) front.tests) in
    let n : length (take i text) ≡ i = omega (arith, length-take i text) in
    let small : digits_value 10 (take i text) < 10 ^ i = subst (λ (k : ℕ). digits_value 10 (take i text) < 10 ^ k) n h in
    omega (arith, small, front.value)

pub power_fits : (i : ℕ) → i ≤ 19 → 10 ^ i < 2 ^ 64
power_fits i le = let h : 10 ^ i ≤ 10 ^ 19 = pow-le-pow_right (lit< tt) le in omega (arith, h)

-- the number with one digit more fits
pub more_fits : (text : List ℕ) (i number : ℕ) → length text ≤ 19 → i < length text → is_ascii_digit (get_or text i 0) ≡ true → IsFront text i number → number * 10 + (get_or text i 0 - 48) < 2 ^ 64
more_fits text i number short lt digit front =
    let h = front_small text (i + 1) (number * 10 + (get_or text i 0 - 48)) (omega arith) (more_front text i number lt digit front) in
    omega (arith, h, power_fits (i + 1) (omega arith))

pub number_none : (text : List ℕ) (i : ℕ) → i < length text → is_ascii_digit (get_or text i 0) ≡ false → digits_number text ≡ None
unfolding digits_number
number_none text i lt e = rw (list_all_at is_ascii_digit text i 0 lt e) refl

pub whole_number : (text : List ℕ) (i number : ℕ) → length text ≤ i → IsFront text i number → digits_number text ≡ Some number
unfolding digits_number
whole_number text i number le front =
    let tests : list_all is_ascii_digit text ≡ true = rw (take_all i text le) at front.tests in
    let value : digits_value 10 text ≡ number = sym (rw (take_all i text le) at front.value) in
    rw (tests, value) refl

-- and what the reading says
pub number_found : (text : List ℕ) (n : ℕ) → digits_number text ≡ Some n → AllDigits 10 text × (n ≡ digits_value 10 text)
unfolding digits_number
number_found text n e = go (list_all is_ascii_digit text) refl e where
  go : (b : Bool) → list_all is_ascii_digit text ≡ b → cond b (Some (digits_value 10 text)) None ≡ Some n → AllDigits 10 text × (n ≡ digits_value 10 text)
  go true t s = (all_digits text t, cc)
  go false t s = absurd cc

pub number_again : (text : List ℕ) → AllDigits 10 text → digits_number text ≡ Some (digits_value 10 text)
unfolding digits_number
number_again text all = rw (digit_bytes text all) refl

-- ---- numbers of few digits

positive : (k : ℕ) → (k ≡ 0 → ⊥) → 0 < k
positive zero h = absurd (h refl)
positive (suc k) h = omega arith

pub numbers : (most : ℕ) → Finds (SpellsNumber most) (number_of most)
unfolding number_of
numbers most = record { sound = λ text. go text (eqb (length text) 0) (nat_lt most (length text)) refl refl; complete = again } where
  go : (text : List ℕ) (x y : Bool) → eqb (length text) 0 ≡ x → nat_lt most (length text) ≡ y → IfSome (cond (x || y) None (digits_number text)) (SpellsNumber most text)
  go text true y p q = tt
  go text false true p q = tt
  go text false false p q = at (digits_number text) refl where
    at : (o : Option ℕ) → digits_number text ≡ o → IfSome o (SpellsNumber most text)
    at None e = tt
    at (Some n) e =
        let f = number_found text n e in
        let some : length text ≡ 0 → ⊥ = eqb-false (length text) 0 p in
        record { digits = (positive (length text) some, f.0); few = ltb-false most (length text) q; value = f.1 }

  again : (text : List ℕ) (n : ℕ) → SpellsNumber most text n → cond (eqb (length text) 0 || nat_lt most (length text)) None (digits_number text) ≡ Some n
  again text n s =
      let some : eqb (length text) 0 ≡ false = ne_eqb (length text) 0 (λ z. absurd (omega (arith, s.digits.0))) in
      let few : nat_lt most (length text) ≡ false = le-ltb most (length text) s.few in
      rw (some, few) (number_again text s.digits.1 ∙ ap Some (sym s.value))

pub more_room : (o : Option ℕ) (a b : ℕ) → a ≤ b → IfSome o (λ n. n < 10 ^ a) → IfSome o (λ n. n < 10 ^ b)
more_room None a b le h = tt
more_room (Some n) a b le h = let p : 10 ^ a ≤ 10 ^ b = pow-le-pow_right {n = 10} (lit< tt) {i = a} {j = b} le in omega (arith, h)
