-- One value, and one parameter.
use Rattle.std.proofs.Common.{◌≡◌, ◌<◌, ◌-◌, ℕ, Bool, true, false, cond, List, [], ◌∷◌, ◌++◌, length, get_or, take, drop, Option, Some, None, refl, sym, ◌∙◌, ap, subst, inl, inr, arith}
use Rattle.std.specs.Prelude.{◌==◌, ◌&&◌, ◌||◌, not}
use Rattle.std.specs.List.{list_all, prefix_len}
use Rattle.std.proofs.lemmas.Bool.{eqb-true, and_parts, not-true}
use Rattle.std.proofs.lemmas.Bool.Decides.{nat_tests}
use Rattle.std.proofs.lemmas.List.{take-append-drop}
use Rattle.rtsp_text.specs.Bytes.{is_blank, is_token, is_token_byte, is_other}
use Rattle.rtsp_text.specs.Options.{◌>>=◌}
use Rattle.rtsp_text.specs.SplitOnce.{split_once}
use Rattle.rtsp_text.specs.Trim.{trim_start, trim_end}
use Rattle.rtsp_text.proofs.ByteLemmas.{all_weaker, other, all_other, all_get, all_joined, some_parts}
use Rattle.rtsp_text.proofs.PaddingLemmas.{trim_end_pad, trim_start_pad, front_blank, back_blank, kept}
use Rattle.rtsp_text.proofs.SplitLemmas.{split_found, split_parts}
use Rattle.rtsp_credentials.specs.Parameters.{is_plain_byte, quoted_of, value_of, parameter_of}
use Rattle.rtsp_credentials.specs.Grammar.{SpellsValue, SpellsParameter}

pub bind_some : {A B : Type 0} (o : Option A) (f : A → Option B) (y : B) → (o >>= f) ≡ Some y → (x : A) × ((o ≡ Some x) × (f x ≡ Some y))
bind_some (Some x) f y h = (x, (refl, h))
bind_some None f y h = absurd cc

chosen : {A : Type 0} (b : Bool) (x y : A) → cond b (Some x) None ≡ Some y → (b ≡ true) × (x ≡ y)
chosen true x y h = (refl, cc)
chosen false x y h = absurd cc

pub no_bytes : (xs : List ℕ) → (length xs == 0) ≡ true → xs ≡ []
no_bytes [] h = refl
no_bytes (x ∷ xs) h = absurd (grind (arith, nat_tests))

pub some_bytes : (x : ℕ) (xs : List ℕ) → (length (x ∷ xs) == 0) ≡ false
some_bytes x xs = grind (arith, nat_tests)

-- ---- a value

pub plain_other : (b : ℕ) → is_plain_byte b ≡ true → is_other 34 b ≡ true
plain_other b h = go (b == 34) (b == 92) h where
  go : (x y : Bool) → not (x || y) ≡ true → not x ≡ true
  go true y h = h
  go false y h = refl

quoted_read : (value : List ℕ) → list_all is_plain_byte value ≡ true → quoted_of (value ++ 34 ∷ []) ≡ Some value
quoted_read value plain =
    ap (λ (o : Option (List ℕ × List ℕ)). o >>= (λ (p : List ℕ × List ℕ). cond ((length p.1 == 0) && list_all is_plain_byte p.0) (Some p.0) None))
    (split_found 34 value [] (all_weaker is_plain_byte (is_other 34) value plain_other plain))
    ∙ ap (λ (b : Bool). cond b (Some value) None) plain

token_read : (value : List ℕ) → is_token value ≡ true → value_of value ≡ Some value
unfolding value_of
token_read [] h = absurd cc
token_read (b ∷ rest) h =
    let all = (some_parts is_token_byte (b ∷ rest) h).1 in
    let first = (and_parts (is_other 34 b) (list_all (is_other 34) rest) (all_other is_token_byte 34 (b ∷ rest) refl all)).0 in
    ap (λ (x : Bool). cond x (quoted_of rest) (cond (is_token (b ∷ rest)) (Some (b ∷ rest)) None)) (not-true (b == 34) first)
    ∙ ap (λ (x : Bool). cond x (Some (b ∷ rest)) None) h

pub value_read : (text value : List ℕ) → SpellsValue text value → value_of text ≡ Some value
unfolding value_of
value_read text value (inl h) = ap value_of h.0 ∙ token_read value h.1
value_read text value (inr h) = ap value_of h.0 ∙ quoted_read value h.1

quoted_spelled : (rest value : List ℕ) → quoted_of rest ≡ Some value → (rest ≡ value ++ 34 ∷ []) × (list_all is_plain_byte value ≡ true)
quoted_spelled rest value h =
    let s = bind_some (split_once 34 rest) (λ (p : List ℕ × List ℕ). cond ((length p.1 == 0) && list_all is_plain_byte p.0) (Some p.0) None) value h in
    let t = chosen ((length s.0.1 == 0) && list_all is_plain_byte s.0.0) s.0.0 value s.1.1 in
    let u = and_parts (length s.0.1 == 0) (list_all is_plain_byte s.0.0) t.0 in
    let parts = (split_parts 34 rest s.0 s.1.0).0 in
    (parts ∙ ap (λ (xs : List ℕ). s.0.0 ++ 34 ∷ xs) (no_bytes s.0.1 u.0) ∙ ap (λ (xs : List ℕ). xs ++ 34 ∷ []) t.1, subst (λ (xs : List ℕ). list_all is_plain_byte xs ≡ true) t.1 u.1)

pub value_spelled : (text value : List ℕ) → value_of text ≡ Some value → SpellsValue text value
unfolding value_of
value_spelled [] value h = absurd cc
value_spelled (b ∷ rest) value h = go (b == 34) refl h where
  go : (x : Bool) → (b == 34) ≡ x → cond x (quoted_of rest) (cond (is_token (b ∷ rest)) (Some (b ∷ rest)) None) ≡ Some value → SpellsValue (b ∷ rest) value
  go true q h = let s = quoted_spelled rest value h in inr (ap (λ (n : ℕ). n ∷ rest) (eqb-true b 34 q) ∙ ap (λ (xs : List ℕ). 34 ∷ xs) s.0, s.1)
  go false q h = let s = chosen (is_token (b ∷ rest)) (b ∷ rest) value h in inl (s.1, subst (λ (xs : List ℕ). is_token xs ≡ true) s.1 s.0)

-- ---- a parameter

not_blank : (b : ℕ) → is_other 32 b ≡ true → is_other 9 b ≡ true → is_blank b ≡ false
not_blank b s t = go (b == 32) (b == 9) s t where
  go : (x y : Bool) → not x ≡ true → not y ≡ true → (x || y) ≡ false
  go true y s t = absurd cc
  go false true s t = absurd cc
  go false false s t = refl

token_byte : (b : ℕ) → is_token_byte b ≡ true → is_blank b ≡ false
token_byte b h = not_blank b (other is_token_byte 32 b refl h) (other is_token_byte 9 b refl h)

pub token_at : (text : List ℕ) (i : ℕ) → is_token text ≡ true → i < length text → is_blank (get_or text i 0) ≡ false
token_at text i h lt = token_byte (get_or text i 0) (all_get is_token_byte text i (some_parts is_token_byte text h).1 lt)

value_first : (text value : List ℕ) → SpellsValue text value → 0 < length text → is_blank (get_or text 0 0) ≡ false
value_first text value (inl h) lt = token_at text 0 (subst (λ (xs : List ℕ). is_token xs ≡ true) (sym h.0) h.1) lt
value_first text value (inr h) lt = ap (λ (xs : List ℕ). is_blank (get_or xs 0 0)) h.0

pub parameter_read : (text : List ℕ) (p : List ℕ × List ℕ) → SpellsParameter text p → parameter_of text ≡ Some p
unfolding parameter_of
parameter_read text p s =
    let named = (some_parts is_token_byte p.0 s.named).1 in
    let front = all_joined (is_other 61) p.0 s.before (all_other is_token_byte 61 p.0 refl named) (all_other is_blank 61 s.before refl s.before_blank) in
    let cut = ap (split_once 61) s.parts ∙ split_found 61 (p.0 ++ s.before) (s.behind ++ s.written) front in
    let value = ap value_of (trim_start_pad s.behind s.written s.behind_blank (value_first s.written p.1 s.spelled)) ∙ value_read s.written p.1 s.spelled in
    let name = trim_end_pad p.0 s.before s.before_blank (λ lt. token_at p.0 (length p.0 - 1) s.named (omega arith)) in
    ap (λ (o : Option (List ℕ × List ℕ)). o >>= (λ (h : List ℕ × List ℕ). value_of (trim_start h.1) >>= (λ (v : List ℕ). cond (is_token (trim_end h.0)) (Some (trim_end h.0, v)) None))) cut
    ∙ ap (λ (o : Option (List ℕ)). o >>= (λ (v : List ℕ). cond (is_token (trim_end (p.0 ++ s.before))) (Some (trim_end (p.0 ++ s.before), v)) None)) value
    ∙ ap (λ (n : List ℕ). cond (is_token n) (Some (n, p.1)) None) name ∙ ap (λ (b : Bool). cond b (Some (p.0, p.1)) None) s.named

pub parameter_spelled : (text : List ℕ) (p : List ℕ × List ℕ) → parameter_of text ≡ Some p → SpellsParameter text p
unfolding parameter_of
parameter_spelled text p h =
    let s = bind_some (split_once 61 text) (λ (h : List ℕ × List ℕ). value_of (trim_start h.1) >>= (λ (v : List ℕ). cond (is_token (trim_end h.0)) (Some (trim_end h.0, v)) None)) p h in
    let t = bind_some (value_of (trim_start s.0.1)) (λ (v : List ℕ). cond (is_token (trim_end s.0.0)) (Some (trim_end s.0.0, v)) None) p s.1.1 in
    let u = chosen (is_token (trim_end s.0.0)) (trim_end s.0.0, t.0) p t.1.1 in
    let spelled = value_spelled (trim_start s.0.1) t.0 t.1.0 in
    let name : trim_end s.0.0 ≡ p.0 = ap (λ (q : List ℕ × List ℕ). q.0) u.1 in
    record {
      before = drop (kept s.0.0) s.0.0;
      behind = take (prefix_len is_blank s.0.1) s.0.1;
      written = trim_start s.0.1;
      parts = (split_parts 61 text s.0 s.1.0).0
          ∙ ap (λ (xs : List ℕ). xs ++ 61 ∷ s.0.1) (sym (take-append-drop (kept s.0.0) s.0.0))
          ∙ ap (λ (xs : List ℕ). (xs ++ drop (kept s.0.0) s.0.0) ++ 61 ∷ s.0.1) name
          ∙ ap (λ (xs : List ℕ). (p.0 ++ drop (kept s.0.0) s.0.0) ++ 61 ∷ xs) (sym (take-append-drop (prefix_len is_blank s.0.1) s.0.1));
      named = subst (λ (xs : List ℕ). is_token xs ≡ true) name u.0;
      before_blank = back_blank s.0.0;
      behind_blank = front_blank s.0.1;
      spelled = subst (λ (v : List ℕ). SpellsValue (trim_start s.0.1) v) (ap (λ (q : List ℕ × List ℕ). q.1) u.1) spelled;
    }
