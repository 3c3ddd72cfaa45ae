-- The parameter at the front of a list, where it is written plainly.
use Rattle.std.proofs.Common.{◌≡◌, ◌<◌, ◌+◌, ◌-◌, ℕ, Bool, true, false, cond, eqb, List, [], ◌∷◌, ◌++◌, length, get_or, take, Option, Some, None, refl, sym, ap, subst, ◌∙◌, inl, inr, arith, append_assoc}
use Rattle.std.specs.Prelude.{◌&&◌, ◌||◌, not, IfSome}
use Rattle.std.specs.List.{list_all, prefix_len}
use Rattle.std.proofs.lemmas.Bool.{and_parts}
use Rattle.std.proofs.lemmas.List.{append-nil, length-append, get_or_append_left, get_or-append_right, take-append-drop}
use Rattle.rtsp_text.specs.Bytes.{is_blank, is_token, is_token_byte, is_other}
use Rattle.rtsp_text.specs.Options.{◌>>=◌}
use Rattle.rtsp_text.specs.Trim.{trim_start}
use Rattle.rtsp_text.proofs.ByteLemmas.{all_weaker, all_other, some_parts}
use Rattle.rtsp_text.proofs.PaddingLemmas.{front_blank}
use Rattle.rtsp_transport.specs.Split.{is_part, split, parts_left}
use Rattle.rtsp_transport.proofs.PartsLemmas.{alone, followed}
use Rattle.rtsp_credentials.specs.declared.field.Field.{Field}
use Rattle.rtsp_credentials.specs.declared.field.Field.TheVariants.{Username, Realm, Nonce, Uri, Response, Algorithm, Qop, Nc, Cnonce}
use Rattle.rtsp_credentials.specs.Field.{name_of}
use Rattle.rtsp_credentials.specs.Front.{tail, EndsValue, IsFront}
use Rattle.rtsp_credentials.specs.Grammar.{SpellsValue, SpellsPart}
use Rattle.rtsp_credentials.specs.Parameters.{ParameterTexts, is_plain_byte, put, taken, gathered}
use Rattle.rtsp_credentials.proofs.Values.{plain_other, token_at}
use Rattle.rtsp_credentials.proofs.Spelled.{part_read}

-- ---- what is written is one part

-- bytes that are no quote and no comma may stand in front of a part
plain_before : (xs ys : List ℕ) → list_all (is_other 34) xs ≡ true → list_all (is_other 44) xs ≡ true → is_part false 44 (xs ++ ys) ≡ is_part false 44 ys
plain_before [] ys q c = refl
plain_before (b ∷ xs) ys q c =
    let s = and_parts (is_other 34 b) (list_all (is_other 34) xs) q in
    let t = and_parts (is_other 44 b) (list_all (is_other 44) xs) c in
    go (eqb b 34) (eqb b 44) s.0 t.0 (plain_before xs ys s.1 t.1) where
      go : (x y : Bool) → not x ≡ true → not y ≡ true → is_part false 44 (xs ++ ys) ≡ is_part false 44 ys
          → cond x (is_part true 44 (xs ++ ys)) ((false || not y) && is_part false 44 (xs ++ ys)) ≡ is_part false 44 ys
      go true y a c e = absurd cc
      go false true a c e = absurd cc
      go false false a c e = e

quoted_part : (value : List ℕ) → list_all (is_other 34) value ≡ true → is_part true 44 (value ++ 34 ∷ []) ≡ true
quoted_part [] h = refl
quoted_part (b ∷ value) h =
    let s = and_parts (is_other 34 b) (list_all (is_other 34) value) h in
    go (eqb b 34) (eqb b 44) s.0 (quoted_part value s.1) where
      go : (x y : Bool) → not x ≡ true → is_part true 44 (value ++ 34 ∷ []) ≡ true
          → cond x (is_part false 44 (value ++ 34 ∷ [])) ((true || not y) && is_part true 44 (value ++ 34 ∷ [])) ≡ true
      go true y a e = absurd cc
      go false y a e = e

token_plain : (c : ℕ) (text : List ℕ) → is_token_byte c ≡ false → is_token text ≡ true → list_all (is_other c) text ≡ true
token_plain c text f h = all_other is_token_byte c text f (some_parts is_token_byte text h).1

value_part : (written value : List ℕ) → SpellsValue written value → is_part false 44 written ≡ true
value_part written value (inl h) =
    ap (is_part false 44) (h.0 ∙ sym (append-nil value)) ∙ plain_before value [] (token_plain 34 value refl h.1) (token_plain 44 value refl h.1)
value_part written value (inr h) = ap (is_part false 44) h.0 ∙ quoted_part value (all_weaker is_plain_byte (is_other 34) value plain_other h.1)

-- ---- a value at the front

pub no_length : (xs : List ℕ) → length xs ≡ 0 → xs ≡ []
no_length [] e = refl
no_length (x ∷ xs) e = absurd (omega (arith, e))

pub token_ends : (text value : List ℕ) (left : Option (List ℕ)) → text ≡ value ++ tail left → is_token value ≡ true → EndsValue text value left
token_ends text value left e h = record { written = value; parts = e; spelled = inl (refl, h) }

pub quoted_ends : (rest value behind : List ℕ) (left : Option (List ℕ)) → rest ≡ value ++ 34 ∷ behind → behind ≡ tail left → list_all is_plain_byte value ≡ true
    → EndsValue (34 ∷ rest) value left
quoted_ends rest value behind left found e plain = record {
  written = 34 ∷ (value ++ 34 ∷ []);
  parts = ap (λ (xs : List ℕ). 34 ∷ xs) (found ∙ ap (λ (xs : List ℕ). value ++ 34 ∷ xs) e ∙ sym (append_assoc value (34 ∷ []) (tail left)));
  spelled = inr (refl, plain);
}

-- ---- a name at the front

names_are_tokens : (field : Field) → is_token (name_of field) ≡ true
names_are_tokens Username = refl
names_are_tokens Realm = refl
names_are_tokens Nonce = refl
names_are_tokens Uri = refl
names_are_tokens Response = refl
names_are_tokens Algorithm = refl
names_are_tokens Qop = refl
names_are_tokens Nc = refl
names_are_tokens Cnonce = refl

pub named_front : (text rest : List ℕ) (field : Field) → text ≡ (name_of field ++ 61 ∷ []) ++ rest → text ≡ name_of field ++ 61 ∷ rest
named_front text rest field e = e ∙ append_assoc (name_of field) (61 ∷ []) rest

-- ---- its ends

last_behind : (xs ys : List ℕ) → 0 < length ys → get_or (xs ++ ys) (length (xs ++ ys) - 1) 0 ≡ get_or ys (length ys - 1) 0
last_behind xs ys lt =
    let z : length (xs ++ ys) - 1 - length xs ≡ length ys - 1 = omega (arith, length-append xs ys) in
    get_or-append_right xs ys (length xs) (length (xs ++ ys) - 1) 0 refl (omega (arith, length-append xs ys)) ∙ ap (λ (k : ℕ). get_or ys k 0) z

value_last : (written value : List ℕ) → SpellsValue written value → (0 < length written) × (is_blank (get_or written (length written - 1) 0) ≡ false)
value_last written value (inl h) =
    let some = (some_parts is_token_byte value h.1).0 in
    subst (λ (xs : List ℕ). (0 < length xs) × (is_blank (get_or xs (length xs - 1) 0) ≡ false)) (sym h.0) (some, token_at value (length value - 1) h.1 (omega (arith, some)))
value_last written value (inr h) =
    subst (λ (xs : List ℕ). (0 < length xs) × (is_blank (get_or xs (length xs - 1) 0) ≡ false)) (sym h.0)
    (omega arith, ap is_blank (last_behind (34 ∷ value) (34 ∷ []) (omega arith)))

module _ (blanks name written value : List ℕ) (blank : list_all is_blank blanks ≡ true) (named : is_token name ≡ true) (spelled : SpellsValue written value) where
  abbrev core : List ℕ
  core = name ++ 61 ∷ written

  is_one : is_part false 44 (blanks ++ core) ≡ true
  is_one =
      plain_before blanks core (all_other is_blank 34 blanks refl blank) (all_other is_blank 44 blanks refl blank)
      ∙ plain_before name (61 ∷ written) (token_plain 34 name refl named) (token_plain 44 name refl named)
      ∙ plain_before (61 ∷ []) written refl refl ∙ value_part written value spelled

  first_plain : is_blank (get_or core 0 0) ≡ false
  first_plain =
      let some = (some_parts is_token_byte name named).0 in
      ap is_blank (get_or_append_left name (61 ∷ written) 0 0 some) ∙ token_at name 0 named some

  last_plain : is_blank (get_or core (length core - 1) 0) ≡ false
  last_plain =
      let last = value_last written value spelled in
      let cut : core ≡ (name ++ 61 ∷ []) ++ written = sym (append_assoc name (61 ∷ []) written) in
      ap (λ (xs : List ℕ). is_blank (get_or xs (length xs - 1) 0)) cut ∙ ap is_blank (last_behind (name ++ 61 ∷ []) written last.0) ∙ last.1

  spells : SpellsPart (blanks ++ core) (name, value)
  spells = record {
    core = core;
    padded = record {
      before = blanks;
      behind = [];
      parts = ap (λ (xs : List ℕ). blanks ++ xs) (sym (append-nil core));
      before_blank = blank;
      behind_blank = refl;
      ends = record { first = λ lt. first_plain; last = λ lt. last_plain };
    };
    spelled = record {
      before = [];
      behind = [];
      written = written;
      parts = ap (λ (xs : List ℕ). xs ++ 61 ∷ written) (sym (append-nil name));
      named = named;
      before_blank = refl;
      behind_blank = refl;
      spelled = spelled;
    };
  }

  cut : (left : Option (List ℕ)) → split false 44 ((blanks ++ core) ++ tail left) ≡ (blanks ++ core) ∷ parts_left 44 left
  cut None = ap (split false 44) (append-nil (blanks ++ core)) ∙ (alone false 44 (blanks ++ core) is_one).0
  cut (Some rest) = (followed false 44 (blanks ++ core) rest refl is_one).0

-- ---- the front of a text

shorter : (text part : List ℕ) (left : Option (List ℕ)) → text ≡ part ++ tail left → IfSome left (λ (rest : List ℕ). length rest < length text)
shorter text part None e = tt
shorter text part (Some rest) e = omega (arith, ap length e, length-append part (44 ∷ rest))

pub front_is : (text : List ℕ) (field : Field) (behind value : List ℕ) (left : Option (List ℕ)) → trim_start text ≡ name_of field ++ 61 ∷ behind → EndsValue behind value left
    → IsFront text (name_of field) value left
front_is text field behind value left found ends =
    let name = name_of field in
    let named = names_are_tokens field in
    let n = prefix_len is_blank text in
    let blanks = take n text in
    let all : text ≡ (blanks ++ (name ++ 61 ∷ ends.written)) ++ tail left =
    sym (take-append-drop n text)
    ∙ ap (λ (xs : List ℕ). blanks ++ xs) (found ∙ ap (λ (xs : List ℕ). name ++ 61 ∷ xs) ends.parts ∙ sym (append_assoc name (61 ∷ ends.written) (tail left)))
    ∙ sym (append_assoc blanks (name ++ 61 ∷ ends.written) (tail left)) in
    record {
      part = blanks ++ (name ++ 61 ∷ ends.written);
      cut = ap (split false 44) all ∙ cut blanks name ends.written value (front_blank text) named ends.spelled left;
      spelled = spells blanks name ends.written value (front_blank text) named ends.spelled;
      shorter = shorter text (blanks ++ (name ++ 61 ∷ ends.written)) left all;
    }

-- ---- the parameters of a list

-- one that begins so
pub front_put : (text name value : List ℕ) (left : Option (List ℕ)) (ps : ParameterTexts) (next : Option ParameterTexts) → IsFront text name value left → next ≡ put ps name value
    → gathered ps (split false 44 text) ≡ (next >>= λ (qs : ParameterTexts). gathered qs (parts_left 44 left))
unfolding gathered
front_put text name value left ps next f e =
    ap (gathered ps) f.cut ∙ ap (λ (o : Option ParameterTexts). o >>= λ (qs : ParameterTexts). gathered qs (parts_left 44 left)) (part_read ps f.part (Some (name, value)) f.spelled ∙ sym e)

-- and one that begins with any part
pub part_taken : (text part : List ℕ) (left : Option (List ℕ)) (ps : ParameterTexts) (next : Option ParameterTexts) → split false 44 text ≡ part ∷ parts_left 44 left → next ≡ taken ps part
    → gathered ps (split false 44 text) ≡ (next >>= λ (qs : ParameterTexts). gathered qs (parts_left 44 left))
unfolding gathered
part_taken text part left ps next cut e =
    ap (gathered ps) cut ∙ ap (λ (o : Option ParameterTexts). o >>= λ (qs : ParameterTexts). gathered qs (parts_left 44 left)) (sym e)

-- a list without parts
pub ended : (ps : ParameterTexts) → gathered ps [] ≡ Some ps
unfolding gathered
ended ps = refl
