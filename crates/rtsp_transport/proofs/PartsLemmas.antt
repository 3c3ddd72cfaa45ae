-- A text has one list of parts.
use Rattle.std.proofs.Common.{◌≡◌, ◌≢◌, ℕ, Bool, true, false, cond, eqb, List, [], ◌∷◌, ◌++◌, refl, sym, ap, subst, ◌∙◌}
use Rattle.std.specs.Prelude.{not, ◌&&◌, ◌||◌}
use Rattle.std.specs.List.{join_with_byte, AllByRecursion}
use Rattle.std.proofs.lemmas.Bool.{eqb-true, and_parts, and_from, not-true}
use Rattle.rtsp_transport.specs.Split.{is_part, IsPart, IsSplit, is_closed, onto_first, split}
use Rattle.rtsp_text.proofs.ByteLemmas.{eqb_same}
use Rattle.rtsp_transport.proofs.SplitLemmas.{split_quote, split_separator, split_plain}

-- a byte of a part separates nothing
part_byte : (x inside : Bool) → (inside || not x) ≡ true → (x && not inside) ≡ false
part_byte true true e = refl
part_byte true false e = absurd cc
part_byte false inside e = refl

-- a byte that separates nothing may stand in a part
byte_part : (x inside : Bool) → (x && not inside) ≡ false → (inside || not x) ≡ true
byte_part true true e = refl
byte_part true false e = absurd cc
byte_part false true e = refl
byte_part false false e = refl

separates : (x inside : Bool) → (x && not inside) ≡ true → (x ≡ true) × (inside ≡ false)
separates x inside e = let s = and_parts x (not inside) e in (s.0, not-true inside s.1)

pub nil_split : (inside : Bool) (separator : ℕ) → split inside separator [] ≡ [] ∷ []
unfolding split
nil_split inside separator = refl

pub alone : (inside : Bool) (separator : ℕ) (part : List ℕ) → is_part inside separator part ≡ true → (split inside separator part ≡ part ∷ []) × (is_closed inside part ≡ true)
alone inside separator [] e = (nil_split inside separator, e)
alone inside separator (b ∷ bytes) e = go (eqb b 34) refl (λ i h. alone i separator bytes h) where
  go : (x : Bool) → eqb b 34 ≡ x → ((i : Bool) → is_part i separator bytes ≡ true → (split i separator bytes ≡ bytes ∷ []) × (is_closed i bytes ≡ true)) → (split inside separator (b ∷ bytes) ≡ (b ∷ bytes) ∷ []) × (is_closed inside (b ∷ bytes) ≡ true)
  go true q again =
      let p : is_part (not inside) separator bytes ≡ true = rw q at e in
      let r = again (not inside) p in
      (split_quote inside separator b bytes q ∙ ap (onto_first (b ∷ [])) r.0, rw q r.1)
  go false q again =
      let p : ((inside || not (eqb b separator)) && is_part inside separator bytes) ≡ true = rw q at e in
      let s = and_parts (inside || not (eqb b separator)) (is_part inside separator bytes) p in
      let r = again inside s.1 in
      (split_plain inside separator b bytes q (part_byte (eqb b separator) inside s.0) ∙ ap (onto_first (b ∷ [])) r.0, rw q r.1)

pub followed : (inside : Bool) (separator : ℕ) (part rest : List ℕ) → eqb separator 34 ≡ false → is_part inside separator part ≡ true
    → (split inside separator (part ++ separator ∷ rest) ≡ part ∷ split false separator rest) × (is_closed inside (part ++ separator ∷ rest) ≡ is_closed false rest)
followed inside separator [] rest n e =
    let out : inside ≡ false = not-true inside e in
    (split_separator inside separator separator rest n (rw (eqb_same separator, out) refl), ap (λ (x : Bool). is_closed (cond x (not inside) inside) rest) n ∙ ap (λ (i : Bool). is_closed i rest) out)
followed inside separator (b ∷ bytes) rest n e = go (eqb b 34) refl (λ i h. followed i separator bytes rest n h) where
  go : (x : Bool) → eqb b 34 ≡ x → ((i : Bool) → is_part i separator bytes ≡ true → (split i separator (bytes ++ separator ∷ rest) ≡ bytes ∷ split false separator rest) × (is_closed i (bytes ++ separator ∷ rest) ≡ is_closed false rest))
      → (split inside separator (b ∷ (bytes ++ separator ∷ rest)) ≡ (b ∷ bytes) ∷ split false separator rest) × (is_closed inside (b ∷ (bytes ++ separator ∷ rest)) ≡ is_closed false rest)
  go true q again =
      let p : is_part (not inside) separator bytes ≡ true = rw q at e in
      let r = again (not inside) p in
      (split_quote inside separator b (bytes ++ separator ∷ rest) q ∙ ap (onto_first (b ∷ [])) r.0, ap (λ (x : Bool). is_closed (cond x (not inside) inside) (bytes ++ separator ∷ rest)) q ∙ r.1)
  go false q again =
      let p : ((inside || not (eqb b separator)) && is_part inside separator bytes) ≡ true = rw q at e in
      let s = and_parts (inside || not (eqb b separator)) (is_part inside separator bytes) p in
      let r = again inside s.1 in
      (split_plain inside separator b (bytes ++ separator ∷ rest) q (part_byte (eqb b separator) inside s.0) ∙ ap (onto_first (b ∷ [])) r.0, ap (λ (x : Bool). is_closed (cond x (not inside) inside) (bytes ++ separator ∷ rest)) q ∙ r.1)

joined_only : (separator : ℕ) (parts : List (List ℕ)) → eqb separator 34 ≡ false → parts ≢ [] → AllByRecursion (IsPart separator) parts
    → (split false separator (join_with_byte separator parts) ≡ parts) × (is_closed false (join_with_byte separator parts) ≡ true)
joined_only separator [] n some each = absurd (some refl)
joined_only separator (part ∷ []) n some each = alone false separator part each.0
joined_only separator (part ∷ next ∷ parts) n some each =
    let r = joined_only separator (next ∷ parts) n (λ e. absurd cc) each.1 in
    let f = followed false separator part (join_with_byte separator (next ∷ parts)) n each.0 in
    (f.0 ∙ ap (λ (ps : List (List ℕ)). part ∷ ps) r.0, f.1 ∙ r.1)

pub split_only : (separator : ℕ) (text : List ℕ) (parts : List (List ℕ)) → eqb separator 34 ≡ false → IsSplit separator text parts → (split false separator text ≡ parts) × (is_closed false text ≡ true)
split_only separator text parts n s =
    let r = joined_only separator parts n s.some s.each in
    (ap (split false separator) s.joined ∙ r.0, ap (is_closed false) s.joined ∙ r.1)

-- ---- the parts of a text whose quotes are in pairs

abbrev AreParts : Bool → ℕ → List (List ℕ) → Type 0
AreParts inside separator [] = ⊥
AreParts inside separator (part ∷ parts) = (is_part inside separator part ≡ true) × AllByRecursion (IsPart separator) parts

abbrev Makes : Bool → ℕ → List ℕ → List (List ℕ) → Type 0
Makes inside separator text parts = (text ≡ join_with_byte separator parts) × AreParts inside separator parts

join_onto : (separator b : ℕ) (parts : List (List ℕ)) → join_with_byte separator (onto_first (b ∷ []) parts) ≡ b ∷ join_with_byte separator parts
join_onto separator b [] = refl
join_onto separator b (part ∷ []) = refl
join_onto separator b (part ∷ next ∷ parts) = refl

makes_on : (inside next : Bool) (separator b : ℕ) (bytes : List ℕ) (parts : List (List ℕ)) → ((part : List ℕ) → is_part next separator part ≡ true → is_part inside separator (b ∷ part) ≡ true)
    → Makes next separator bytes parts → Makes inside separator (b ∷ bytes) (onto_first (b ∷ []) parts)
makes_on inside next separator b bytes [] h m = absurd m.1
makes_on inside next separator b bytes (part ∷ parts) h m =
    (ap (λ (xs : List ℕ). b ∷ xs) m.0 ∙ sym (join_onto separator b (part ∷ parts)), (h part m.1.0, m.1.1))

makes_new : (inside : Bool) (separator b : ℕ) (bytes : List ℕ) (parts : List (List ℕ)) → b ≡ separator → inside ≡ false → Makes false separator bytes parts → Makes inside separator (b ∷ bytes) ([] ∷ parts)
makes_new inside separator b bytes [] e n m = absurd m.1
makes_new inside separator b bytes (part ∷ parts) e n m =
    (ap (λ (x : ℕ). x ∷ bytes) e ∙ ap (λ (xs : List ℕ). separator ∷ xs) m.0, (ap not n, m.1))

makes_all : (inside : Bool) (separator : ℕ) (text : List ℕ) → is_closed inside text ≡ true → Makes inside separator text (split inside separator text)
makes_all inside separator [] e = subst (λ (ps : List (List ℕ)). Makes inside separator [] ps) (sym (nil_split inside separator)) (refl, (e, tt))
makes_all inside separator (b ∷ bytes) e = go (eqb b 34) (eqb b separator && not inside) refl refl (λ i h. makes_all i separator bytes h) where
  go : (x y : Bool) → eqb b 34 ≡ x → (eqb b separator && not inside) ≡ y → ((i : Bool) → is_closed i bytes ≡ true → Makes i separator bytes (split i separator bytes)) → Makes inside separator (b ∷ bytes) (split inside separator (b ∷ bytes))
  go true y q s again =
      let p : is_closed (not inside) bytes ≡ true = rw q at e in
      subst (λ (ps : List (List ℕ)). Makes inside separator (b ∷ bytes) ps) (sym (split_quote inside separator b bytes q))
      (makes_on inside (not inside) separator b bytes (split (not inside) separator bytes) (λ part h. rw q h) (again (not inside) p))
  go false true q s again =
      let p : is_closed inside bytes ≡ true = rw q at e in
      let t = separates (eqb b separator) inside s in
      let m : is_closed false bytes ≡ true = ap (λ (i : Bool). is_closed i bytes) (sym t.1) ∙ p in
      subst (λ (ps : List (List ℕ)). Makes inside separator (b ∷ bytes) ps) (sym (split_separator inside separator b bytes q s))
      (makes_new inside separator b bytes (split false separator bytes) (eqb-true b separator t.0) t.1 (again false m))
  go false false q s again =
      let p : is_closed inside bytes ≡ true = rw q at e in
      subst (λ (ps : List (List ℕ)). Makes inside separator (b ∷ bytes) ps) (sym (split_plain inside separator b bytes q s))
      (makes_on inside inside separator b bytes (split inside separator bytes) (λ part h. rw q (and_from (inside || not (eqb b separator)) (is_part inside separator part) (byte_part (eqb b separator) inside s) h)) (again inside p))

from_makes : (separator : ℕ) (text : List ℕ) (parts : List (List ℕ)) → Makes false separator text parts → IsSplit separator text parts
from_makes separator text [] m = absurd m.1
from_makes separator text (part ∷ parts) m = record { joined = m.0; each = m.1; some = λ e. absurd cc }

pub split_is : (separator : ℕ) (text : List ℕ) → is_closed false text ≡ true → IsSplit separator text (split false separator text)
split_is separator text e = from_makes separator text (split false separator text) (makes_all false separator text e)

pub part_closed : (separator : ℕ) (part : List ℕ) → IsPart separator part → is_closed false part ≡ true
part_closed separator part e = (alone false separator part e).1
