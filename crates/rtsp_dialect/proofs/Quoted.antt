-- Parts of a text that are put together anew.
use Rattle.std.proofs.Common.{◌≡◌, ℕ, ◌-◌, Bool, true, false, cond, eqb, List, [], ◌∷◌, ◌++◌, length, get_or, refl, sym, ap, subst, ◌∙◌, arith, append_assoc, append-nil}
use Rattle.std.specs.Prelude.{not, ◌&&◌, ◌||◌, codes}
use Rattle.std.specs.List.{list_all, join_with_byte, AllByRecursion}
use Rattle.std.proofs.lemmas.Bool.{and_parts, and_from, not-true}
use Rattle.std.proofs.lemmas.List.{get_or-append_right, length-append}
use Rattle.rtsp_text.specs.Bytes.{is_other, is_blank}
use Rattle.rtsp_text.specs.Trim.{IsPadded}
use Rattle.rtsp_transport.specs.Address.{Places, SpellsPlaces}
use Rattle.rtsp_transport.specs.Split.{is_part, IsPart, is_closed}
use Rattle.rtsp_transport.proofs.PartsLemmas.{part_closed}
use Rattle.rtsp_dialect.specs.ClientPort.{addresses_text}

-- what follows a part begins outside quotes
part_append : (inside : Bool) (separator : ℕ) (xs ys : List ℕ) → is_part inside separator xs ≡ true → is_part inside separator (xs ++ ys) ≡ is_part false separator ys
part_append inside separator [] ys h = ap (λ (i : Bool). is_part i separator ys) (not-true inside h)
part_append inside separator (b ∷ bytes) ys h = go (eqb b 34) h (λ i p. part_append i separator bytes ys p) where
  go : (x : Bool) → cond x (is_part (not inside) separator bytes) ((inside || not (eqb b separator)) && is_part inside separator bytes) ≡ true
      → ((i : Bool) → is_part i separator bytes ≡ true → is_part i separator (bytes ++ ys) ≡ is_part false separator ys)
      → cond x (is_part (not inside) separator (bytes ++ ys)) ((inside || not (eqb b separator)) && is_part inside separator (bytes ++ ys)) ≡ is_part false separator ys
  go true p again = again (not inside) p
  go false p again =
      let s = and_parts (inside || not (eqb b separator)) (is_part inside separator bytes) p in
      ap (λ (x : Bool). x && is_part inside separator (bytes ++ ys)) s.0 ∙ again inside s.1

-- the front of a part is a part, where its quotes are in pairs
part_front : (inside : Bool) (separator : ℕ) (xs ys : List ℕ) → is_closed inside xs ≡ true → is_part inside separator (xs ++ ys) ≡ true → is_part inside separator xs ≡ true
part_front inside separator [] ys closed h = closed
part_front inside separator (b ∷ bytes) ys closed h = go (eqb b 34) closed h (λ i c p. part_front i separator bytes ys c p) where
  go : (x : Bool) → is_closed (cond x (not inside) inside) bytes ≡ true
      → cond x (is_part (not inside) separator (bytes ++ ys)) ((inside || not (eqb b separator)) && is_part inside separator (bytes ++ ys)) ≡ true
      → ((i : Bool) → is_closed i bytes ≡ true → is_part i separator (bytes ++ ys) ≡ true → is_part i separator bytes ≡ true)
      → cond x (is_part (not inside) separator bytes) ((inside || not (eqb b separator)) && is_part inside separator bytes) ≡ true
  go true c p again = again (not inside) c p
  go false c p again =
      let s = and_parts (inside || not (eqb b separator)) (is_part inside separator (bytes ++ ys)) p in
      and_from (inside || not (eqb b separator)) (is_part inside separator bytes) s.0 (again inside c s.1)

-- a part between commas is parts between semicolons, each of which has no comma
pub pieces : (parts : List (List ℕ)) → AllByRecursion (IsPart 59) parts → IsPart 44 (join_with_byte 59 parts) → AllByRecursion (IsPart 44) parts
pieces [] each h = tt
pieces (part ∷ []) each h = (h, tt)
pieces (part ∷ next ∷ parts) each h =
    let rest = 59 ∷ join_with_byte 59 (next ∷ parts) in
    let front = part_front false 44 part rest (part_closed 59 part each.0) h in
    (front, pieces (next ∷ parts) each.1 (sym (part_append false 44 part rest front) ∙ h))

pub together : (part : List ℕ) (parts : List (List ℕ)) → IsPart 44 part → AllByRecursion (IsPart 44) parts → IsPart 44 (join_with_byte 59 (part ∷ parts))
together part [] h each = h
together part (next ∷ parts) h each = part_append false 44 part (59 ∷ join_with_byte 59 (next ∷ parts)) h ∙ together next parts each.0 each.1

-- ---- an address

abbrev pub address : List ℕ × List ℕ → List ℕ
address ports = codes "dest_addr=" ++ addresses_text ports

-- in quotes nothing separates
quoted : (separator : ℕ) (xs ys : List ℕ) → list_all (is_other 34) xs ≡ true → is_part true separator (xs ++ ys) ≡ is_part true separator ys
quoted separator [] ys h = refl
quoted separator (b ∷ bytes) ys h =
    let s = and_parts (is_other 34 b) (list_all (is_other 34) bytes) h in
    rw (not-true (eqb b 34) s.0) (quoted separator bytes ys s.1)

-- a separator that isn't in the rest of an address
pub address_among : (separator : ℕ) → IsPart separator (codes "dest_addr=") → IsPart separator (codes "/") → (ports : List ℕ × List ℕ) (places : Places) → SpellsPlaces (addresses_text ports) places
    → IsPart separator (address ports)
address_among separator name slash ports places s =
    part_append false separator (codes "dest_addr=") (addresses_text ports) name
    ∙ ap (is_part false separator) (s.parts ∙ append_assoc (34 ∷ s.first) (34 ∷ 47 ∷ 34 ∷ s.second) (34 ∷ []))
    ∙ quoted separator s.first (34 ∷ 47 ∷ 34 ∷ s.second ++ 34 ∷ []) s.first_closed
    ∙ part_append false separator (codes "/") (34 ∷ s.second ++ 34 ∷ []) slash
    ∙ quoted separator s.second (34 ∷ []) s.second_closed

last_plain : (front : List ℕ) → is_blank (get_or (front ++ 34 ∷ []) (length (front ++ 34 ∷ []) - 1) 0) ≡ false
last_plain front =
    let n : length (front ++ 34 ∷ []) - 1 ≡ length front = omega (arith, length-append front (34 ∷ [])) in
    let z : length front - length front ≡ 0 = omega arith in
    subst (λ (k : ℕ). is_blank (get_or (front ++ 34 ∷ []) k 0) ≡ false) (sym n)
    (rw (get_or-append_right front (34 ∷ []) (length front) (length front) 0 refl (omega arith)) (rw z refl))

pub address_padded : (ports : List ℕ × List ℕ) → IsPadded (address ports) (address ports)
address_padded ports = record {
  before = [];
  behind = [];
  parts = sym (append-nil (address ports));
  before_blank = refl;
  behind_blank = refl;
  ends = record { first = λ lt. refl; last = λ lt. last_plain (codes "dest_addr=" ++ (codes "\":" ++ ports.0 ++ codes "\"/\":" ++ ports.1)) };
}
