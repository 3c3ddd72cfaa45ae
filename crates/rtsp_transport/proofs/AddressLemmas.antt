-- A text has one address, or one pair of them.
use Rattle.std.proofs.Common.{◌≡◌, ℕ, ◌<◌, ◌≤◌, Bool, true, false, cond, eqb, List, [], ◌∷◌, ◌++◌, Some, None, refl, sym, ap, subst, ◌∙◌, append_assoc}
use Rattle.std.specs.Prelude.{◌&&◌, nat_le}
use Rattle.std.specs.List.{list_all}
use Rattle.std.proofs.lemmas.Bool.{leb-true, le-leb, eqb-true}
use Rattle.std.proofs.lemmas.Option.{same_Some}
use Rattle.rtsp_text.specs.Bytes.{is_other}
use Rattle.rtsp_text.specs.Options.{◌>>=◌}
use Rattle.rtsp_text.specs.SplitOnce.{split_once}
use Rattle.rtsp_text.specs.Decimal.{SpellsNumber, number_of}
use Rattle.rtsp_transport.specs.Address.{Place, Places, SpellsPlace, SpellsPlaces, SpellsQuoted, after, alone, whole, quoted_of, quoted_pair, quoted_whole, port_in, port_of, place_of, quoted_place_of, places_of}
use Rattle.rtsp_text.proofs.SplitLemmas.{split_parts, split_found}
use Rattle.rtsp_text.proofs.FindsLemmas.{chain_found, sound_at}
use Rattle.rtsp_text.proofs.DecimalLemmas.{numbers}

pub after_found : (byte : ℕ) (text rest : List ℕ) → after byte text ≡ Some rest → text ≡ byte ∷ rest
after_found byte [] rest e = absurd cc
after_found byte (b ∷ bytes) rest e = go (eqb b byte) refl e where
  go : (x : Bool) → eqb b byte ≡ x → cond x (Some bytes) None ≡ Some rest → b ∷ bytes ≡ byte ∷ rest
  go true q h = let same = eqb-true b byte q in cc
  go false q h = absurd cc

abbrev Quotes : List ℕ → List ℕ → List ℕ → Type 0
Quotes text inner rest = (text ≡ 34 ∷ inner ++ 34 ∷ rest) × (list_all (is_other 34) inner ≡ true)

quoted_found : (text : List ℕ) (p : List ℕ × List ℕ) → quoted_of text ≡ Some p → Quotes text p.0 p.1
unfolding quoted_of
quoted_found text p e =
    let s = chain_found (after 34 text) (split_once 34) p e in
    let c = split_parts 34 s.0 p s.2 in
    (after_found 34 text s.0 s.1 ∙ ap (λ (t : List ℕ). 34 ∷ t) c.0, c.1)

quoted_some : (inner rest : List ℕ) → list_all (is_other 34) inner ≡ true → quoted_of (34 ∷ inner ++ 34 ∷ rest) ≡ Some (inner, rest)
unfolding quoted_of
quoted_some inner rest h = split_found 34 inner rest h

alone_found : (first : List ℕ) (q p : List ℕ × List ℕ) → alone first q ≡ Some p → (q.1 ≡ []) × (p ≡ (first, q.0))
alone_found first (second, []) p e = (refl, let same : (first, second) ≡ p = cc in sym same)
alone_found first (second, b ∷ bytes) p e = absurd cc

record IsQuotedPair (text first second : List ℕ) : Type 0 where
  parts : text ≡ 34 ∷ first ++ 34 ∷ 47 ∷ 34 ∷ second ++ 34 ∷ []
  first_closed : list_all (is_other 34) first ≡ true
  second_closed : list_all (is_other 34) second ≡ true

regroup : (first second : List ℕ) → 34 ∷ first ++ 34 ∷ 47 ∷ 34 ∷ second ++ 34 ∷ [] ≡ 34 ∷ (first ++ 34 ∷ (47 ∷ (34 ∷ (second ++ 34 ∷ []))))
regroup first second = append_assoc (34 ∷ first) (34 ∷ 47 ∷ 34 ∷ second) (34 ∷ [])

pair_found : (text : List ℕ) (p : List ℕ × List ℕ) → quoted_pair text ≡ Some p → IsQuotedPair text p.0 p.1
unfolding quoted_pair
pair_found text p e =
    let s = chain_found (quoted_of text) (λ a. after 47 a.1 >>= λ rest. quoted_of rest >>= λ b. alone a.0 b) p e in
    let t = chain_found (after 47 s.0.1) (λ rest. quoted_of rest >>= λ b. alone s.0.0 b) p s.2 in
    let u = chain_found (quoted_of t.0) (λ b. alone s.0.0 b) p t.2 in
    let a = quoted_found text s.0 s.1 in
    let b = after_found 47 s.0.1 t.0 t.1 in
    let c = quoted_found t.0 u.0 u.1 in
    let d = alone_found s.0.0 u.0 p u.2 in
    let made : IsQuotedPair text s.0.0 u.0.0 = record {
      parts = a.0 ∙ ap (λ (r : List ℕ). 34 ∷ (s.0.0 ++ 34 ∷ r)) (b ∙ ap (λ (r : List ℕ). 47 ∷ r) (c.0 ∙ ap (λ (r : List ℕ). 34 ∷ (u.0.0 ++ 34 ∷ r)) d.0)) ∙ sym (regroup s.0.0 u.0.0);
      first_closed = a.1;
      second_closed = c.1;
    } in
    subst (λ (q : List ℕ × List ℕ). IsQuotedPair text q.0 q.1) (sym d.1) made

pair_some : (text first second : List ℕ) → IsQuotedPair text first second → quoted_pair text ≡ Some (first, second)
unfolding quoted_pair
pair_some text first second s =
    let whole = s.parts ∙ regroup first second in
    let a = quoted_some first (47 ∷ (34 ∷ (second ++ 34 ∷ []))) s.first_closed in
    let c = quoted_some second [] s.second_closed in
    rw whole (rw a (rw c refl))

-- ---- ports

port_in_found : (n m : ℕ) → port_in n ≡ Some m → (n ≡ m) × (0 < n) × (n ≤ 65535)
port_in_found n m e = go (nat_le 1 n) (nat_le n 65535) refl refl e where
  go : (x y : Bool) → nat_le 1 n ≡ x → nat_le n 65535 ≡ y → cond (x && y) (Some n) None ≡ Some m → (n ≡ m) × (0 < n) × (n ≤ 65535)
  go true true p q h = (cc, leb-true 1 n p, leb-true n 65535 q)
  go true false p q h = absurd cc
  go false y p q h = absurd cc

pub port_found : (digits : List ℕ) (n : ℕ) → port_of digits ≡ Some n → SpellsNumber 5 digits n × (0 < n) × (n ≤ 65535)
unfolding port_of
port_found digits n e =
    let s = chain_found (number_of 5 digits) port_in n e in
    let p = port_in_found s.0 n s.2 in
    let r = sound_at (SpellsNumber 5) (number_of 5) (numbers 5) digits s.0 s.1 in
    (subst (λ (k : ℕ). SpellsNumber 5 digits k) p.0 r, subst (λ (k : ℕ). 0 < k) p.0 p.1, subst (λ (k : ℕ). k ≤ 65535) p.0 p.2)

pub port_some : (digits : List ℕ) (n : ℕ) → SpellsNumber 5 digits n → 0 < n → n ≤ 65535 → port_of digits ≡ Some n
unfolding port_of
port_some digits n s low high =
    let a = (numbers 5).complete digits n s in
    let l = le-leb 1 n low in
    let h = le-leb n 65535 high in
    rw a (rw (l, h) refl)

-- ---- addresses

pub place_sound : (text : List ℕ) (p : Place) → place_of text ≡ Some p → SpellsPlace text p
unfolding place_of
place_sound text p e =
    let s = chain_found (split_once 58 text) (λ parts. port_of parts.1 >>= λ port. Some (made parts.0 port)) p e in
    let t = chain_found (port_of s.0.1) (λ port. Some (made s.0.0 port)) p s.2 in
    let c = split_parts 58 text s.0 s.1 in
    let n = port_found s.0.1 t.0 t.1 in
    subst (λ (q : Place). SpellsPlace text q) (same_Some (made s.0.0 t.0) p t.2) (record { digits = s.0.1; parts = c.0; host = c.1; port = n.0; some = n.1; few = n.2 }) where
      made : List ℕ → ℕ → Place
      made host port = record { host = host; port = port }

pub place_complete : (text : List ℕ) (p : Place) → SpellsPlace text p → place_of text ≡ Some p
unfolding place_of
place_complete text p s =
    let whole = s.parts in
    let a = split_found 58 p.host s.digits s.host in
    let b = port_some s.digits p.port s.port s.some s.few in
    rw whole (rw a (rw b refl))

whole_found : (p : List ℕ × List ℕ) (inner : List ℕ) → whole p ≡ Some inner → (p.1 ≡ []) × (p.0 ≡ inner)
whole_found (first, []) inner e = (refl, cc)
whole_found (first, b ∷ bytes) inner e = absurd cc

pub quoted_sound : (text : List ℕ) (p : Place) → quoted_place_of text ≡ Some p → SpellsQuoted text p
unfolding quoted_place_of quoted_whole
quoted_sound text p e =
    let s = chain_found (quoted_whole text) place_of p e in
    let t = chain_found (quoted_of text) whole s.0 s.1 in
    let q = quoted_found text t.0 t.1 in
    let w = whole_found t.0 s.0 t.2 in
    record {
      inner = s.0;
      parts = q.0 ∙ ap (λ (r : List ℕ). 34 ∷ t.0.0 ++ 34 ∷ r) w.0 ∙ ap (λ (i : List ℕ). 34 ∷ i ++ 34 ∷ []) w.1;
      closed = subst (λ (i : List ℕ). list_all (is_other 34) i ≡ true) w.1 q.1;
      spells = place_sound s.0 p s.2;
    }

pub quoted_complete : (text : List ℕ) (p : Place) → SpellsQuoted text p → quoted_place_of text ≡ Some p
unfolding quoted_place_of quoted_whole
quoted_complete text p s =
    let parts = s.parts in
    let a = quoted_some s.inner [] s.closed in
    let b = place_complete s.inner p s.spells in
    rw parts (rw a (rw b refl))

pub places_sound : (text : List ℕ) (p : Places) → places_of text ≡ Some p → SpellsPlaces text p
unfolding places_of
places_sound text p e =
    let s = chain_found (quoted_pair text) (λ parts. place_of parts.0 >>= λ rtp. place_of parts.1 >>= λ rtcp. Some (made rtp rtcp)) p e in
    let t = chain_found (place_of s.0.0) (λ rtp. place_of s.0.1 >>= λ rtcp. Some (made rtp rtcp)) p s.2 in
    let u = chain_found (place_of s.0.1) (λ rtcp. Some (made t.0 rtcp)) p t.2 in
    let q = pair_found text s.0 s.1 in
    subst (λ (x : Places). SpellsPlaces text x) (same_Some (made t.0 u.0) p u.2)
    (record { first = s.0.0; second = s.0.1; parts = q.parts; first_closed = q.first_closed; second_closed = q.second_closed; rtp = place_sound s.0.0 t.0 t.1; rtcp = place_sound s.0.1 u.0 u.1 }) where
      made : Place → Place → Places
      made rtp rtcp = record { rtp = rtp; rtcp = rtcp }

pub places_complete : (text : List ℕ) (p : Places) → SpellsPlaces text p → places_of text ≡ Some p
unfolding places_of
places_complete text p s =
    let a = pair_some text s.first s.second (record { parts = s.parts; first_closed = s.first_closed; second_closed = s.second_closed }) in
    let b = place_complete s.first p.rtp s.rtp in
    let c = place_complete s.second p.rtcp s.rtcp in
    rw a (rw b (rw c refl))
