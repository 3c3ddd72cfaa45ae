-- The name in a Session header.
use Rattle.std.proofs.Common.{◌≡◌, ◌≢◌, ◌<◌, ℕ, true, false, eqb, List, [], ◌∷◌, ◌++◌, length, Option, Some, None, refl, sym, ap, subst, ◌∙◌, arith}
use Rattle.std.specs.Prelude.{◌↔◌, not, ◌&&◌, nat_le}
use Rattle.std.specs.List.{list_all}
use Rattle.std.proofs.lemmas.Bool.{leb-true, le-leb, eqb-false, ne_eqb, not-true, and_parts, and_from, both_ways}
use Rattle.std.proofs.lemmas.List.{append-nil}
use Rattle.rtsp_text.specs.Bytes.{is_other}
use Rattle.rtsp_text.specs.SplitOnce.{split_once, IsSplitAt}
use Rattle.rtsp_transport.specs.Session.{is_session_byte, IsIgnored, SpellsSession, front_of, name_of, is_session_name}
use Rattle.rtsp_text.proofs.ByteLemmas.{all_other}
use Rattle.rtsp_text.proofs.SplitLemmas.{split_is, split_found, split_missed}

ne_zero : (n : ℕ) → not (eqb n 0) ≡ true → n ≢ 0
ne_zero n e = eqb-false n 0 (not-true (eqb n 0) e)

zero_ne : (n : ℕ) → 0 < n → not (eqb n 0) ≡ true
zero_ne n lt = let f = ne_eqb n 0 (λ z. absurd (omega arith)) in ap not f

pub name_spelled : (text : List ℕ) → is_session_name (name_of text) ≡ true → SpellsSession text (name_of text)
name_spelled text e =
    let outer = and_parts (not (eqb (length (name_of text)) 0) && nat_le (length (name_of text)) 256) (list_all is_session_byte (name_of text)) e in
    let inner = and_parts (not (eqb (length (name_of text)) 0)) (nat_le (length (name_of text)) 256) outer.0 in
    let n = ne_zero (length (name_of text)) inner.0 in
    let r = rest (split_once 59 text) (split_is 59 text) in
    record { rest = r.0; parts = r.1; ignored = r.2; some = omega arith; few = leb-true _ _ inner.1; bytes = outer.1 } where
      rest : (r : Option (List ℕ × List ℕ)) → IsSplitAt 59 text r → (more : List ℕ) × (text ≡ front_of text r ++ more) × IsIgnored more
      rest None h = ([], sym (append-nil text), tt)
      rest (Some p) h = (59 ∷ p.1, h.0, refl)

one_name : (text name rest : List ℕ) → text ≡ name ++ rest → IsIgnored rest → list_all (is_other 59) name ≡ true → name_of text ≡ name
one_name text name [] e i h =
    let whole : text ≡ name = e ∙ append-nil name in
    ap name_of whole ∙ ap (front_of name) (split_missed 59 name h)
one_name text name (b ∷ rest) e i h =
    ap name_of (e ∙ ap (λ (x : ℕ). name ++ x ∷ rest) i) ∙ ap (front_of (name ++ 59 ∷ rest)) (split_found 59 name rest h)

pub name_only : (text name : List ℕ) → SpellsSession text name → (name_of text ≡ name) × (is_session_name (name_of text) ≡ true)
name_only text name s =
    let n = one_name text name s.rest s.parts s.ignored (all_other is_session_byte 59 name refl s.bytes) in
    (n, ap is_session_name n ∙ and_from (not (eqb (length name) 0) && nat_le (length name) 256) (list_all is_session_byte name) (and_from (not (eqb (length name) 0)) (nat_le (length name) 256) (zero_ne (length name) s.some) (le-leb (length name) 256 s.few)) s.bytes)

pub no_name : (text : List ℕ) → is_session_name (name_of text) ≡ false → (name : List ℕ) → ¬ SpellsSession text name
no_name text e name s = both_ways (is_session_name (name_of text)) e (name_only text name s).1

-- what is spelled is what is read
pub session_is : (text name : List ℕ) → SpellsSession text name ↔ ((name_of text ≡ name) × (is_session_name name ≡ true))
session_is text name = (
  λ s. let n = name_only text name s in (n.0, ap is_session_name (sym n.0) ∙ n.1),
  λ h. subst (λ (x : List ℕ). SpellsSession text x) h.0 (name_spelled text (ap is_session_name h.0 ∙ h.1)),
)
