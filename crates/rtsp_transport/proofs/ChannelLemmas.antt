-- A text is one pair of channels, or none.
use Rattle.std.proofs.Common.{◌≡◌, ℕ, ◌+◌, ◌%◌, ◌≤◌, Bool, true, false, cond, eqb, List, Option, Some, None, refl, subst, eq-eqb}
use Rattle.std.specs.Prelude.{◌&&◌, nat_le}
use Rattle.std.specs.Char.{is_ascii_digit}
use Rattle.std.proofs.lemmas.Bool.{leb-true, le-leb, eqb-true}
use Rattle.rtsp_text.specs.Options.{◌>>=◌}
use Rattle.rtsp_text.specs.SplitOnce.{split_once}
use Rattle.rtsp_text.specs.Decimal.{SpellsNumber, number_of}
use Rattle.rtsp_transport.specs.Channels.{SpellsPair, IsPairOf, pair_in, pair_of}
use Rattle.rtsp_text.proofs.ByteLemmas.{all_other}
use Rattle.rtsp_text.proofs.SplitLemmas.{split_found, split_parts}
use Rattle.rtsp_text.proofs.FindsLemmas.{chain_found, sound_at}
use Rattle.rtsp_text.proofs.DecimalLemmas.{numbers, digit_bytes}

-- two numbers are the pair that begins at a channel
record AreChannels (low high k : ℕ) : Type 0 where
  same : low ≡ k
  even : low % 2 ≡ 0
  few : low ≤ 254
  next : high ≡ low + 1

pair_in_found : (low high k : ℕ) → pair_in low high ≡ Some k → AreChannels low high k
pair_in_found low high k e = go (nat_le low 254) (eqb high (low + 1)) (eqb (low % 2) 0) refl refl refl e where
  go : (y z x : Bool) → nat_le low 254 ≡ y → eqb high (low + 1) ≡ z → eqb (low % 2) 0 ≡ x → cond (y && z) (cond (x && y) (Some low) None) None ≡ Some k → AreChannels low high k
  go true true true q r p h = record { same = cc; even = eqb-true (low % 2) 0 p; few = leb-true low 254 q; next = eqb-true high (low + 1) r }
  go true true false q r p h = absurd cc
  go true false x q r p h = absurd cc
  go false z x q r p h = absurd cc

pair_sound : (text : List ℕ) (k : ℕ) → pair_of text ≡ Some k → SpellsPair text k
unfolding pair_of
pair_sound text k e =
    let s = chain_found (split_once 45 text) (λ parts. number_of 3 parts.0 >>= λ low. number_of 3 parts.1 >>= λ high. pair_in low high) k e in
    let t = chain_found (number_of 3 s.0.0) (λ low. number_of 3 s.0.1 >>= λ high. pair_in low high) k s.2 in
    let u = chain_found (number_of 3 s.0.1) (λ high. pair_in t.0 high) k t.2 in
    let w = pair_in_found t.0 u.0 k u.2 in
    let low = sound_at (SpellsNumber 3) (number_of 3) (numbers 3) s.0.0 t.0 t.1 in
    let high = sound_at (SpellsNumber 3) (number_of 3) (numbers 3) s.0.1 u.0 u.1 in
    let made : SpellsPair text t.0 = record {
      first = s.0.0;
      second = s.0.1;
      parts = (split_parts 45 text s.0 s.1).0;
      low = low;
      high = subst (λ (n : ℕ). SpellsNumber 3 s.0.1 n) w.next high;
      even = w.even;
      few = w.few;
    } in
    subst (λ (n : ℕ). SpellsPair text n) w.same made

pub pair_complete : (text : List ℕ) (k : ℕ) → SpellsPair text k → pair_of text ≡ Some k
unfolding pair_of
pair_complete text k s =
    let whole = s.parts in
    let a = split_found 45 s.first s.second (all_other is_ascii_digit 45 s.first refl (digit_bytes s.first s.low.digits.1)) in
    let b = (numbers 3).complete s.first k s.low in
    let c = (numbers 3).complete s.second (k + 1) s.high in
    let p = eq-eqb (k % 2) 0 s.even in
    let q = le-leb k 254 s.few in
    let r = eq-eqb (k + 1) (k + 1) refl in
    rw whole (rw a (rw b (rw c (rw (p, q, r) refl))))

pub is_pair : (text : List ℕ) → IsPairOf text (pair_of text)
is_pair text = go (pair_of text) refl where
  go : (o : Option ℕ) → pair_of text ≡ o → IsPairOf text o
  go (Some k) e = pair_sound text k e
  go None e = λ k s. let c = pair_complete text k s in absurd cc

pub one_pair : (text : List ℕ) (o : Option ℕ) → IsPairOf text o → pair_of text ≡ o
one_pair text (Some k) s = pair_complete text k s
one_pair text None none = go (pair_of text) refl where
  go : (o : Option ℕ) → pair_of text ≡ o → pair_of text ≡ None
  go (Some k) e = absurd (none k (pair_sound text k e))
  go None e = e
