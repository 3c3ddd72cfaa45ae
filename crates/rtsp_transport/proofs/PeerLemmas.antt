-- A text is an address's, or it isn't.
use Rattle.std.proofs.Common.{◌≡◌, ℕ, ◌/◌, ◌%◌, Bool, true, false, cond, eqb, nat_eq, List, [], ◌∷◌, ◌++◌, length, drop, Some, None, refl, sym, ap, ◌∙◌, arith}
use Rattle.std.specs.Prelude.{decimal}
use Rattle.std.specs.List.{starts_with}
use Rattle.std.specs.Cmp.Lexicographic.{same_text}
use Rattle.std.proofs.lemmas.Bool.{eqb-true, ne_eqb, and_parts, and_from, false_from_ne_true}
use Rattle.std.proofs.lemmas.Cmp.{nat_list_eq_equiv}
use Rattle.std.proofs.lemmas.List.{append-nil, drop_at}
use Rattle.rtsp_text.specs.Options.{◌>>=◌}
use Rattle.rtsp_transport.specs.Address.{after}
use Rattle.rtsp_transport.specs.Peer.{after_text, after_peer, peer_text, is_peer}
use Rattle.rtsp_text.proofs.ByteLemmas.{eqb_same}
use Rattle.rtsp_transport.proofs.AddressLemmas.{after_found}
use Rattle.rtsp_text.proofs.FindsLemmas.{chain_found}

starts_parts : (front text : List ℕ) → starts_with nat_eq text front ≡ true → text ≡ front ++ drop (length front) text
starts_parts [] text e = refl
starts_parts (p ∷ front) [] e = absurd cc
starts_parts (p ∷ front) (b ∷ text) e =
    let s = and_parts (eqb p b) (starts_with nat_eq text front) e in
    ap (λ (x : ℕ). x ∷ text) (sym (eqb-true p b s.0)) ∙ ap (λ (xs : List ℕ). p ∷ xs) (starts_parts front text s.1)

starts_some : (front rest : List ℕ) → starts_with nat_eq (front ++ rest) front ≡ true
starts_some [] rest = refl
starts_some (p ∷ front) rest = and_from (eqb p p) (starts_with nat_eq (front ++ rest) front) (eqb_same p) (starts_some front rest)

pub after_text_found : (front text rest : List ℕ) → after_text front text ≡ Some rest → text ≡ front ++ rest
unfolding after_text
after_text_found front text rest e = go (starts_with nat_eq text front) refl e where
  go : (x : Bool) → starts_with nat_eq text front ≡ x → cond x (Some (drop (length front) text)) None ≡ Some rest → text ≡ front ++ rest
  go true s h = let same : drop (length front) text ≡ rest = cc in starts_parts front text s ∙ ap (λ (r : List ℕ). front ++ r) same
  go false s h = absurd cc

pub after_text_some : (front rest : List ℕ) → after_text front (front ++ rest) ≡ Some rest
unfolding after_text
after_text_some front rest = let s = starts_some front rest in let d = drop_at front rest (length front) refl in rw s (ap Some d)

peer_found : (peer : ℕ) (text rest : List ℕ) → after_peer peer text ≡ Some rest → text ≡ decimal (peer / 0x1000000) ++ 46 ∷ (decimal (peer / 0x10000 % 256) ++ 46 ∷ (decimal (peer / 0x100 % 256) ++ 46 ∷ (decimal (peer % 256) ++ rest)))
unfolding after_peer
peer_found peer text rest e = steps (decimal (peer / 0x1000000)) (decimal (peer / 0x10000 % 256)) (decimal (peer / 0x100 % 256)) (decimal (peer % 256)) e where
  steps : (p q r s : List ℕ) → (after_text p text >>= λ a. after 46 a >>= λ b. after_text q b >>= λ c. after 46 c >>= λ d. after_text r d >>= λ e. after 46 e >>= λ f. after_text s f) ≡ Some rest
      → text ≡ p ++ 46 ∷ (q ++ 46 ∷ (r ++ 46 ∷ (s ++ rest)))
  steps p q r s h =
      let a = chain_found (after_text p text) (λ a. after 46 a >>= λ b. after_text q b >>= λ c. after 46 c >>= λ d. after_text r d >>= λ e. after 46 e >>= λ f. after_text s f) rest h in
      let b = chain_found (after 46 a.0) (λ b. after_text q b >>= λ c. after 46 c >>= λ d. after_text r d >>= λ e. after 46 e >>= λ f. after_text s f) rest a.2 in
      let c = chain_found (after_text q b.0) (λ c. after 46 c >>= λ d. after_text r d >>= λ e. after 46 e >>= λ f. after_text s f) rest b.2 in
      let d = chain_found (after 46 c.0) (λ d. after_text r d >>= λ e. after 46 e >>= λ f. after_text s f) rest c.2 in
      let e = chain_found (after_text r d.0) (λ e. after 46 e >>= λ f. after_text s f) rest d.2 in
      let f = chain_found (after 46 e.0) (λ f. after_text s f) rest e.2 in
      after_text_found p text a.0 a.1 ∙ ap (λ (t : List ℕ). p ++ t) (after_found 46 a.0 b.0 b.1 ∙ ap (λ (t : List ℕ). 46 ∷ t) (after_text_found q b.0 c.0 c.1 ∙ ap (λ (t : List ℕ). q ++ t)
      (after_found 46 c.0 d.0 d.1 ∙ ap (λ (t : List ℕ). 46 ∷ t) (after_text_found r d.0 e.0 e.1 ∙ ap (λ (t : List ℕ). r ++ t) (after_found 46 e.0 f.0 f.1 ∙ ap (λ (t : List ℕ). 46 ∷ t) (after_text_found s f.0 rest f.2))))))

peer_spelled : (peer : ℕ) → after_peer peer (peer_text peer) ≡ Some []
unfolding after_peer
peer_spelled peer = steps (decimal (peer / 0x1000000)) (decimal (peer / 0x10000 % 256)) (decimal (peer / 0x100 % 256)) (decimal (peer % 256)) where
  steps : (p q r s : List ℕ) → (after_text p (p ++ 46 ∷ (q ++ 46 ∷ (r ++ 46 ∷ s))) >>= λ a. after 46 a >>= λ b. after_text q b >>= λ c. after 46 c >>= λ d. after_text r d >>= λ e. after 46 e >>= λ f. after_text s f) ≡ Some []
  steps p q r s =
      let a = after_text_some p (46 ∷ (q ++ 46 ∷ (r ++ 46 ∷ s))) in
      let b = after_text_some q (46 ∷ (r ++ 46 ∷ s)) in
      let c = after_text_some r (46 ∷ s) in
      let d : after_text s s ≡ Some [] = ap (after_text s) (sym (append-nil s)) ∙ after_text_some s [] in
      rw a (rw b (rw c d))

pub peer_is : (peer : ℕ) (text : List ℕ) → text ≡ peer_text peer → is_peer peer text ≡ true
peer_is peer text e = ap (is_peer peer) e ∙ nat_list_eq_equiv.refl (peer_text peer)

pub peer_some : (peer : ℕ) (text rest : List ℕ) (empty : Bool) → Some rest ≡ after_peer peer text → empty ≡ eqb (length rest) 0 → empty ≡ is_peer peer text
peer_some peer text [] empty e n =
    n ∙ sym (peer_is peer text (peer_found peer text [] (sym e) ∙ ap (λ (t : List ℕ). decimal (peer / 0x1000000) ++ 46 ∷ (decimal (peer / 0x10000 % 256) ++ 46 ∷ (decimal (peer / 0x100 % 256) ++ 46 ∷ t))) (append-nil (decimal (peer % 256)))))
peer_some peer text (b ∷ rest) empty e n =
    let f : eqb (length (b ∷ rest)) 0 ≡ false = ne_eqb (length (b ∷ rest)) 0 (λ z. omega arith) in
    n ∙ f ∙ sym (false_from_ne_true (is_peer peer text) (λ t. let h = e ∙ ap (after_peer peer) (same_text text (peer_text peer) (sym t)) ∙ peer_spelled peer in absurd cc))

pub peer_none : (peer : ℕ) (text : List ℕ) → None ≡ after_peer peer text → false ≡ is_peer peer text
peer_none peer text e = sym (false_from_ne_true (is_peer peer text) (λ t. let h = e ∙ ap (after_peer peer) (same_text text (peer_text peer) (sym t)) ∙ peer_spelled peer in absurd cc))
